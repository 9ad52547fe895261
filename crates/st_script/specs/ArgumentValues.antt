-- From the texts of a command to values, and back.
use Rattle.std.specs.Prelude.{ℕ, List, [], ◌∷◌, Bool, true, false, Option, Some, None, Result, Ok, Err, unwrap_or, slice_get, if◌then◌else◌}
use Rattle.st_classes.specs.declared.values.Selector.{Selector}
use Rattle.st_classes.specs.declared.values.Value.{Value}
use Rattle.st_classes.specs.declared.values.Value.TheVariants as value
use Rattle.st_classes.specs.declared.refusals.Refusal.{Refusal}
use Rattle.st_classes.specs.declared.refusals.Refusal.TheVariants.{BadName, NoSuchMethod}
use Rattle.st_classes.specs.Selectors.{is_selector, place_of}
use Rattle.st_classes.specs.Kernel.{selector}
use Rattle.st_classes.specs.Classes.{class_name}
use Rattle.st_image.specs.Images.{ImageView, world}
use Rattle.st_wire.specs.declared.replies.Answered.{Answered}
use Rattle.st_wire.specs.declared.replies.Answered.TheVariants as answered

-- a selector is looked up, not interned: a text that is not a selector is BadName, and one that was never interned is
-- NoSuchMethod, since no class has a method for it
abbrev pub found_selector : List (List ℕ) → List ℕ → Result Selector Refusal
found_selector names text = if is_selector text then selector_at (place_of names text) else Err BadName
  where
    selector_at : Option ℕ → Result Selector Refusal
    selector_at None = Err NoSuchMethod
    selector_at (Some place) = Ok (selector place)

-- a value prepended to others, unless these are refused
abbrev pub with_first : Value → Result (List Value) Refusal → Result (List Value) Refusal
with_first v (Ok vs) = Ok (v ∷ vs)
with_first v (Err e) = Err e

-- a value, with its names as texts
abbrev pub value_text : ImageView → Value → Answered
value_text i (value.Int z) = answered.Int z
value_text i (value.Bool b) = answered.Bool b
value_text i value.Nil = answered.Nil
value_text i (value.Sym s) = answered.Symbol (unwrap_or (slice_get i.names s.0) [])
value_text i (value.Class c) = answered.Class (unwrap_or (class_name (world i).edits c) [])
value_text i (value.Actor a) = answered.Actor a
value_text i (value.Local n) = answered.Local n

-- values whose reply copies a text
abbrev pub is_told_by_text : Value → Bool
is_told_by_text (value.Sym s) = true
is_told_by_text (value.Class c) = true
is_told_by_text _ = false
