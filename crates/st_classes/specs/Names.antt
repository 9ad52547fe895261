-- The name table: a list of texts, whose indexes are the numbers of the names.
use Rattle.std.specs.Prelude.{◌≡◌, ℕ, ◌≤◌, ◌&&◌, List, [], ◌∷◌, ◌++◌, length, Bool, true, not, Some, nat_le, slice_get, take, if◌then◌else◌, map}
use Rattle.std.specs.List.{list_any}
use Rattle.std.specs.Str.{bytes_eq}
use Rattle.std.specs.Global.{Vec}
use Rattle.st_classes.specs.declared.refusals.Refusal.TheVariants.{BadName, TooMany}
use Rattle.st_classes.specs.declared.refusals.Limited.TheVariants.{Names}
use Rattle.st_classes.specs.Refusals.{Rule}
use Rattle.st_classes.specs.Kernel.{kernel_selectors}
use Rattle.st_classes.specs.Selectors.{is_selector}

-- a text is one of the names
abbrev pub is_name : List (List ℕ) → List ℕ → Bool
is_name names text = list_any (bytes_eq text) names

-- the names after a text is interned: a new one is appended
abbrev pub interned : List (List ℕ) → List ℕ → List (List ℕ)
interned names text = if is_name names text then names else names ++ text ∷ []

-- the refusals of a text, in their order
abbrev pub intern_rules : List (List ℕ) → List ℕ → List Rule
intern_rules names text =
    (not (is_selector text), BadName)
    ∷ (not (is_name names text) && nat_le 8192 (length names), TooMany Names)
    ∷ []

-- what holds of every name table
pub record AreNames (names : List (List ℕ)) : Type 0 where
  pub kernel : take 22 names ≡ kernel_selectors
  pub selectors : (place : ℕ) (text : List ℕ) → slice_get names place ≡ Some text → is_selector text ≡ true
  pub different : (a b : ℕ) (text : List ℕ) → slice_get names a ≡ Some text → slice_get names b ≡ Some text → a ≡ b
  pub few : length names ≤ 8192

-- the texts that vectors hold
abbrev pub texts_of : List (Vec ℕ) → List (List ℕ)
texts_of texts = map (λ text. text.items) texts
