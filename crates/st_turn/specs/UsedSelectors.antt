-- Whether an edit for a selector touches others.
use Rattle.std.specs.Prelude.{ℕ, zero, suc, Bool, false, ◌==◌, ◌||◌, List, Option, Some, None}
use Rattle.st_classes.specs.declared.values.ClassId.{ClassId}
use Rattle.st_classes.specs.declared.values.Selector.{Selector}
use Rattle.st_classes.specs.declared.keys.SiteId.{SiteId}
use Rattle.st_classes.specs.declared.edits.Edit.{Edit}
use Rattle.st_classes.specs.Kernel.{does_not_understand}
use Rattle.st_guard.specs.ValidCaches.{asks}
use Rattle.st_turn.specs.declared.body.Phase.{Phase}
use Rattle.st_turn.specs.declared.body.Phase.TheVariants.{Start}

-- an edit for the selector t touches the selector s
abbrev pub touches_from : Selector → Selector → Bool
touches_from t s = (t.0 == s.0) || (t.0 == does_not_understand.0)

-- it touches what a site looks up, if the site looks anything up
abbrev pub touches_key : Selector → Option (Option ClassId × Selector) → Bool
touches_key t None = false
touches_key t (Some q) = touches_from t q.1

-- it touches what a site looks up, given the edits of the class table
abbrev pub touches_asked : List Edit → Selector → SiteId → Bool
touches_asked edits t id = touches_key t (asks edits id)

-- it touches the message with which a turn begins, if the first of this many steps dispatches it
abbrev pub first_touched : Selector → ℕ → Phase → Bool
first_touched t zero phase = false
first_touched t (suc n) (Start s args) = touches_from t s
first_touched t (suc n) _ = false
