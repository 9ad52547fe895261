-- Claims whose steps are still what they were, at a class table with more edits.
use Rattle.std.specs.Prelude.{◌≡◌, List, length, drop, Bool, false, Some}
use Rattle.std.specs.List.{list_any}
use Rattle.st_classes.specs.declared.values.Selector.{Selector}
use Rattle.st_classes.specs.declared.edits.Edit.{Edit}
use Rattle.st_classes.specs.EditLists.{AreLawful, AllSound, Begins}
use Rattle.st_guard.specs.Touching.{touches}
use Rattle.st_turn.specs.Claims.{ClaimView, IsSound, own_asked, used}
use Rattle.st_turn.specs.Steps.{act_in, asked, own_steps, step}

-- one of the edits touches a selector
abbrev pub touched : List Edit → Selector → Bool
touched edits s = list_any (λ e. touches e s) edits

-- an edit touches one of the selectors that the steps of a claim used
abbrev pub touches_used : ClaimView → Edit → Bool
touches_used c e = list_any (touches e) (used c)

-- the edits of a table after those of a claim
abbrev pub edits_since : ClaimView → List Edit → List Edit
edits_since c edits = drop (length c.edits) edits

-- A claim survives at a table if its edits are a prefix of the table's, and no later edit touches a selector that its steps used.
pub record SurvivesAt (edits : List Edit) (c : ClaimView) : Type 0 where
  pub begins : Begins c.edits edits
  pub untouched : list_any (touched (edits_since c edits)) (used c) ≡ false

-- The steps of a claim are steps of another table too: they lead from the body before to the body after and ask for the same, and
-- the step after them asks for the same and is the same act, if it is one.
pub record SameSteps (edits : List Edit) (c : ClaimView) : Type 0 where
  pub taken : own_steps edits c.actor c.steps c.before ≡ Some c.after
  pub asks : own_asked edits c.actor c.steps c.before ≡ own_asked c.edits c.actor c.steps c.before
  pub act : act_in (step edits c.actor c.after) ≡ act_in (step c.edits c.actor c.after)
  pub next : asked edits c.after ≡ asked c.edits c.after

-- a sound claim that survives at a table has taken steps of that table
abbrev pub ClaimsSurvive : Type 0
ClaimsSurvive = (edits : List Edit) (c : ClaimView) → AreLawful edits → AllSound edits →
    IsSound c.actor c.edits c.before c.after c.steps c.sends → SurvivesAt edits c → SameSteps edits c
