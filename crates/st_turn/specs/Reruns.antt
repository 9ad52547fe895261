-- Steps that are taken again.
use Rattle.std.specs.Prelude.{◌≡◌, ℕ, List, Some}
use Rattle.st_classes.specs.declared.values.ActorId.{ActorId}
use Rattle.st_classes.specs.declared.edits.Edit.{Edit}
use Rattle.st_turn.specs.declared.body.Body.{Body}
use Rattle.st_turn.specs.Steps.{own_steps}

-- this many steps of an actor's own lead from a body to some body
abbrev pub LeadsSomewhere : List Edit → ActorId → ℕ → Body → Type 0
LeadsSomewhere edits a n b = (c : Body) × (own_steps edits a n b ≡ Some c)
