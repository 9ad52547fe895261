use Rattle.std.proofs.Common.{◌-◌, ◌≡◌, drop}
use Rattle.std.specs.List.{list_any}
use Rattle.st_turn.specs.Surviving.{touches_used}
use Rattle.st_turn.proofs.claim.Claim.is_touched_from.Given as goal

-- what is left to look through decides as all of it does
abbrev pub invariant-later : goal.invariant-later
invariant-later l = (list_any (touches_used l.fn.self) (drop l.first l.fn.version) ≡ list_any (touches_used l.fn.self) (drop l.place l.fn.version))

abbrev pub decreases-later : goal.decreases-later
decreases-later l = l.edits - l.place
