use Rattle.std.proofs.Common.{◌∙◌, ap, sym}
use Rattle.std.specs.Option.{option_copied}
use Rattle.st_image.specs.Failures.{failures_of}
use Rattle.st_image.specs.NewestResults.{newest}
use Rattle.st_queries.specs.Endings.{failure_of as failure_in, is_of}
use Rattle.st_queries.proofs.KeptLoops.{found_here, found_not, found_past}
use Rattle.st_queries.proofs.endings.failure_of.Goals as goal
use Rattle.st_queries.proofs.endings.failure_of.Goals.{in-Some+else-is_of, in_default}

pub returns-then-is_of : goal.returns-then-is_of
returns-then-is_of g c = found_here (is_of c.args.actor c.args.turn) (newest (failures_of c.args.image.now)) c.loop-place.place c.in-Some.failed.now (failure_in c.args.image.now c.args.actor c.args.turn) (sym c.in-Some.ensures) (sym c.is_of.ensures ∙ c.if-is_of.true) c.loop-place.invariant

pub loop-place-preserved : goal.loop-place-preserved
loop-place-preserved g c =
    let p = is_of c.args.actor c.args.turn in
    let fs = newest (failures_of c.args.image.now) in
    let found = failure_in c.args.image.now c.args.actor c.args.turn in
    elim c.match-failure.branch [
      | in-Some+else-is_of w ↦ found_not p fs c.loop-place.place w.in-Some.failed.now found (sym w.in-Some.ensures) (sym w.is_of.ensures ∙ w.if-is_of.false) c.loop-place.invariant
      | in_default w ↦ found_past p fs c.loop-place.place found (sym c.failure.ensures ∙ ap option_copied w.in_default.is) c.loop-place.invariant
    ]
