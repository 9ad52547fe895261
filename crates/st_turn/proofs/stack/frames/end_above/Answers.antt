use Rattle.std.proofs.Common.{arith, ◌≡◌, ◌+◌, Some, slice_get}
use Rattle.std.proofs.lemmas.Grind.{common_steps}
use Rattle.std.proofs.lemmas.Option.{gets}
use Rattle.st_turn.proofs.WaitingFrames.{waiting_laid}
use Rattle.st_turn.proofs.stack.frames.end_above.Goals as goal

pub overflow_sub-result : goal.overflow_sub-result
overflow_sub-result c =
    let g : slice_get c.args.places.now (c.args.place + 1) ≡ Some c.in-Some.next.now = grind (arith, common_steps, gets) in
    let w = waiting_laid c.args.places.now c.in-Some.next.now c.args.end (c.args.place + 1) c.requires.laid g in
    omega (arith, w.receiver)
