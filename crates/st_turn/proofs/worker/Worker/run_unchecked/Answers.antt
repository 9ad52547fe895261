use Rattle.st_turn.proofs.WorkerMoves.{moved_as}
use Rattle.st_turn.proofs.worker.Worker.run_unchecked.Goals as goal

pub returns-clause-runs : goal.returns-clause-runs
returns-clause-runs g c =
    let there = c.self.inside.finder.caches in
    let moved = moved_as g.G.Guard.count g.G.Guard.floor g.G.Guard.raises c.args.self.now c.move_unchecked.new.self there _ c.args.claim.now.edits c.token.ensures c.self.view_is c.move_unchecked.ensures in
    (there, moved, c.run_steps.ensures.runs)
