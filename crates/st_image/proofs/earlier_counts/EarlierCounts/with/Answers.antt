use Rattle.std.proofs.Common.{arith, ℕ}
use Rattle.st_image.proofs.Sums.{all_sums}
use Rattle.st_image.proofs.earlier_counts.EarlierCounts.with.Goals as goal

pub returns-clause-changes : goal.returns-clause-changes
returns-clause-changes c =
    let n : ℕ = c.loop-actor.actor in
    all_sums c.args.self.now.changes c.args.changes.now c.loop-actor.sums.items n (omega (arith, c.actors_with-actors.ensures.before, c.loop-actor-test.false)) (omega (arith, c.actors_with-actors.ensures.since, c.loop-actor-test.false)) c.loop-actor.invariant.0 c.loop-actor.invariant.1
