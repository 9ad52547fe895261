use Rattle.std.proofs.Common.{◌≡◌, ◌++◌, [], ◌∷◌, arith, inr}
use Rattle.std.proofs.lemmas.Grind.{common_steps}
use Rattle.st_script.proofs.Arguments.{resolves_more, resolves_stops, resolves_done}
use Rattle.st_calls.proofs.GoingThen.{goes_then}
use Rattle.st_script.proofs.posting.argument_values.Goals as goal

pub returns-in-Err-clause-values : goal.returns-in-Err-clause-values
returns-in-Err-clause-values g c = inr (resolves_stops g.H.Holder.image_of g.H.Holder.calls _ _ _ _ _ _ _ _ _ _ _ c.loop-argument.invariant.resolves c.loop-argument-test.true c.argument-item.is c.in-Err.ensures.value)

pub loop-argument-preserved : goal.loop-argument-preserved
loop-argument-preserved g c =
    let so_far = c.loop-argument.invariant in
    let one : c.push.new.self.items ≡ c.loop-argument.values.items ++ c.in-Ok.value ∷ [] = rw c.unwrap.ensures at c.push.ensures.items in
    record {
      resolves = rw one (resolves_more g.H.Holder.image_of g.H.Holder.calls _ _ _ _ _ _ _ _ _ _ _ so_far.resolves c.loop-argument-test.true c.argument-item.is c.in-Ok.ensures.value);
      later = goes_then (g.H.Holder.image_of c.args.holder.now) (g.H.Holder.image_of c.loop-argument.holder) _ so_far.later c.in-Ok.ensures.later;
      room = let q = c.push.ensures.capacity in grind (arith, common_steps);
      so_many = grind (arith, common_steps);
    }

pub returns-clause-values : goal.returns-clause-values
returns-clause-values g c = inr (rw c.from_vec.ensures (resolves_done g.H.Holder.image_of g.H.Holder.calls _ _ _ _ _ _ _ c.loop-argument.invariant.resolves c.loop-argument-test.false))
