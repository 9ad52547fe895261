use Rattle.std.proofs.Common.{ap, ◌≡◌, ◌+◌, ◌++◌, ◌∷◌, ◌∙◌, sym, [], take}
use Rattle.std.proofs.lemmas.List.{take_more}
use Rattle.st_turn.proofs.StackMade.{pushed_places, pushed_values}
use Rattle.st_turn.proofs.stack.copying.lay_all.Goals as goal

pub loop-frame-preserved : goal.loop-frame-preserved
loop-frame-preserved c =
    let fs = c.args.frames.now in
    let i = c.loop-frame.frame-index in
    let f = c.frame-item.result in
    let e : take (i + 1) fs ≡ take i fs ++ f ∷ [] = take_more fs i f c.loop-frame-test.true ∙ ap (λ x. take i fs ++ x ∷ []) (sym c.frame-item.is) in
    rw e (
      pushed_places (take i fs) f c.loop-frame.values.items c.loop-frame.places.items c.push.new.self.items c.in_ok-lay.field-0 c.loop-frame.invariant.0 c.loop-frame.invariant.1 c.in_ok-lay.ensures.place c.in_ok-push.ensures.items,
      pushed_values (take i fs) f c.loop-frame.values.items c.lay.new.values.items c.loop-frame.invariant.1 c.in_ok-lay.ensures.values,
    )
