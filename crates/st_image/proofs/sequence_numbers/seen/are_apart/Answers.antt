use Rattle.std.proofs.Common.{arith, refl, sym, ap, ◌∙◌, take, ◌≡◌}
use Rattle.st_image.specs.declared.actor_part.ActorPart.{ActorPart}
use Rattle.st_image.specs.SenderNumbers.{IsApart}
use Rattle.st_image.proofs.SenderNumbers.{before_all, before_more, new_apart, one_not_apart, seen_actor}
use Rattle.st_image.proofs.sequence_numbers.seen.are_apart.Goals as goal

pub returns-then-not-are_new : goal.returns-then-not-are_new
returns-then-not-are_new c =
    let mail : c.as_slice-messages.result.now ≡ c.index-actors-place.result.pending = c.as_slice-messages.ensures ∙ ap (λ (p : ActorPart). p.pending) (sym c.index-actors-place.is) in
    (λ e. cc, λ all. absurd (one_not_apart c.actors.seen c.args.actors.now c.actors.place c.index-actors-place.result c.as_slice-messages.result.now c.are_new.result c.actors-test.true c.index-actors-place.is mail c.actors.invariant.1 c.are_new.ensures c.if-not-are_new.true all))

pub actors-preserved : goal.actors-preserved
actors-preserved c =
    let mail : c.as_slice-messages.result.now ≡ c.index-actors-place.result.pending = c.as_slice-messages.ensures ∙ ap (λ (p : ActorPart). p.pending) (sym c.index-actors-place.is) in
    let earlier = take c.actors.place c.args.actors.now in
    let here = new_apart c.actors.seen earlier c.index-actors-place.result c.as_slice-messages.result.now mail c.actors.invariant.1 (c.are_new.ensures.0 c.if-not-are_new.false) in (
      before_more IsApart c.args.actors.now c.actors.place c.index-actors-place.result c.actors-test.true c.index-actors-place.is c.actors.invariant.0 here,
      seen_actor c.actors.seen c.add_all.new.self c.args.actors.now c.actors.place c.index-actors-place.result c.as_slice-messages.result.now c.actors-test.true c.index-actors-place.is mail c.actors.invariant.1 c.in_ok-add_all.ensures,
    )

pub returns : goal.returns
returns c = (λ e. before_all IsApart c.args.actors.now c.actors.place (omega (arith, c.actors-test.false)) c.actors.invariant.0, λ h. refl)
