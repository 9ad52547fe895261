use Rattle.std.proofs.Common.{arith, refl, subst, length}
use Rattle.std.proofs.lemmas.List.Elements.{All-more}
use Rattle.st_image.specs.SenderNumbers.{HasSenders}
use Rattle.st_image.proofs.Alls.{all_passed, one_fails}
use Rattle.st_image.proofs.sequence_numbers.there.senders_are_there.Goals as goal

pub returns-then-not-has_senders : goal.returns-then-not-has_senders
returns-then-not-has_senders c =
    let P = HasSenders (length c.args.actors.now) in
    one_fails P c.args.actors.now c.actors.place c.index-actors-place.result c.has_senders.result c.actors-test.true c.index-actors-place.is c.has_senders.ensures c.if-not-has_senders.true

pub actors-preserved : goal.actors-preserved
actors-preserved c =
    let P = HasSenders (length c.args.actors.now) in
    All-more P c.args.actors.now c.actors.place c.index-actors-place.result c.actors-test.true c.actors.invariant (subst P c.index-actors-place.is (c.has_senders.ensures.0 c.if-not-has_senders.false))

pub returns : goal.returns
returns c =
    let P = HasSenders (length c.args.actors.now) in
    (λ e. all_passed P c.args.actors.now c.actors.place (omega (arith, c.actors-test.false)) c.actors.invariant, λ h. refl)
