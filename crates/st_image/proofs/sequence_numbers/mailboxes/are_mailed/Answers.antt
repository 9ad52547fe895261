use Rattle.std.proofs.Common.{arith, refl, subst}
use Rattle.std.proofs.lemmas.List.Elements.{All-more}
use Rattle.st_image.specs.SenderNumbers.{IsMailed}
use Rattle.st_image.proofs.Alls.{all_passed, one_fails}
use Rattle.st_image.proofs.sequence_numbers.mailboxes.are_mailed.Goals as goal

pub returns-then-not-is_mailed : goal.returns-then-not-is_mailed
returns-then-not-is_mailed c =
    let P = IsMailed c.args.lasts.now c.args.actors.now in
    one_fails P c.args.actors.now c.actors.place c.index-actors-place.result c.is_mailed.result c.actors-test.true c.index-actors-place.is c.is_mailed.ensures c.if-not-is_mailed.true

pub actors-preserved : goal.actors-preserved
actors-preserved c =
    let P = IsMailed c.args.lasts.now c.args.actors.now in
    All-more P c.args.actors.now c.actors.place c.index-actors-place.result c.actors-test.true c.actors.invariant (subst P c.index-actors-place.is (c.is_mailed.ensures.0 c.if-not-is_mailed.false))

pub returns : goal.returns
returns c =
    let P = IsMailed c.args.lasts.now c.args.actors.now in
    (λ e. all_passed P c.args.actors.now c.actors.place (omega (arith, c.actors-test.false)) c.actors.invariant, λ h. refl)
