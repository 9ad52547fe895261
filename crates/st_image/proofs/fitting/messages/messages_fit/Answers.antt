use Rattle.std.proofs.Common.{arith, refl, sym, subst, ◌∙◌, ◌≡◌, true}
use Rattle.std.proofs.lemmas.List.Elements.{All-more}
use Rattle.st_classes.specs.Classes.{class_count}
use Rattle.st_mailbox.specs.declared.messages.Message.{Message}
use Rattle.st_image.specs.PostRules.{message_fits}
use Rattle.st_image.proofs.Alls.{all_passed}
use Rattle.st_image.proofs.fitting.messages.messages_fit.Goals as goal

pub messages-preserved : goal.messages-preserved
messages-preserved c =
    let P = λ (m : Message). message_fits c.args.names.now (class_count c.args.version.now) c.args.actors m ≡ true in
    All-more P c.args.messages.now c.messages.place c.index-messages-place.result (omega arith) c.messages.invariant (subst P c.index-messages-place.is (sym c.message_fits.ensures ∙ c.if-not-message_fits.false))

pub returns : goal.returns
returns c =
    let P = λ (m : Message). message_fits c.args.names.now (class_count c.args.version.now) c.args.actors m ≡ true in
    (λ e. all_passed P c.args.messages.now c.messages.place (omega arith) c.messages.invariant, λ h. refl)
