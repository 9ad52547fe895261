use Rattle.std.proofs.Common.{◌≡◌, ◌++◌, ◌∷◌, [], ℕ, List, take, Some, slice_get, ap, sym, ◌∙◌, add-one}
use Rattle.std.specs.Option.{option_copied}
use Rattle.st_mailbox.specs.declared.messages.Message.{Message}
use Rattle.st_classes.proofs.LawLists.{take_at_place}
use Rattle.st_image.proofs.actor.copying.copied.Goals as goal

pub messages-preserved : goal.messages-preserved
messages-preserved g c =
    let ms : List Message = (g.M.Mailbox.shown c.args.mailbox.now).items in
    let there : slice_get ms c.messages.place ≡ Some c.in-Some.message.now = sym c.item.ensures ∙ ap option_copied c.in-Some.is in
    c.in_ok-push.ensures.items
    ∙ ap (λ (xs : List Message). xs ++ c.in_ok-copy.field-0 ∷ []) c.messages.invariant
    ∙ ap (λ (m : Message). take c.messages.place ms ++ m ∷ []) c.in_ok-copy.ensures
    ∙ sym (ap (λ (k : ℕ). take k ms) (add-one c.messages.place) ∙ take_at_place ms c.messages.place c.in-Some.message.now there)
