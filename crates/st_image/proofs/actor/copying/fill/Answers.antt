use Rattle.std.proofs.Common.{arith, ◌≡◌, ◌<◌, ◌++◌, ◌∷◌, [], length, take, None, Some, ap, sym, ◌∙◌}
use Rattle.std.proofs.lemmas.List.{length-take-le, take_all}
use Rattle.st_mailbox.specs.Mailboxes.{BoxView, box_refusal}
use Rattle.st_image.proofs.Filling.{has_place, holding, holds_more, holds_none}
use Rattle.st_image.proofs.actor.copying.fill.Goals as goal

pub messages-init : goal.messages-init
messages-init g c = holds_none (g.M.Mailbox.shown c.args.mailbox.now) c.requires.empty

pub unreachable-requires : goal.unreachable-requires
unreachable-requires g c =
    let b : BoxView = g.M.Mailbox.shown c.args.mailbox.now in
    let few : length (take c.messages.place c.args.messages.now) < b.capacity = omega (arith, length-take-le c.messages.place c.args.messages.now (omega (arith, c.messages-test.true)), c.messages-test.true, c.requires.few) in
    let none : box_refusal (g.M.Mailbox.shown c.messages.mailbox) ≡ None = ap box_refusal c.messages.invariant ∙ has_place b (take c.messages.place c.args.messages.now) c.requires.opened few in
    let some : box_refusal (g.M.Mailbox.shown c.messages.mailbox) ≡ Some c.in_default.field-0.1 = c.in_default.ensures.answers.0 in
    let no : None ≡ Some c.in_default.field-0.1 = sym none ∙ some in
    cc

pub messages-preserved : goal.messages-preserved
messages-preserved g c =
    let b : BoxView = g.M.Mailbox.shown c.args.mailbox.now in
    holds_more b (g.M.Mailbox.shown c.accept.new.self) c.args.messages.now c.messages.place c.in_ok-copy.copy c.index-messages-place.result (c.in-Ok.ensures.answers.1 ∙ ap (λ (x : BoxView). record x { items = x.items ++ c.in_ok-copy.copy ∷ [] }) c.messages.invariant) c.in_ok-copy.ensures c.messages-test.true c.index-messages-place.is

pub returns : goal.returns
returns g c = c.messages.invariant ∙ ap (holding (g.M.Mailbox.shown c.args.mailbox.now)) (take_all c.messages.place c.args.messages.now (omega (arith, c.messages-test.false)))
