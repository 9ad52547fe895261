use Rattle.std.proofs.Common.{sym, ◌∙◌}
use Rattle.std.proofs.lemmas.Result.{IfOk-weaker}
use Rattle.st_image.proofs.PartsInOrder.{apart_in_order, mailed_in_order, parts_in_order}
use Rattle.st_image.proofs.sequence_numbers.in_sending_order.Goals as goal

pub returns-then-not-are_mailed : goal.returns-then-not-are_mailed
returns-then-not-are_mailed c edits = (λ e. cc, λ both. sym c.if-not-are_mailed.true ∙ c.are_mailed.ensures.1 (mailed_in_order edits c.args.actors.now c.args.clients.now c.in_ok-lasts.lasts c.in_ok-lasts.ensures both.1))

pub returns : goal.returns
returns c =
    let rising = c.are_rising.ensures.0 c.if-not-are_rising.false in
    let mailed = c.are_mailed.ensures.0 c.if-not-are_mailed.false in
    IfOk-weaker c.are_apart.result _ _ (λ are h edits. (λ t. (rising, parts_in_order edits c.args.actors.now c.args.clients.now c.in_ok-lasts.lasts c.in_ok-lasts.ensures mailed (h.0 t)), λ both. h.1 (apart_in_order edits c.args.actors.now c.args.clients.now both.1))) c.are_apart.ensures
