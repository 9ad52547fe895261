use Rattle.std.proofs.Common.{◌++◌, take, drop, suc, get_or, refl, sym, ap, ◌∙◌, inr, drop-cons}
use Rattle.std.proofs.lemmas.List.{take-append-drop}
use Rattle.st_session.proofs.writing.write_reply.Goals as goal

pub returns-clause-written : goal.returns-clause-written
returns-clause-written g c =
    let front = c.in-Err.ensures.front in
    let text = c.deref.result.now in
    let split = sym (take-append-drop front.0 text) ∙ ap (λ t. take front.0 text ++ t) (drop-cons text front.0 0 front.1) in
    (take front.0 text, front.2, inr ((get_or text front.0 0, drop (suc front.0) text, sym c.in-Ok.ensures ∙ sym c.deref.ensures.value ∙ split), refl))
