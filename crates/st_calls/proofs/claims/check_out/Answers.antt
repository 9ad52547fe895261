use Rattle.st_image.specs.GoingOn.{GoesOnIn}
use Rattle.st_image.proofs.CallsLater.{checks_out_fits, checks_out_later}
use Rattle.st_calls.proofs.Growing.{checks_out_grow, checks_out_present}
use Rattle.st_calls.proofs.claims.check_out.Goals as goal

pub returns-clause-fits : goal.returns-clause-fits
returns-clause-fits g c =
    let i = c.args.image.now in
    let j = c.checkout_in-answer.new.self in
    let on : GoesOnIn i j = checks_out_later i j c.args.actor c.checkout_in-answer.result c.known.ensures c.known-2.ensures c.checkout_in-answer.ensures in
    checks_out_fits i j c.args.actor c.checkout_in-answer.result c.checkout_in-answer.ensures on

pub returns-clause-present : goal.returns-clause-present
returns-clause-present g c = checks_out_present c.args.image.now c.checkout_in-answer.new.self c.args.actor c.checkout_in-answer.result c.known.ensures c.known-2.ensures c.checkout_in-answer.ensures

pub returns-clause-later : goal.returns-clause-later
returns-clause-later g c = checks_out_later c.args.image.now c.checkout_in-answer.new.self c.args.actor c.checkout_in-answer.result c.known.ensures c.known-2.ensures c.checkout_in-answer.ensures

pub returns-clause-grows : goal.returns-clause-grows
returns-clause-grows g c = checks_out_grow c.args.image.now c.checkout_in-answer.new.self c.args.actor c.checkout_in-answer.result c.known.ensures c.known-2.ensures c.checkout_in-answer.ensures
