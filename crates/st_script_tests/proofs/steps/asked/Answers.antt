use Rattle.st_script_tests.proofs.Starting.{asked_fits}
use Rattle.st_script_tests.proofs.steps.asked.Goals as goal

pub returns : goal.returns
returns c =
    let plain = c.if-not-is_plain.ensures in
    rw (c.begin.ensures, c.in_ok-body.ensures, c.from_vec.ensures, c.new.ensures.items)
    (asked_fits c.args.image.now _ _ c.args.class c.args.selector c.known.ensures c.names.ensures c.version.ensures plain.instances plain.slots c.if-not-is_unary.ensures)
