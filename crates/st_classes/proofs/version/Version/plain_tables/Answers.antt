use Rattle.std.proofs.Common.{◌<◌, length, map, arith}
use Rattle.std.proofs.lemmas.List.{length-map}
use Rattle.st_classes.proofs.Kernels.{def_of, given_next, plain_few}
use Rattle.st_classes.proofs.version.Version.plain_tables.Goals as goal

pub overflow_cast-id : goal.overflow_cast-id
overflow_cast-id c =
    let within : c.loop-class.class-index < length (map def_of c.args.classes.now) = omega (arith, c.loop-class-test.true, length-map c.args.classes.now def_of) in
    omega (arith, c.len.ensures, c.requires.few, length-map c.args.classes.now def_of, plain_few (map def_of c.args.classes.now) c.loop-class.class-index c.loop-class.rows c.loop-class.index within c.loop-class.invariant)

pub loop-class-preserved : goal.loop-class-preserved
loop-class-preserved c = given_next c.args.classes.now c.loop-class.class-index _ c.loop-class.rows c.push_plain.new.self c.loop-class.index c.put.new.self c.len.result c.requires.different c.loop-class-test.true c.loop-class.invariant c.len.ensures c.in_ok-push_plain.ensures c.in_ok-put.ensures
