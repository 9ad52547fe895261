use Rattle.std.proofs.Common.{arith}
use Rattle.st_compile.proofs.Spelled.{spelled_arguments, spelled_locals}
use Rattle.st_compile.proofs.compile.parts_of.Goals as goal

pub argument_count-requires : goal.argument_count-requires
argument_count-requires c =
    let t = c.args.tree.now in
    rw c.pattern.ensures (spelled_arguments t.syntax t.source c.known.ensures)

pub temporary_count-requires : goal.temporary_count-requires
temporary_count-requires c =
    let t = c.args.tree.now in
    rw c.temporaries.ensures (omega (arith, spelled_locals t.syntax t.source c.known.ensures))
