use Rattle.st_wire.specs.Streams.{input_view}
use Rattle.st_file.proofs.ReadSoFar.{Reached}
use Rattle.st_file.proofs.inputs.read_all.Given as goal

abbrev pub invariant-loop-reads : goal.invariant-loop-reads
invariant-loop-reads g l =
    let view = input_view g.I.Input.remaining g.I.Input.failures g.I.Input.reads in
    Reached (view l.initial.input) (view l.input) l.text.items l.reads
