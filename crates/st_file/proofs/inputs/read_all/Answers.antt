use Rattle.std.proofs.Common.{◌∙◌}
use Rattle.st_wire.specs.Streams.{input_view}
use Rattle.st_file.proofs.ReadSoFar.{reached_end, stopped}
use Rattle.st_file.proofs.inputs.read_all.Goals as goal

pub returns-in-Ok-eq0 : goal.returns-in-Ok-eq0
returns-in-Ok-eq0 g c =
    let view = input_view g.I.Input.remaining g.I.Input.failures g.I.Input.reads in
    let read = c.in-Ok-eq0.ensures in
    let piece = read.piece in
    let zero = c.in-Ok-eq0.field-0-test in
    reached_end (view c.args.input.now) (view c.loop-reads.input) (view c.read_piece.new.input) c.loop-reads.text.items piece.0 _ c.loop-reads.reads
    c.loop-reads.invariant piece.1 (piece.2.0 ∙ zero) piece.2.1 c.loop-reads-test.true read.unfailed read.read (read.end zero)

pub returns-in-Err : goal.returns-in-Err
returns-in-Err g c =
    let view = input_view g.I.Input.remaining g.I.Input.failures g.I.Input.reads in
    let read = c.in-Err.ensures in
    let piece = read.piece in
    stopped (view c.args.input.now) (view c.loop-reads.input) (view c.read_piece.new.input) c.loop-reads.text.items piece.0 c.loop-reads.reads c.in-Err.refusal
    c.loop-reads.invariant piece.1 c.loop-reads-test.true read.read read.why
