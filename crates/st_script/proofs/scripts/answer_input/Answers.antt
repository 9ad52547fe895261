use Rattle.std.proofs.Common.{refl}
use Rattle.st_wire.specs.Streams.{input_view}
use Rattle.st_script.proofs.Scripting.{session_of}
use Rattle.st_script.proofs.scripts.answer_input.Goals as goal

pub returns-clause-script : goal.returns-clause-script
returns-clause-script g c =
    let view = input_view g.I.Input.remaining g.I.Input.failures g.I.Input.reads in
    let s = c.session-result.ensures.session in
    (s.0, s.1, session_of c.session-result.new.handler (record { runner = c.args.runner; quantum = c.args.quantum; keeper = c.args.keeper }) (λ h. h.runner) (λ h. h.quantum) c.args.quantum (view c.args.input.now) (view c.session-result.new.input) s.0 c.session-result.result refl s.2)
