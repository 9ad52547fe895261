use Rattle.std.proofs.Common.{[]}
use Rattle.std.proofs.KnownBytes.{Appends-nil}
use Rattle.st_wire.specs.Streams.{input_view}
use Rattle.st_script.proofs.Scripting.{refuses_quantum, refuses_settings, keeps_settings}
use Rattle.st_script.proofs.scripts.script_with.Goals as goal

pub returns-in_default-clause-script : goal.returns-in_default-clause-script
returns-in_default-clause-script g c =
    let view = input_view g.I.Input.remaining g.I.Input.failures g.I.Input.reads c.args.input.now in
    ([], Appends-nil _, refuses_quantum c.args.settings c.args.image view c.in_default.ensures)

pub returns-in-Err-clause-script : goal.returns-in-Err-clause-script
returns-in-Err-clause-script g c =
    let view = input_view g.I.Input.remaining g.I.Input.failures g.I.Input.reads c.args.input.now in
    let refused = rw c.of_image.ensures at c.in-Err.ensures in
    ([], Appends-nil _, refuses_settings c.args.settings c.args.image c.set.new.self view c.in-Err.refusal c.in-Some.ensures.0 refused.0 refused.1)

pub returns-clause-script : goal.returns-clause-script
returns-clause-script g c =
    let script = c.run_script.ensures.script in
    let kept = rw c.of_image.ensures at c.in_default-set.ensures in
    let is = c.in-Some.ensures in
    (script.0, script.1, keeps_settings c.args.settings c.args.image c.set.new.self _ _ _ _ _ _ is.0 is.1 kept.0 kept.1 script.2)
