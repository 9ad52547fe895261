use Rattle.std.proofs.Common.{[], refl, inl, inr, subst}
use Rattle.std.proofs.KnownBytes.{Appends-nil}
use Rattle.st_image.specs.Images.{ImageView}
use Rattle.st_wire.specs.Streams.{input_view}
use Rattle.st_session.specs.Sessions.{Replies}
use Rattle.st_session.specs.DeviceSessions.{DeviceSession}
use Rattle.st_script.specs.CommandReplies.{Serves}
use Rattle.st_script.proofs.scripts.run_script.Goals as goal

pub returns-in-Ok-clause-script : goal.returns-in-Ok-clause-script
returns-in-Ok-clause-script g c =
    let view = input_view g.I.Input.remaining g.I.Input.failures g.I.Input.reads in
    let s = c.answer_input-runner.ensures.script in
    let made = c.in-Ok.ensures.ok in
    let v = c.in-Ok.runner.caches in
    let k = c.answer_input-runner.result.0 in
    let scripted = subst (λ (i : ImageView). DeviceSession (Replies (Serves c.args.quantum)) (record { image = i; caches = v }) (view c.args.input.now) (view c.answer_input-runner.new.input) s.0 k c.answer_input-runner.result.1) made.0 s.2 in
    (s.0, s.1, inl (v, k, made.1, scripted, c.into_image.ensures))

pub returns-in-Err-clause-script : goal.returns-in-Err-clause-script
returns-in-Err-clause-script g c = ([], Appends-nil _, inr (refl, refl, refl, c.in-Err.ensures.err))
