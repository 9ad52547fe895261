use Rattle.std.proofs.Common.{inl, inr, sym, ap, ◌∙◌, Some}
use Rattle.st_wire.proofs.Lines.{value-line, no_value-line, Answers-value, no_command-line}
use Rattle.st_wire.proofs.commands.read_command.Goals as goal
use Rattle.st_wire.proofs.commands.read_command.Goals.{in-Memory, in_default}

pub returns-in-Ok : goal.returns-in-Ok
returns-in-Ok c =
    let line = c.args.line.now in
    Answers-value line _ _ (value-line line _ c.in-Ok.ensures.ok) c.read_object.ensures

pub returns-after-classify : goal.returns-after-classify
returns-after-classify c =
    let line = c.args.line.now in
    elim c.match-classify.branch [
      | in-Memory w ↦ inl w.result-is
      | in_default w ↦ inr (no_command-line line (no_value-line line (c.in-Err.ensures.err (λ m. w.in_default.not-Memory (c.classify.ensures.memory.1 m)))) ∙ ap Some (sym w.result-is))
    ]
