use Rattle.std.proofs.Common.{inl, inr}
use Rattle.st_wire.proofs.Lines.{value-line, no_value-line}
use Rattle.st_file.proofs.files.value_of_bytes.Goals as goal
use Rattle.st_file.proofs.files.value_of_bytes.Goals.{in-Memory, in_default}

pub returns-in-Ok-clause-value : goal.returns-in-Ok-clause-value
returns-in-Ok-clause-value c = value-line c.args.text.now _ c.in-Ok.ensures.ok

pub returns-after-classify-clause-none : goal.returns-after-classify-clause-none
returns-after-classify-clause-none c =
    elim c.match-classify.branch [
      | in-Memory w ↦ inl w.result-is
      | in_default w ↦ inr (w.result-is, no_value-line c.args.text.now (c.in-Err.ensures.err (λ m. w.in_default.not-Memory (c.classify.ensures.memory.1 m))))
    ]
