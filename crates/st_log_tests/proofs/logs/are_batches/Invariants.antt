use Rattle.std.proofs.Common.{ℕ, Vec, take, All}
use Rattle.std.specs.declared.alloc.Global.{Global}
use Rattle.st_log.specs.Lines.{IsBatch}
use Rattle.st_log_tests.proofs.logs.are_batches.Given as goal

-- those so far
abbrev pub invariant-loop-batch : goal.invariant-loop-batch
invariant-loop-batch l = All (λ (b : Vec ℕ Global). IsBatch b.items) (take l.batch-index l.batches)
