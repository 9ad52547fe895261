use Rattle.std.proofs.Common.{ℕ, List, Vec, All, IsTrue, refl, sym, subst}
use Rattle.std.proofs.lemmas.List.Elements.{All-more}
use Rattle.std.proofs.lemmas.List.{take_all}
use Rattle.std.specs.declared.alloc.Global.{Global}
use Rattle.st_log.specs.Lines.{IsBatch}
use Rattle.st_log_tests.proofs.logs.are_batches.Goals as goal

pub loop-batch-preserved : goal.loop-batch-preserved
loop-batch-preserved c =
    let is = c.is_batch.ensures.0 (subst (λ b. IsTrue b) (sym c.if-not-is_batch.false) refl) in
    All-more (λ (b : Vec ℕ Global). IsBatch b.items) c.args.batches.now c.loop-batch.batch-index c.batch-item.result c.loop-batch-test.true c.loop-batch.invariant
    (subst (λ (v : Vec ℕ Global). IsBatch v.items) c.batch-item.is (subst (λ l. IsBatch l) c.deref.ensures.value is))

pub returns : goal.returns
returns c told =
    subst (λ (l : List (Vec ℕ Global)). All (λ (b : Vec ℕ Global). IsBatch b.items) l) (take_all c.loop-batch.batch-index c.args.batches.now c.loop-batch-test.false) c.loop-batch.invariant
