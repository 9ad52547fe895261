use Rattle.std.proofs.Common.{◌∙◌, sym, ap, arith, true, false, is_some, ◌+◌}
use Rattle.st_queries.proofs.Kernels.{kernel_few, kernel_more}
use Rattle.st_queries.proofs.own_methods.kernel_methods.Goals as goal
use Rattle.st_queries.proofs.own_methods.kernel_methods.Goals.{then-is_some, else-is_some}

pub loop-number-preserved : goal.loop-number-preserved
loop-number-preserved c =
    let n = c.loop-number.number in
    elim c.if-is_some.branch [
      | then-is_some w ↦ w.count-is ∙ ap (λ k. k + 1) c.loop-number.invariant ∙ sym (kernel_more c.args.class n true (sym (w.if-is_some.ensures ∙ ap is_some c.kernel_at.ensures)))
      | else-is_some w ↦ w.count-is ∙ c.loop-number.invariant ∙ sym (kernel_more c.args.class n false (sym (w.if-is_some.ensures ∙ ap is_some c.kernel_at.ensures)) ∙ omega arith)
    ]

pub overflow_add-count : goal.overflow_add-count
overflow_add-count c = let few = kernel_few c.args.class c.loop-number.number in omega (arith, few, c.loop-number.invariant, c.loop-number-test.true)
