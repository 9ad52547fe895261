use Rattle.std.proofs.Common.{◌≡◌}
use Rattle.std.specs.Prelude.{count_by, is_some}
use Rattle.std.specs.List.{range_with_len}
use Rattle.st_classes.specs.Kernel.{kernel_method, selector}
use Rattle.st_queries.proofs.own_methods.kernel_methods.Given as goal

-- how many of the selectors so far it gives the class
abbrev pub invariant-loop-number : goal.invariant-loop-number
invariant-loop-number l = l.count ≡ count_by (λ n. is_some (kernel_method l.class (selector n))) (range_with_len 0 l.number)
