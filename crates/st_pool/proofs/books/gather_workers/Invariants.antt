use Rattle.std.proofs.Common.{ℕ, ◌≡◌, ◌+◌, ◌≤◌, ◌++◌, vec_len}
use Rattle.std.specs.Prelude.{reverse, vec_capacity}
use Rattle.std.specs.List.{sum_by}
use Rattle.st_pool.proofs.books.gather_workers.Given as goal

-- what was taken in and what is left is all
abbrev pub invariant-loop-share : goal.invariant-loop-share
invariant-loop-share g l =
    record {
      book : l.steps.total ≡ l.fn.steps.total;
      taken : l.sum + sum_by (λ (n : ℕ). n) l.workers.items ≡ sum_by (λ (n : ℕ). n) l.fn.workers.items;
      amount : l.left.amount ≡ l.sum;
      parts : l.left.parts + vec_len l.workers ≡ l.fn.left.parts + vec_len l.fn.workers;
      capacity : vec_capacity l.kept ≡ vec_capacity l.fn.kept;
      kept : vec_len l.fn.workers ≤ vec_capacity l.fn.kept → (l.workers.items ++ reverse l.kept.items ≡ l.fn.workers.items);
      counted : vec_len l.fn.workers ≤ vec_capacity l.fn.kept → (vec_len l.workers + vec_len l.kept ≡ vec_len l.fn.workers);
    }

abbrev pub decreases-loop-share : goal.decreases-loop-share
decreases-loop-share g l = goal.left-loop-share g l
