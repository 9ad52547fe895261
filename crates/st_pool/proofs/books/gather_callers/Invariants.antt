use Rattle.std.proofs.Common.{◌≡◌, ◌+◌, ◌≤◌, ◌++◌, length, vec_len}
use Rattle.std.specs.Prelude.{reverse, vec_capacity}
use Rattle.std.specs.List.{sum_by}
use Rattle.st_pool.specs.Done.{Done}
use Rattle.st_pool.specs.Settled.{emptied_by, gone}
use Rattle.st_pool.proofs.books.gather_callers.Given as goal

-- what was taken in and what is left is all
abbrev pub invariant-loop-share : goal.invariant-loop-share
invariant-loop-share g l =
    record {
      books : (l.posts.total ≡ l.fn.posts.total) × (l.edits.total ≡ l.fn.edits.total);
      posted : l.posted_sum + sum_by (λ (d : Done). length d.receipts) l.callers.items ≡ sum_by (λ (d : Done). length d.receipts) l.fn.callers.items;
      edited : l.edited_sum + sum_by (λ (d : Done). d.edits) l.callers.items ≡ sum_by (λ (d : Done). d.edits) l.fn.callers.items;
      gone : l.gone_sum + sum_by (gone l.emptied) l.callers.items ≡ sum_by (gone l.emptied) l.fn.callers.items;
      few : l.gone_sum ≤ l.posted_sum;
      cleared : l.cleared_left.amount + emptied_by l.callers.items ≡ l.fn.cleared_left.amount + emptied_by l.fn.callers.items;
      amounts : (l.posts_left.amount ≡ l.posted_sum) × (l.edits_left.amount ≡ l.edited_sum);
      parts : (l.posts_left.parts + vec_len l.callers ≡ l.fn.posts_left.parts + vec_len l.fn.callers) × (l.edits_left.parts + vec_len l.callers ≡ l.fn.edits_left.parts + vec_len l.fn.callers) × (l.cleared_left.parts + vec_len l.callers ≡ l.fn.cleared_left.parts + vec_len l.fn.callers);
      capacity : vec_capacity l.accounts ≡ vec_capacity l.fn.accounts;
      kept : vec_len l.fn.callers ≤ vec_capacity l.fn.accounts → (l.callers.items ++ reverse l.accounts.items ≡ l.fn.callers.items);
      counted : vec_len l.fn.callers ≤ vec_capacity l.fn.accounts → (vec_len l.callers + vec_len l.accounts ≡ vec_len l.fn.callers);
    }

abbrev pub decreases-loop-share : goal.decreases-loop-share
decreases-loop-share g l = goal.left-loop-share g l
