-- How many methods the kernel gives a class, selector by selector.
use Rattle.std.proofs.Common.{◌≡◌, ℕ, ◌+◌, ◌≤◌, Bool, is_some, ap, ◌∙◌, arith, cond}
use Rattle.std.specs.Prelude.{count_by}
use Rattle.std.specs.List.{range_with_len}
use Rattle.std.proofs.lemmas.List.Sums.{count_by-le-length, sum_by_push}
use Rattle.st_classes.specs.declared.values.ClassId.{ClassId}
use Rattle.st_classes.specs.Kernel.{kernel_method, selector}
use Rattle.st_queries.proofs.Numbers.{counting_more, length_numbers}

-- those of the first selectors
abbrev pub given : ClassId → ℕ → ℕ
given c n = count_by (λ k. is_some (kernel_method c (selector k))) (range_with_len 0 n)

pub kernel_more : (c : ClassId) (n : ℕ) (b : Bool) → is_some (kernel_method c (selector n)) ≡ b → given c (n + 1) ≡ given c n + cond b 1 0
kernel_more c n b e =
    ap (count_by (λ k. is_some (kernel_method c (selector k)))) (counting_more 0 n n (omega arith))
    ∙ sum_by_push (λ k. cond (is_some (kernel_method c (selector k))) 1 0) (range_with_len 0 n) n
    ∙ ap (λ t. given c n + cond t 1 0) e

pub kernel_few : (c : ClassId) (n : ℕ) → given c n ≤ n
kernel_few c n =
    let most = count_by-le-length (λ k. is_some (kernel_method c (selector k))) (range_with_len 0 n) in
    omega (arith, length_numbers 0 n)
