-- Lists of sums, item by item.
use Rattle.std.proofs.Common.{arith, ◌≡◌, ℕ, ◌+◌, ◌<◌, ◌≤◌, List, length, get_or, refl, Bool, true, false}
use Rattle.std.specs.Prelude.{nat_lt}
use Rattle.std.proofs.lemmas.Bool.Decides.{nat_tests}
use Rattle.std.proofs.lemmas.List.{get_or_past}

-- sums up to the ends of both lists are all sums
pub all_sums : (xs ys zs : List ℕ) (n : ℕ) → length xs ≤ n → length ys ≤ n → length zs ≡ n → ((a : ℕ) → a < n → get_or zs a 0 ≡ get_or xs a 0 + get_or ys a 0) → (a : ℕ) → get_or zs a 0 ≡ get_or xs a 0 + get_or ys a 0
all_sums xs ys zs n p q r h a = by (nat_lt a n) refl
  where
    by : (t : Bool) → nat_lt a n ≡ t → get_or zs a 0 ≡ get_or xs a 0 + get_or ys a 0
    by true e = let less : a < n = grind (arith, nat_tests) in h a less
    by false e =
        let past : n ≤ a = grind (arith, nat_tests) in
        omega (arith, get_or_past xs a 0 (omega (arith, p, past)), get_or_past ys a 0 (omega (arith, q, past)), get_or_past zs a 0 (omega (arith, r, past)))
