-- The visible state of an input, and the counters of failures, reads and flushes.
use Rattle.std.specs.Prelude.{ℕ, zero, suc, ◌+◌, ◌%◌, ◌^◌, List, Option}

-- one more, in a counter of 64 bits that wraps to 0
abbrev pub one_more : ℕ → ℕ
one_more count = (count + 1) % 2 ^ 64

-- n more, in such a counter
abbrev pub so_many_more : ℕ → ℕ → ℕ
so_many_more zero count = count
so_many_more (suc n) count = (count + suc n) % 2 ^ 64

-- the bytes that an input has left to give, if they are known, and its numbers of failures and reads
pub record InputView : Type 0 where
  pub remaining : Option (List ℕ)
  pub failures : ℕ
  pub reads : ℕ

-- the visible state of an input
abbrev pub input_view : {I : Type 0} → (I → Option (List ℕ)) → (I → ℕ) → (I → ℕ) → I → InputView
input_view remaining failures reads i = record { remaining = remaining i; failures = failures i; reads = reads i }
