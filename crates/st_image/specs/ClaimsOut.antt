-- How many claims of each actor are out.
use Rattle.std.specs.Prelude.{ℕ, zero, suc, ◌+◌, ◌-◌, List, [], ◌∷◌, nat_lt, slice_index_or, if◌then◌else◌}

-- how many claims of an actor are out; none past the end of the list
abbrev pub claims_of : List ℕ → ℕ → ℕ
claims_of out a = slice_index_or out a 0

-- one claim more, up to 2^32 - 1
abbrev pub one_more : ℕ → ℕ
one_more n = if nat_lt n 4294967295 then n + 1 else n

-- one claim less, but not below 0
abbrev pub one_less : ℕ → ℕ
one_less n = n - 1

-- a number is put first in a list, but a zero is not put before an empty one
abbrev pub put_first : ℕ → List ℕ → List ℕ
put_first zero [] = []
put_first zero (m ∷ ms) = zero ∷ m ∷ ms
put_first (suc n) ms = suc n ∷ ms

-- numbers without trailing zeros
abbrev pub trimmed : List ℕ → List ℕ
trimmed [] = []
trimmed (n ∷ ns) = put_first n (trimmed ns)
