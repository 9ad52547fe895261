-- Counts of claims without the zeros at their end.
use Rattle.std.proofs.Common.{◌≡◌, ℕ, zero, suc, ◌++◌, [], ◌∷◌, List, refl, ap, ◌∙◌}
use Rattle.st_image.specs.ClaimsOut.{claims_of, put_first, trimmed}

first_of : (n : ℕ) (ns : List ℕ) → claims_of (put_first n ns) zero ≡ n
first_of zero [] = refl
first_of zero (m ∷ ms) = refl
first_of (suc n) ns = refl

later_of : (n : ℕ) (ns : List ℕ) (a : ℕ) → claims_of (put_first n ns) (suc a) ≡ claims_of ns a
later_of zero [] a = refl
later_of zero (m ∷ ms) a = refl
later_of (suc n) ns a = refl

-- each count is as it was
pub claims_trimmed : (ns : List ℕ) (a : ℕ) → claims_of (trimmed ns) a ≡ claims_of ns a
claims_trimmed [] a = refl
claims_trimmed (n ∷ ns) zero = first_of n (trimmed ns)
claims_trimmed (n ∷ ns) (suc a) = later_of n (trimmed ns) a ∙ claims_trimmed ns a

-- a zero more at the end is none
pub trimmed_push : (ns : List ℕ) → trimmed (ns ++ 0 ∷ []) ≡ trimmed ns
trimmed_push [] = refl
trimmed_push (n ∷ ns) = ap (put_first n) (trimmed_push ns)
