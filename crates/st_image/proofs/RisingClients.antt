-- Clients rise, and each has sent a message.
use Rattle.std.proofs.Common.{arith, ◌≡◌, ◌<◌, ◌≤◌, ◌==◌, ℕ, suc, [], ◌∷◌, List, refl, sym, subst, Bool, true, false, cond}
use Rattle.std.specs.Prelude.{nat_lt}
use Rattle.std.proofs.lemmas.Bool.Decides.{nat_tests}
use Rattle.st_image.specs.Worlds.{put_number}
use Rattle.st_image.specs.WorldInvariant.{AreClientsFrom}

are_equal : (m n : ℕ) → (m == n) ≡ true → m ≡ n
are_equal m n e = grind (arith, nat_tests)

is_less : (m n : ℕ) → nat_lt m n ≡ true → m < n
is_less m n e = grind (arith, nat_tests)

is_greater : (m n : ℕ) → (m == n) ≡ false → nat_lt m n ≡ false → n < m
is_greater m n e f = grind (arith, nat_tests)

-- a client's number put in
pub put_rises : (least s n : ℕ) (ps : List (ℕ × ℕ)) → least ≤ s → 1 ≤ n → AreClientsFrom least ps → AreClientsFrom least (put_number s n ps)
put_rises least s n [] h some f = (h, some, tt)
put_rises least s n (p ∷ ps) h some f = by (λ k. put_rises (suc p.0) s n ps k some f.2) (s == p.0) (nat_lt s p.0) refl refl
  where
    by : (p.0 < s → AreClientsFrom (suc p.0) (put_number s n ps)) → (here before : Bool) → (s == p.0) ≡ here → nat_lt s p.0 ≡ before
        → AreClientsFrom least (cond here ((s, n) ∷ ps) (cond before ((s, n) ∷ p ∷ ps) (p ∷ put_number s n ps)))
    by rest true before e g = (h, some, subst (λ (k : ℕ). AreClientsFrom (suc k) ps) (sym (are_equal s p.0 e)) f.2)
    by rest false true e g = (h, some, (is_less s p.0 g, f.1, f.2))
    by rest false false e g = (f.0, f.1, rest (is_greater s p.0 e g))
