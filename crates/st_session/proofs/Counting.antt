-- Counts of reads and flushes.
use Rattle.std.proofs.Common.{arith, ◌≡◌, ℕ, zero, suc, ◌+◌, ◌^◌, ◌<◌, ap, refl, sym, inl, inr, Result, Err, ◌∙◌, add-zero, zero-add, add-suc}
use Rattle.st_classes.specs.declared.refusals.Refusal.{Refusal}
use Rattle.st_classes.specs.declared.refusals.Refusal.TheVariants.{WriteFault}
use Rattle.st_session.specs.DeviceSessions.{FlushesAsOftenAsReads}
use Rattle.st_wire.specs.Streams.{one_more, so_many_more}

twice : (n m count : ℕ) → so_many_more (suc m) (so_many_more (suc n) count) ≡ so_many_more (suc (suc n + m)) count
twice n m count = omega arith

pub so_many_then : (n m count : ℕ) → so_many_more m (so_many_more n count) ≡ so_many_more (n + m) count
so_many_then n zero count = rw add-zero refl
so_many_then zero (suc m) count = rw zero-add refl
so_many_then (suc n) (suc m) count = twice n m count ∙ ap (λ k. so_many_more k count) (sym (add-suc (suc n) m))

pub one_then : (n now before after : ℕ) → now ≡ so_many_more n before → after ≡ one_more now → after ≡ so_many_more (n + 1) before
one_then n now before after e f = f ∙ ap one_more e ∙ so_many_then n 1 before

-- what was flushed and read before, and what was then
pub flushed_then : {T U : Type 0} (n r s t f g h : ℕ) (e : Refusal) → n < 2 ^ 32 → s ≡ so_many_more n r → g ≡ so_many_more n f → FlushesAsOftenAsReads {T = T} 1 s t g h (Err e) → FlushesAsOftenAsReads {T = U} (2 ^ 32) r t f h (Err e)
flushed_then {T} {U} n r s t f g h e bound counted flushed (m, one, more, inl last) =
    (n + m, omega (arith, bound, one), more ∙ ap (so_many_more m) counted ∙ so_many_then n m r, inl (last ∙ ap (so_many_more m) flushed ∙ so_many_then n m f))
flushed_then {T} {U} n r s t f g h e bound counted flushed (m, one, more, inr (fault, last)) =
    let is : e ≡ WriteFault = let from : ◌≡◌ {A = Result T Refusal} (Err e) (Err WriteFault) = fault in cc in
    let total : n + (m + 1) ≡ (n + m) + 1 = omega arith in
    (n + m, omega (arith, bound, one), more ∙ ap (so_many_more m) counted ∙ so_many_then n m r, inr (ap Err is, last ∙ ap (so_many_more (m + 1)) flushed ∙ so_many_then n (m + 1) f ∙ ap (λ k. so_many_more k f) total))
