-- The next raised flag, from the first raised bit of words.
use Rattle.std.proofs.Common.{arith, ◌≡◌, ℕ, ◌≤◌, true, false, List, Option, Some, None, IfSome, IfNone, sym, ◌∙◌, refl, inl, inr}
use Rattle.std.proofs.Math.Bool.{or-true}
use Rattle.std.proofs.Math.Dec.{leb}
use Rattle.std.proofs.lemmas.Bool.Decides.{leb_tells}
use Rattle.st_bitset.specs.BitSet.{IsNext, is_raised, is_no_later}
use Rattle.st_bitset.specs.Words.{IsFirst, NoneFrom, bit_of, flags_of}
use Rattle.st_bitset.proofs.InWords.{not_both}
use Rattle.st_bitset.proofs.Lists.{raised_is}

leb_of : (a b : ℕ) → a ≤ b → leb a b ≡ true
leb_of a b h = elim (leb_tells a b) [ inl w ↦ w.0 | inr w ↦ absurd (omega (arith, h, w.1)) ]

both_ahead : (from a b : ℕ) → leb from b ≡ true → leb from a ≡ true → leb a b ≡ true → is_no_later from a b ≡ true
both_ahead from a b e f g = rw (e, f, g) refl

other_behind : (from a b : ℕ) → leb from b ≡ false → leb from a ≡ true → is_no_later from a b ≡ true
other_behind from a b e f = rw (e, f) refl

both_behind : (from a b : ℕ) → leb from b ≡ false → leb a b ≡ true → is_no_later from a b ≡ true
both_behind from a b e g = rw (e, g) (or-true (leb from a))

-- the first one from a number on is next
pub next_ahead : (len : ℕ) (words : List ℕ) (from a : ℕ) → NoneFrom words len → IsFirst words from a → IsNext (flags_of len words) from a
next_ahead len words from a past h = record {
  raised = raised_is len words past a ∙ h.raised;
  first = λ b raised. elim (leb_tells from b) [
    | inl w ↦ both_ahead from a b w.0 (leb_of from a h.late) (leb_of a b (h.first b w.1 (sym (raised_is len words past b) ∙ raised)))
    | inr w ↦ other_behind from a b w.0 (leb_of from a h.late)
  ];
}

-- where there is none from the number on, the first one of all is next
pub next_behind : (len : ℕ) (words : List ℕ) (from a : ℕ) → NoneFrom words len → NoneFrom words from → IsFirst words 0 a → IsNext (flags_of len words) from a
next_behind len words from a past none h = record {
  raised = raised_is len words past a ∙ h.raised;
  first = λ b raised. elim (leb_tells from b) [
    | inl w ↦ absurd (not_both (bit_of words b) (sym (raised_is len words past b) ∙ raised) (none b w.1))
    | inr w ↦ both_behind from a b w.0 (leb_of a b (h.first b (omega arith) (sym (raised_is len words past b) ∙ raised)))
  ];
}

-- none is raised
pub none_raised : (len : ℕ) (words : List ℕ) → NoneFrom words len → NoneFrom words 0 → (a : ℕ) → is_raised (flags_of len words) a ≡ false
none_raised len words past none a = raised_is len words past a ∙ none a (omega arith)

-- the same of what a search from 0 on answers
pub some_behind : (len : ℕ) (words : List ℕ) (from : ℕ) (r : Option ℕ) → NoneFrom words len → NoneFrom words from → IfSome r (λ a. IsFirst words 0 a) → IfSome r (λ a. IsNext (flags_of len words) from a)
some_behind len words from None past none h = tt
some_behind len words from (Some a) past none h = next_behind len words from a past none h

pub none_behind : (len : ℕ) (words : List ℕ) (r : Option ℕ) → NoneFrom words len → IfNone r (NoneFrom words 0) → IfNone r ((a : ℕ) → is_raised (flags_of len words) a ≡ false)
none_behind len words None past h = none_raised len words past h
none_behind len words (Some a) past h = tt
