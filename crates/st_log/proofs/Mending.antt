-- What a crash leaves while the end of a file is repaired.
use Rattle.std.proofs.Common.{◌≡◌, inl, inr, ℕ, zero, suc, ◌+◌, ◌<◌, ◌^◌, ◌≤◌, List, [], ◌∷◌, ◌++◌, length, take, drop, refl, sym, ◌∙◌, ap, subst, arith, length-append, length-drop, take-append-drop}
use Rattle.std.proofs.lemmas.Bool.{cases_eq}
use Rattle.std.proofs.lemmas.List.{append-nil, take_all, drop_all}
use Rattle.st_log.specs.Device.{Overwritten, TornWrite, TornTruncation}
use Rattle.st_log.specs.Lines.{whole_lines, whole_len_from, with_end}
use Rattle.st_log.proofs.Texts.{IsWhole, front, opens, shut, within, length-whole_lines, whole_is_whole, whole-join}

take_twice : (m n : ℕ) (xs : List ℕ) → m ≤ n → take m (take n xs) ≡ take m xs
take_twice zero n xs le = refl
take_twice (suc m) zero xs le = absurd (omega (arith, le))
take_twice (suc m) (suc n) [] le = refl
take_twice (suc m) (suc n) (x ∷ xs) le = ap (λ (l : List ℕ). x ∷ l) (take_twice m n xs (omega (arith, le)))

module _ (file : List ℕ) where
  -- any cut keeps the lines
  pub cut_keeps : (c : List ℕ) → TornTruncation (whole_len_from 0 file) file c → whole_lines c ≡ whole_lines file
  cut_keeps c cut =
      let shorter : whole_len_from 0 file ≤ length c = omega (arith, cut.no_shorter, within 0 file) in
      let same : whole_len_from 0 c ≡ whole_len_from 0 file = ap (whole_len_from 0) (sym cut.front) ∙ front 0 (length c) file (omega (arith, shorter)) in
      ap (λ (n : ℕ). take n c) same
      ∙ ap (λ (l : List ℕ). take (whole_len_from 0 file) l) (sym cut.front)
      ∙ take_twice (whole_len_from 0 file) (length c) file shorter

-- one byte is no line
short_none : (bytes : List ℕ) → length bytes ≤ 1 → whole_lines bytes ≡ []
short_none [] short = refl
short_none (a ∷ []) short = elim (cases_eq a 123) [
  | inl is ↦ ap (λ (n : ℕ). take n (a ∷ [])) (opens a [] is)
  | inr other ↦ ap (λ (n : ℕ). take n (a ∷ [])) (shut a [] other)
]
short_none (a ∷ b ∷ bytes) short = absurd (omega (arith, short))

module _ (text : List ℕ) (is_whole : IsWhole text) where
  pub end_torn : (c : List ℕ) → TornWrite (length text) 1 text c → whole_lines c ≡ text
  end_torn c torn =
      let front : take (length text) c ≡ text = torn.before ∙ take_all (length text) text (omega arith) in
      let rest = drop (length text) c in
      let split : c ≡ text ++ rest = sym (take-append-drop (length text) c) ∙ ap (λ (l : List ℕ). l ++ rest) front in
      ap whole_lines split ∙ whole-join text rest is_whole
      ∙ ap (λ (l : List ℕ). text ++ l) (short_none rest (omega (arith, length-drop (length text) c, torn.no_longer))) ∙ append-nil text

  pub end_written : (c : List ℕ) → Overwritten text (length text) (10 ∷ []) c → c ≡ with_end text
  end_written c holds =
      holds
      ∙ ap (λ (l : List ℕ). l ++ (10 ∷ []) ++ drop (length text + 1) text) (take_all (length text) text (omega arith))
      ∙ ap (λ (l : List ℕ). text ++ (10 ∷ []) ++ l) (drop_all (length text + 1) text (omega arith))
      ∙ append-nil (with_end text)

-- ---- the same of a file, and the place where its lines end

pub end_within : (file : List ℕ) (end : ℕ) → end ≡ whole_len_from 0 file → end ≤ length file
end_within file end is = omega (arith, is, within 0 file)

pub cut_crash : (file : List ℕ) (end : ℕ) → end ≡ whole_len_from 0 file → (c : List ℕ) → TornTruncation end file c → whole_lines c ≡ whole_lines file
cut_crash file end is c cut = cut_keeps file c (subst (λ n. TornTruncation n file c) is cut)

pub cut_is : (file new : List ℕ) (end : ℕ) → end ≡ whole_len_from 0 file → new ≡ take end file → new ≡ whole_lines file
cut_is file new end is cut = cut ∙ ap (λ (n : ℕ). take n file) is

pub end_is : (file new : List ℕ) (end : ℕ) → end ≡ whole_len_from 0 file → new ≡ whole_lines file → end ≡ length new
end_is file new end is new_is = omega (arith, is, length-whole_lines file, ap (λ (l : List ℕ). length l) new_is)

pub end_crash : (file new : List ℕ) (end : ℕ) → end ≡ length new → new ≡ whole_lines file → (c : List ℕ) → TornWrite end 1 new c → whole_lines c ≡ whole_lines file
end_crash file new end ends is c torn =
    end_torn (whole_lines file) (whole_is_whole file) c
    (subst (λ d. TornWrite (length d) 1 d c) is (subst (λ n. TornWrite n 1 new c) ends torn))

pub mended_is : (file new mended : List ℕ) (end : ℕ) → end ≡ length new → new ≡ whole_lines file → Overwritten new end (10 ∷ []) mended → mended ≡ with_end (whole_lines file)
mended_is file new mended end ends is written =
    end_written (whole_lines file) (whole_is_whole file) mended
    (subst (λ d. Overwritten d (length d) (10 ∷ []) mended) is (subst (λ n. Overwritten new n (10 ∷ []) mended) ends written))

pub mended_fits : (file new mended : List ℕ) (end : ℕ) → end ≡ length new → new ≡ whole_lines file → mended ≡ with_end (whole_lines file) → end + 1 < 2 ^ 63 → length mended < 2 ^ 63
mended_fits file new mended end ends is mended_is fits =
    omega (arith, fits, ends, ap (λ (l : List ℕ). length l) is, ap (λ (l : List ℕ). length l) mended_is, length-append (whole_lines file) (10 ∷ []))

pub mended_same : (file mended : List ℕ) → mended ≡ with_end (whole_lines file) → whole_lines mended ≡ whole_lines file
mended_same file mended is =
    ap whole_lines is ∙ whole-join (whole_lines file) (10 ∷ []) (whole_is_whole file) ∙ append-nil (whole_lines file)
