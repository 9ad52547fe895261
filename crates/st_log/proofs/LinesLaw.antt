-- The whole lines of a text by its first line; and when a text is a batch.
use Rattle.std.proofs.Common.{◌≡◌, ◌≢◌, inl, inr, ⊎_elim, ℕ, suc, ◌+◌, ◌<◌, List, [], ◌∷◌, ◌++◌, length, get_or, take, drop, refl, sym, ◌∙◌, ap, arith, append_assoc, length-append, take-append-drop}
use Rattle.std.proofs.lemmas.Bool.{cases_eq}
use Rattle.std.proofs.lemmas.List.{drop_at, drop_more, drop_all}
use Rattle.std.specs.List.{AllByRecursion}
use Rattle.st_log.specs.Lines.{whole_lines, whole_len_from, IsBatch, IsLine, AreWholeLines}
use Rattle.st_log.proofs.Texts.{IsWhole, ends, goes_on, opens, shut, none_or_more, length-whole_lines, whole-join}

-- behind a brace, up to the first newline
through : (n : ℕ) (between rest : List ℕ) → AllByRecursion (λ b. b ≢ 10) between
    → whole_len_from (suc n) (between ++ 10 ∷ rest) ≡ n + length between + 2 + whole_len_from 0 rest
through n [] rest none = omega (arith, ends n 10 rest refl)
through n (b ∷ bs) rest none = omega (arith, goes_on n b (bs ++ 10 ∷ rest) none.0, through (suc n) bs rest none.1)

line_is_whole : (line : List ℕ) → IsLine line → IsWhole line
line_is_whole line l =
    omega (arith, ap (whole_len_from 0) l.is, opens 123 (l.between ++ 10 ∷ []) refl, through 0 l.between [] l.one_newline, ap (λ (t : List ℕ). length t) l.is, length-append l.between (10 ∷ []))

-- where a text has a whole line, it has a newline
finds_end : (n : ℕ) (bs : List ℕ) → 0 < whole_len_from (suc n) bs
    → (between : List ℕ) × (rest : List ℕ) × AllByRecursion (λ b. b ≢ 10) between × (bs ≡ between ++ 10 ∷ rest)
finds_end n [] some = absurd (omega (arith, some))
finds_end n (b ∷ bs) some = elim (cases_eq b 10) [
  | inl is ↦ ([], bs, tt, ap (λ (x : ℕ). x ∷ bs) is)
  | inr other ↦
      let found = finds_end (suc n) bs (omega (arith, some, goes_on n b bs other)) in
      (b ∷ found.0, found.1, (other, found.2), ap (λ (l : List ℕ). b ∷ l) found.3)
]

finds_line : (text : List ℕ) → 0 < whole_len_from 0 text → (line : List ℕ) × (rest : List ℕ) × IsLine line × (text ≡ line ++ rest)
finds_line [] some = absurd (omega (arith, some))
finds_line (b ∷ bs) some = elim (cases_eq b 123) [
  | inl is ↦
      let found = finds_end 0 bs (omega (arith, some, opens b bs is)) in (
        123 ∷ found.0 ++ 10 ∷ [],
        found.1,
        record { between = found.0; is = refl; one_newline = found.2 },
        ap (λ (x : ℕ). x ∷ bs) is ∙ ap (λ (l : List ℕ). 123 ∷ l) (found.3 ∙ sym (append_assoc found.0 (10 ∷ []) found.1)),
      )
  | inr other ↦ absurd (omega (arith, some, shut b bs other))
]

pub whole_lines_law : AreWholeLines
whole_lines_law = record {
  line = λ line rest is. whole-join line rest (line_is_whole line is);
  none = λ text no. ⊎_elim (λ none. ap (λ (n : ℕ). take n text) none)
      (λ some. let found = finds_line text some in absurd (no found.0 found.1 found.2 found.3)) (none_or_more 0 text);
}

-- ---- a batch

pub is_batch_from : (text : List ℕ) (end : ℕ) → end ≡ whole_len_from 0 text → 0 < end → end + 1 ≡ length text → get_or text end 0 ≡ 10 → IsBatch text
is_batch_from text end is some all newline =
    let last : drop end text ≡ 10 ∷ [] =
    drop_more text end 0 (omega (arith, all))
    ∙ ap (λ (b : ℕ). b ∷ drop (end + 1) text) newline
    ∙ ap (λ (l : List ℕ). 10 ∷ l) (drop_all (end + 1) text (omega (arith, all))) in
    record {
      lines = sym (take-append-drop end text) ∙ ap (λ (l : List ℕ). take end text ++ l) last ∙ ap (λ (n : ℕ). take n text ++ 10 ∷ []) is;
      some = omega (arith, some, is, length-whole_lines text);
    }

pub batch_ends : (text : List ℕ) (end : ℕ) → end ≡ whole_len_from 0 text → IsBatch text → end + 1 ≡ length text
batch_ends text end is batch =
    omega (arith, is, length-whole_lines text, ap (λ (l : List ℕ). length l) batch.lines, length-append (whole_lines text) (10 ∷ []))

pub batch_some : (text : List ℕ) (end : ℕ) → end ≡ whole_len_from 0 text → IsBatch text → 0 < end
batch_some text end is batch = omega (arith, is, length-whole_lines text, batch.some)

pub batch_newline : (text : List ℕ) (end : ℕ) → end ≡ whole_len_from 0 text → IsBatch text → get_or text end 0 ≡ 10
batch_newline text end is batch =
    let last : drop end text ≡ 10 ∷ [] =
    ap (λ (l : List ℕ). drop end l) batch.lines ∙ drop_at (whole_lines text) (10 ∷ []) end (omega (arith, is, length-whole_lines text)) in
    let more = drop_more text end 0 (omega (arith, batch_ends text end is batch)) in
    ap (λ (l : List ℕ). get_or l 0 0) (sym more ∙ last)
