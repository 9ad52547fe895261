-- What a crash leaves in each of the two writes of a batch.
use Rattle.std.proofs.Common.{◌≡◌, ◌⊎◌, inl, inr, ℕ, ◌+◌, ◌-◌, ◌<◌, ◌^◌, List, [], ◌∷◌, ◌++◌, length, get_or, take, drop, sym, ◌∙◌, ap, subst, arith, append_assoc, length-append, length-drop, take-append-drop}
use Rattle.std.proofs.lemmas.Bool.{cases_eq}
use Rattle.std.proofs.lemmas.List.{take_at, drop_at, drop_more, take_all, drop_all, append-nil}
use Rattle.st_log.specs.Device.{Overwritten, IsDurable, TornWrite}
use Rattle.st_log.specs.Lines.{whole_lines, whole_len_from, with_end, IsBeforeOrAfter, IsBatch}
use Rattle.st_log.specs.Logs.{IsReady}
use Rattle.st_log.specs.declared.logs.Log.{Log}
use Rattle.st_log.proofs.Texts.{IsWhole, length-whole_lines, shut, whole-both, whole-join, whole_is_whole}

module _ (text tail : List ℕ) (is_whole : IsWhole text) where
  -- the file whose next line is shut
  abbrev pub staged : List ℕ
  staged = text ++ 10 ∷ tail

  length-with_end : length (with_end text) ≡ length text + 1
  length-with_end = omega (arith, length-append text (10 ∷ []))

  pub length-staged : length staged ≡ length text + 1 + length tail
  length-staged = omega (arith, length-append text (10 ∷ tail))

  -- a line that is shut ends the whole lines
  pub none_behind : (b : ℕ) (rest : List ℕ) → whole_len_from 0 (b ∷ rest) ≡ 0 → whole_lines (text ++ b ∷ rest) ≡ text
  none_behind b rest none = whole-join text (b ∷ rest) is_whole ∙ ap (λ (n : ℕ). text ++ take n (b ∷ rest)) none ∙ append-nil text

  pub behind_torn : (n : ℕ) (c : List ℕ) → TornWrite (length text + 1) n (with_end text) c → whole_lines c ≡ text
  behind_torn n c torn =
      let front : take (length text + 1) c ≡ with_end text = torn.before ∙ take_all _ _ (omega (arith, length-with_end)) in
      let rest = drop (length text + 1) c in
      let split : c ≡ text ++ 10 ∷ rest = sym (take-append-drop (length text + 1) c) ∙ ap (λ (l : List ℕ). l ++ rest) front ∙ append_assoc text (10 ∷ []) rest in
      ap whole_lines split ∙ none_behind 10 rest (shut 10 rest (omega arith))

  pub behind_written : (c : List ℕ) → Overwritten (with_end text) (length text + 1) tail c → c ≡ staged
  behind_written c holds =
      holds
      ∙ ap (λ (l : List ℕ). l ++ tail ++ drop (length text + 1 + length tail) (with_end text)) (take_all _ _ (omega (arith, length-with_end)))
      ∙ ap (λ (l : List ℕ). with_end text ++ tail ++ l) (drop_all (length text + 1 + length tail) (with_end text) (omega (arith, length-with_end)))
      ∙ append-nil (with_end text ++ tail)
      ∙ append_assoc text (10 ∷ []) tail

  staged_split : staged ≡ with_end text ++ tail
  staged_split = sym (append_assoc text (10 ∷ []) tail)

  front_of : take (length text) staged ≡ text
  front_of = take_at text (10 ∷ tail) (length text) (omega arith)

  back_of : drop (length text + 1) staged ≡ tail
  back_of = ap (λ (l : List ℕ). drop (length text + 1) l) staged_split ∙ drop_at (with_end text) tail (length text + 1) length-with_end

  -- the batch counts, or it does not
  pub gate_torn : (c : List ℕ) → TornWrite (length text) 1 staged c → (whole_lines c ≡ text) ⊎ (whole_lines c ≡ text ++ whole_lines (123 ∷ tail))
  gate_torn c torn =
      let gate = get_or c (length text) 0 in
      let rest : drop (length text) c ≡ gate ∷ tail = drop_more c (length text) 0 (omega (arith, torn.no_shorter, length-staged)) ∙ ap (λ (l : List ℕ). gate ∷ l) (torn.after ∙ back_of) in
      let split : c ≡ text ++ gate ∷ tail =
      sym (take-append-drop (length text) c) ∙ ap (λ (l : List ℕ). l ++ drop (length text) c) (torn.before ∙ front_of) ∙ ap (λ (l : List ℕ). text ++ l) rest in
      elim (cases_eq gate 123) [
        | inl is ↦ inr (ap whole_lines (split ∙ ap (λ (b : ℕ). text ++ b ∷ tail) is) ∙ whole-join text (123 ∷ tail) is_whole)
        | inr other ↦ inl (ap whole_lines split ∙ none_behind gate tail (shut gate tail other))
      ]

  pub gate_written : (c : List ℕ) → Overwritten staged (length text) (123 ∷ []) c → c ≡ text ++ 123 ∷ tail
  gate_written c holds =
      holds
      ∙ ap (λ (l : List ℕ). l ++ (123 ∷ []) ++ drop (length text + 1) staged) front_of
      ∙ ap (λ (l : List ℕ). text ++ (123 ∷ []) ++ l) back_of
      ∙ append_assoc text (123 ∷ []) tail

-- ---- the same of a file and a batch

pub staged_crash : (file text batch : List ℕ) (end at n : ℕ) → IsWhole text → file ≡ with_end text → end ≡ length text → at ≡ end + 1
    → (c : List ℕ) → TornWrite at n file c → IsBeforeOrAfter text batch c
staged_crash file text batch end at n is_whole file_is end_is at_is c torn =
    let place : at ≡ length text + 1 = omega (arith, end_is, at_is) in
    inl (behind_torn text [] is_whole n c (subst (λ d. TornWrite (length text + 1) n d c) file_is (subst (λ a. TornWrite a n file c) place torn)))

-- a batch begins with a brace
opens_batch : (batch : List ℕ) → IsBatch batch → batch ≡ 123 ∷ drop 1 batch
opens_batch [] b = absurd (omega (arith, b.some))
opens_batch (x ∷ xs) b = elim (cases_eq x 123) [
  | inl is ↦ ap (λ (y : ℕ). y ∷ xs) is
  | inr other ↦ absurd (omega (arith, b.some, length-whole_lines (x ∷ xs), shut x xs other))
]

first_of_batch : (batch : List ℕ) → IsBatch batch → take 1 batch ≡ 123 ∷ []
first_of_batch batch b = ap (λ (l : List ℕ). take 1 l) (opens_batch batch b)

rest_of_batch : (batch : List ℕ) → take (length batch - 1) (drop 1 batch) ≡ drop 1 batch
rest_of_batch batch = take_all (length batch - 1) (drop 1 batch) (omega (arith, length-drop 1 batch))

-- the file with the batch behind a line that is shut
abbrev pub behind : List ℕ → List ℕ → List ℕ
behind text batch = text ++ 10 ∷ drop 1 batch

pub staged_is : (file text batch new : List ℕ) (end : ℕ) → IsWhole text → file ≡ with_end text → end ≡ length text
    → Overwritten file (end + 1) (take (length batch - 1) (drop 1 batch)) new → new ≡ behind text batch
staged_is file text batch new end is_whole file_is end_is holds =
    behind_written text (drop 1 batch) is_whole new
    (subst (λ l. Overwritten (with_end text) (length text + 1) l new) (rest_of_batch batch)
    (subst (λ n. Overwritten (with_end text) (n + 1) (take (length batch - 1) (drop 1 batch)) new) end_is
    (subst (λ d. Overwritten d (end + 1) (take (length batch - 1) (drop 1 batch)) new) file_is holds)))

pub gate_crash : (file text batch : List ℕ) (end : ℕ) → IsWhole text → IsBatch batch → file ≡ behind text batch → end ≡ length text
    → (c : List ℕ) → TornWrite end (length (take 1 batch)) file c → IsBeforeOrAfter text batch c
gate_crash file text batch end is_whole b file_is end_is c torn =
    let outcome : (whole_lines c ≡ text) ⊎ (whole_lines c ≡ text ++ whole_lines (123 ∷ drop 1 batch)) =
    gate_torn text (drop 1 batch) is_whole c
    (subst (λ n. TornWrite (length text) n (behind text batch) c) (ap (λ (l : List ℕ). length l) (first_of_batch batch b))
    (subst (λ n. TornWrite n (length (take 1 batch)) (behind text batch) c) end_is
    (subst (λ d. TornWrite end (length (take 1 batch)) d c) file_is torn))) in
    subst (λ (l : List ℕ). (whole_lines c ≡ text) ⊎ (whole_lines c ≡ text ++ whole_lines l)) (sym (opens_batch batch b)) outcome

pub gate_is : (file text batch new : List ℕ) (end : ℕ) → IsWhole text → IsBatch batch → file ≡ behind text batch → end ≡ length text
    → Overwritten file end (take 1 batch) new → new ≡ with_end (text ++ whole_lines batch)
gate_is file text batch new end is_whole b file_is end_is holds =
    let is : new ≡ text ++ 123 ∷ drop 1 batch =
    gate_written text (drop 1 batch) is_whole new
    (subst (λ l. Overwritten (behind text batch) (length text) l new) (first_of_batch batch b)
    (subst (λ n. Overwritten (behind text batch) n (take 1 batch) new) end_is
    (subst (λ d. Overwritten d end (take 1 batch) new) file_is holds))) in
    is ∙ ap (λ (l : List ℕ). text ++ l) (sym (opens_batch batch b) ∙ b.lines) ∙ sym (append_assoc text (whole_lines batch) (10 ∷ []))

pub lines_are : (text batch new : List ℕ) → IsWhole text → new ≡ with_end (text ++ whole_lines batch) → whole_lines new ≡ text ++ whole_lines batch
lines_are text batch new is_whole is =
    ap whole_lines is ∙ none_behind (text ++ whole_lines batch) [] (whole-both text (whole_lines batch) is_whole (whole_is_whole batch)) 10 [] (shut 10 [] (omega arith))

-- a log whose device has the lines and those of a batch, all of it on the disk
pub ready : {D : Type 0} (contents : D → List ℕ) (may_leave : D → List ℕ → Type 0) (log : Log D) (text batch : List ℕ) (end : ℕ)
    → IsWhole text → IsBatch batch → end ≡ length text → end + 1 + length (take (length batch - 1) (drop 1 batch)) < 2 ^ 63
    → contents log.device ≡ with_end (text ++ whole_lines batch) → log.end ≡ end + (length batch - 1) → IsDurable (contents log.device) (may_leave log.device)
    → IsReady contents may_leave log
ready contents may_leave log text batch end is_whole b end_is fits is ends durable =
    let stands = lines_are text batch (contents log.device) is_whole is in
    let batch_len : length batch ≡ length (whole_lines batch) + 1 = omega (arith, ap (λ (l : List ℕ). length l) b.lines, length-append (whole_lines batch) (10 ∷ [])) in
    record {
      file = is ∙ ap with_end (sym stands);
      end = omega (arith, ends, end_is, batch_len, length-append text (whole_lines batch), ap (λ (l : List ℕ). length l) stands);
      durable = durable;
      fits = omega (arith, fits, end_is, batch_len, ap (λ (l : List ℕ). length l) (rest_of_batch batch), length-drop 1 batch, ap (λ (l : List ℕ). length l) is, length-append (text ++ whole_lines batch) (10 ∷ []), length-append text (whole_lines batch));
    }
