-- What a crash leaves while batches are appended one after the other.
use Rattle.std.proofs.Common.{◌≡◌, ⊎_elim, ℕ, ◌+◌, ◌<◌, List, [], ◌∷◌, ◌++◌, length, get_or, take, Vec, sym, ◌∙◌, ap, arith, append_assoc}
use Rattle.std.proofs.lemmas.List.{append-nil}
use Rattle.std.proofs.lemmas.Grind.{take_at_read}
use Rattle.std.specs.declared.alloc.Global.{Global}
use Rattle.st_log.specs.Lines.{whole_lines, lines_of, HasFirst, IsBeforeOrAfter}

lines_of-push : (bs : List (Vec ℕ Global)) (b : Vec ℕ Global) → lines_of (bs ++ b ∷ []) ≡ lines_of bs ++ whole_lines b.items
lines_of-push [] b = append-nil (whole_lines b.items)
lines_of-push (a ∷ bs) b = ap (λ (l : List ℕ). whole_lines a.items ++ l) (lines_of-push bs b) ∙ sym (append_assoc (whole_lines a.items) (lines_of bs) (whole_lines b.items))

-- one batch more
pub one_more : (lines now batch : List ℕ) (bs : List (Vec ℕ Global)) (k : ℕ) (b : Vec ℕ Global) → k < length bs → b ≡ get_or bs k b → batch ≡ b.items
    → now ≡ lines ++ lines_of (take k bs) → now ++ whole_lines batch ≡ lines ++ lines_of (take (k + 1) bs)
one_more lines now batch bs k b within is text now_is =
    let taken : take (k + 1) bs ≡ take k bs ++ b ∷ [] = (take_at_read bs k b within).1 ∙ ap (λ (v : Vec ℕ Global). take k bs ++ v ∷ []) (sym is) in
    ap (λ (l : List ℕ). l ++ whole_lines batch) now_is
    ∙ ap (λ (l : List ℕ). (lines ++ lines_of (take k bs)) ++ whole_lines l) text
    ∙ append_assoc lines (lines_of (take k bs)) (whole_lines b.items)
    ∙ ap (λ (l : List ℕ). lines ++ l) (sym (lines_of-push (take k bs) b) ∙ ap lines_of (sym taken))

pub first_more : (lines now batch : List ℕ) (bs : List (Vec ℕ Global)) (k : ℕ) (b : Vec ℕ Global) → k < length bs → b ≡ get_or bs k b → batch ≡ b.items
    → now ≡ lines ++ lines_of (take k bs) → (c : List ℕ) → IsBeforeOrAfter now batch c → HasFirst lines bs c
first_more lines now batch bs k b within is text now_is c left =
    ⊎_elim (λ before. (k, omega (arith, within), before ∙ now_is))
    (λ after. (k + 1, omega (arith, within), after ∙ one_more lines now batch bs k b within is text now_is)) left
