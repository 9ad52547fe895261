-- Selectors and their numbers of arguments.
use Rattle.std.proofs.Common.{◌≡◌, ℕ, ◌≤◌, Bool, true, false, leb, ◌&&◌, List, Option, Some, None, refl, subst, arith}
use Rattle.std.proofs.lemmas.Bool.{false≢true, eqb-true, and_parts, leb-true}
use Rattle.std.proofs.lemmas.Option.{same_Some, none-some}
use Rattle.st_classes.specs.Selectors.{arity_of, is_selector, is_identifier, is_binary, keyword_arity, keywords, parts}
use Rattle.st_classes.specs.MethodSuits.{is_number}

pub selector_of_number : (text : List ℕ) (n : ℕ) → is_number (arity_of text) n ≡ true → is_selector text ≡ true
selector_of_number text n h = by (arity_of text) refl
  where
    by : (o : Option ℕ) → arity_of text ≡ o → is_selector text ≡ true
    by None e =
        let k : false ≡ true = rw e at h in
        absurd (false≢true k)
    by (Some m) e = rw e refl

-- a number that is one of few is few
few_of : (o : Option ℕ) (n : ℕ) → ((m : ℕ) → o ≡ Some m → m ≤ 8) → is_number o n ≡ true → n ≤ 8
few_of None n f h = absurd (false≢true h)
few_of (Some m) n f h = subst (λ k. k ≤ 8) (eqb-true m n h) (f m refl)

keywords_few : (o : Option ℕ) (m : ℕ) → keyword_arity o ≡ Some m → m ≤ 8
keywords_few None m e = absurd (none-some m e)
keywords_few (Some k) m e = by (leb 1 k && leb k 8) refl
  where
    by : (v : Bool) → (leb 1 k && leb k 8) ≡ v → m ≤ 8
    by true q =
        let s : Some k ≡ Some m = rw q at e in
        subst (λ j. j ≤ 8) (same_Some k m s) (leb-true k 8 (and_parts (leb 1 k) (leb k 8) q).1)
    by false q =
        let s : None ≡ Some m = rw q at e in
        absurd (none-some m s)

arity_few : (text : List ℕ) (m : ℕ) → arity_of text ≡ Some m → m ≤ 8
arity_few text m e = by (is_identifier text) refl (is_binary text) refl
  where
    by : (v : Bool) → is_identifier text ≡ v → (w : Bool) → is_binary text ≡ w → m ≤ 8
    by true p w q =
        let s : Some 0 ≡ Some m = rw p at e in
        subst (λ j. j ≤ 8) (same_Some 0 m s) (omega arith)
    by false p true q =
        let s : Some 1 ≡ Some m = rw (p, q) at e in
        subst (λ j. j ≤ 8) (same_Some 1 m s) (omega arith)
    by false p false q =
        let s : keyword_arity (keywords (parts text)) ≡ Some m = rw (p, q) at e in
        keywords_few (keywords (parts text)) m s

-- a selector has 8 arguments at most
pub number_few : (text : List ℕ) (n : ℕ) → is_number (arity_of text) n ≡ true → n ≤ 8
number_few text n h = few_of (arity_of text) n (arity_few text) h
