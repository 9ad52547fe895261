-- Texts between quotes, byte by byte.
use Rattle.std.proofs.Common.{◌≡◌, ℕ, ◌+◌, ◌<◌, List, [], ◌∷◌, ◌++◌, length, get_or, take, refl, sym, ap, ◌∙◌, append_assoc, append-nil}
use Rattle.std.proofs.lemmas.List.{take_more}
use Rattle.json.specs.Print.{escape, escape_byte}

escape_append : (xs ys : List ℕ) → escape (xs ++ ys) ≡ escape xs ++ escape ys
escape_append [] ys = refl
escape_append (x ∷ xs) ys = ap (λ (l : List ℕ). escape_byte x ++ l) (escape_append xs ys) ∙ sym (append_assoc (escape_byte x) (escape xs) (escape ys))

-- the escape of one byte more
pub escape_more : (text : List ℕ) (i d : ℕ) → i < length text → escape (take (i + 1) text) ≡ escape (take i text) ++ escape_byte (get_or text i d)
escape_more text i d h =
    ap escape (take_more text i d h)
    ∙ escape_append (take i text) (get_or text i d ∷ [])
    ∙ ap (λ (l : List ℕ). escape (take i text) ++ l) (append-nil (escape_byte (get_or text i d)))

-- one byte more that stands for itself
pub plain_more : (text : List ℕ) (i d : ℕ) → i < length text → escape_byte (get_or text i d) ≡ get_or text i d ∷ [] → escape (take i text) ≡ take i text → escape (take (i + 1) text) ≡ take (i + 1) text
plain_more text i d h plain so_far =
    escape_more text i d h
    ∙ ap (λ (l : List ℕ). l ++ escape_byte (get_or text i d)) so_far
    ∙ ap (λ (l : List ℕ). take i text ++ l) plain
    ∙ sym (take_more text i d h)
