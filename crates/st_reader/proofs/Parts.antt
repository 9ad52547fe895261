-- Keywords with their arguments, one after another.
use Rattle.std.proofs.Common.{◌≡◌, ◌≢◌, ℕ, zero, suc, ◌<◌, List, [], ◌∷◌, ◌++◌, length, Some, None, refl, sym, ap, ◌∙◌, arith}
use Rattle.std.specs.Prelude.{option_and_then}
use Rattle.std.proofs.lemmas.List.{length-map}
use Rattle.st_reader.specs.declared.trees.Span.{Span}
use Rattle.st_reader.specs.declared.trees.Name.{Name}
use Rattle.st_reader.specs.declared.tokens.Kind.{Kind}
use Rattle.st_reader.specs.declared.tokens.Kind.TheVariants.{Identifier, Keyword, Assign, Binary, Number, Symbol, Mark as Marked}
use Rattle.st_reader.specs.declared.tokens.Lexeme.{Lexeme}
use Rattle.st_reader.specs.Tokens.{Token}
use Rattle.st_reader.specs.Syntax.{Expression}
use Rattle.st_reader.specs.Lexemes.{token_at, token_of, tokens_of, name_at, Lacks}
use Rattle.st_reader.specs.Parser.{Read, Parse, in_front, binary_of, keyword_parts_of}
use Rattle.st_reader.proofs.Loops.{token_is}
use Rattle.st_reader.proofs.Rows.{in_front_more, in_front_none}
use Rattle.st_reader.proofs.Shorter.{Keeps, binary-shortens}

module _ (s : List ℕ) (group inner : Span → Parse Expression) where
  -- the parts behind one
  abbrev pub behind_part : ℕ → Name → Expression × List Token → Read (List (Name × Expression))
  behind_part n keyword r = in_front ((keyword, r.0) ∷ []) (keyword_parts_of group inner n r.1)

  parts_more : (n : ℕ) (l : Lexeme) (ls : List Lexeme) → l.kind ≡ Keyword → keyword_parts_of group inner (suc n) (tokens_of s (l ∷ ls)) ≡ option_and_then (behind_part n (name_at s l.span)) (binary_of group inner (tokens_of s ls))
  unfolding keyword_parts_of
  parts_more n l ls k = ap (λ (t : Token). keyword_parts_of group inner (suc n) (t ∷ tokens_of s ls)) (token_is s Keyword l k)

  parts_many : (l : Lexeme) (ls : List Lexeme) → l.kind ≡ Keyword → keyword_parts_of group inner zero (tokens_of s (l ∷ ls)) ≡ None
  unfolding keyword_parts_of
  parts_many l ls k = ap (λ (t : Token). keyword_parts_of group inner zero (t ∷ tokens_of s ls)) (token_is s Keyword l k)

  parts_stop : (n : ℕ) (k : Kind) (place : Span) (ts : List Token) → (k ≢ Keyword) → keyword_parts_of group inner n (token_at s k place ∷ ts) ≡ Some ([], token_at s k place ∷ ts)
  unfolding keyword_parts_of
  parts_stop zero Identifier place ts other = refl
  parts_stop zero Keyword place ts other = absurd (other refl)
  parts_stop zero Assign place ts other = refl
  parts_stop zero Binary place ts other = refl
  parts_stop zero Number place ts other = refl
  parts_stop zero Symbol place ts other = refl
  parts_stop zero (Marked m) place ts other = refl
  parts_stop (suc n) Identifier place ts other = refl
  parts_stop (suc n) Keyword place ts other = absurd (other refl)
  parts_stop (suc n) Assign place ts other = refl
  parts_stop (suc n) Binary place ts other = refl
  parts_stop (suc n) Number place ts other = refl
  parts_stop (suc n) Symbol place ts other = refl
  parts_stop (suc n) (Marked m) place ts other = refl

  parts_end : (n : ℕ) (ls : List Lexeme) → Lacks Keyword ls → keyword_parts_of group inner n (tokens_of s ls) ≡ Some ([], tokens_of s ls)
  unfolding keyword_parts_of
  parts_end zero [] other = refl
  parts_end (suc n) [] other = refl
  parts_end n (l ∷ ls) other = parts_stop n l.kind l.span (tokens_of s ls) other

  -- what was read so far, and what is left
  abbrev pub PartsAre : Read (List (Name × Expression)) → List (Name × Expression) → ℕ → List Lexeme → Type 0
  PartsAre all xs n rest = all ≡ in_front xs (keyword_parts_of group inner n (tokens_of s rest))

  parts_at : (all : Read (List (Name × Expression))) (xs : List (Name × Expression)) (n m : ℕ) (rest : List Lexeme) (l : Lexeme) (ls : List Lexeme) → n ≡ suc m → rest ≡ l ∷ ls → l.kind ≡ Keyword → PartsAre all xs n rest → all ≡ in_front xs (option_and_then (behind_part m (name_at s l.span)) (binary_of group inner (tokens_of s ls)))
  parts_at all xs n m rest l ls one at k inv =
      inv ∙ ap (λ (x : ℕ). in_front xs (keyword_parts_of group inner x (tokens_of s rest))) one ∙ ap (λ (x : List Lexeme). in_front xs (keyword_parts_of group inner (suc m) (tokens_of s x))) at ∙ ap (in_front xs) (parts_more m l ls k)

  pub parts_step : (all : Read (List (Name × Expression))) (xs now : List (Name × Expression)) (n m : ℕ) (rest : List Lexeme) (l : Lexeme) (ls : List Lexeme) (keyword : Name) (argument : Expression) (behind : List Lexeme) → n ≡ suc m → rest ≡ l ∷ ls → l.kind ≡ Keyword → binary_of group inner (tokens_of s ls) ≡ Some (argument, tokens_of s behind) → keyword ≡ name_at s l.span → now ≡ xs ++ (keyword, argument) ∷ [] → PartsAre all xs n rest → PartsAre all now m behind
  parts_step all xs now n m rest l ls keyword argument behind one at k found same pushed inv =
      let left : Read (List (Name × Expression)) = keyword_parts_of group inner m (tokens_of s behind) in
      parts_at all xs n m rest l ls one at k inv ∙ ap (λ (o : Read Expression). in_front xs (option_and_then (behind_part m (name_at s l.span)) o)) found ∙ in_front_more xs (name_at s l.span, argument) left ∙ ap (λ (x : Name). in_front (xs ++ (x, argument) ∷ []) left) (sym same) ∙ ap (λ (x : List (Name × Expression)). in_front x left) (sym pushed)

  pub parts_fail : (all : Read (List (Name × Expression))) (xs : List (Name × Expression)) (n m : ℕ) (rest : List Lexeme) (l : Lexeme) (ls : List Lexeme) → n ≡ suc m → rest ≡ l ∷ ls → l.kind ≡ Keyword → PartsAre all xs n rest → binary_of group inner (tokens_of s ls) ≡ None → all ≡ None
  parts_fail all xs n m rest l ls one at k inv none =
      parts_at all xs n m rest l ls one at k inv ∙ ap (λ (o : Read Expression). in_front xs (option_and_then (behind_part m (name_at s l.span)) o)) none

  pub parts_full : (all : Read (List (Name × Expression))) (xs : List (Name × Expression)) (n : ℕ) (rest : List Lexeme) (l : Lexeme) (ls : List Lexeme) → n ≡ zero → rest ≡ l ∷ ls → l.kind ≡ Keyword → PartsAre all xs n rest → all ≡ None
  parts_full all xs n rest l ls none at k inv =
      inv ∙ ap (λ (x : ℕ). in_front xs (keyword_parts_of group inner x (tokens_of s rest))) none ∙ ap (λ (x : List Lexeme). in_front xs (keyword_parts_of group inner zero (tokens_of s x))) at ∙ ap (in_front xs) (parts_many l ls k)

  pub parts_done : (all : Read (List (Name × Expression))) (xs : List (Name × Expression)) (n : ℕ) (rest : List Lexeme) → Lacks Keyword rest → PartsAre all xs n rest → all ≡ Some (xs, tokens_of s rest)
  parts_done all xs n rest other inv = inv ∙ ap (in_front xs) (parts_end n rest other) ∙ in_front_none xs (tokens_of s rest)

module _ (s : List ℕ) (group inner : Span → Parse Expression) (groups : (place : Span) → Keeps (group place)) (inners : (place : Span) → Keeps (inner place)) where
  pub parts_smaller : (rest : List Lexeme) (l : Lexeme) (ls : List Lexeme) (argument : Expression) (behind : List Lexeme) → rest ≡ l ∷ ls → binary_of group inner (tokens_of s ls) ≡ Some (argument, tokens_of s behind) → length behind < length rest
  parts_smaller rest l ls argument behind at found =
      let h = binary-shortens group inner groups inners (tokens_of s ls) argument (tokens_of s behind) found in
      let long = ap (λ (x : List Lexeme). length x) at in
      omega (arith, h, long, length-map ls (token_of s), length-map behind (token_of s))
