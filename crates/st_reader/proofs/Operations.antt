-- Binary messages, one after another.
use Rattle.std.proofs.Common.{◌≡◌, ◌≢◌, ℕ, zero, suc, ◌≤◌, ◌<◌, List, [], ◌∷◌, length, Some, None, refl, sym, ap, ◌∙◌, arith}
use Rattle.std.specs.Prelude.{option_and_then}
use Rattle.std.proofs.lemmas.List.{length-map}
use Rattle.st_reader.specs.declared.trees.Span.{Span}
use Rattle.st_reader.specs.declared.trees.Name.{Name}
use Rattle.st_reader.specs.declared.tokens.Kind.{Kind}
use Rattle.st_reader.specs.declared.tokens.Kind.TheVariants.{Identifier, Keyword, Assign, Binary, Number, Symbol, Mark as Marked}
use Rattle.st_reader.specs.declared.tokens.Lexeme.{Lexeme}
use Rattle.st_reader.specs.Tokens.{Token}
use Rattle.st_reader.specs.Syntax.{Expression, Message, send}
use Rattle.st_reader.specs.Lexemes.{token_at, token_of, tokens_of, name_at, Lacks}
use Rattle.st_reader.specs.Parser.{Read, Parse, term_of, operations_of, binary_of}
use Rattle.st_reader.proofs.Loops.{token_is}
use Rattle.st_reader.proofs.Shorter.{Keeps, term-shortens}

module _ (s : List ℕ) (group inner : Span → Parse Expression) where
  -- the messages behind an argument
  abbrev pub behind_argument : ℕ → Expression → Name → Expression × List Token → Read Expression
  behind_argument n o selector r = operations_of group inner n (send o (Message.binary selector r.0)) r.1

  operations_more : (n : ℕ) (o : Expression) (l : Lexeme) (ls : List Lexeme) → l.kind ≡ Binary → operations_of group inner (suc n) o (tokens_of s (l ∷ ls)) ≡ option_and_then (behind_argument n o (name_at s l.span)) (term_of group inner (tokens_of s ls))
  unfolding operations_of
  operations_more n o l ls k = ap (λ (t : Token). operations_of group inner (suc n) o (t ∷ tokens_of s ls)) (token_is s Binary l k)

  operations_stop : (n : ℕ) (k : Kind) (place : Span) (o : Expression) (ts : List Token) → (k ≢ Binary) → operations_of group inner n o (token_at s k place ∷ ts) ≡ Some (o, token_at s k place ∷ ts)
  unfolding operations_of
  operations_stop zero k place o ts other = refl
  operations_stop (suc n) Identifier place o ts other = refl
  operations_stop (suc n) Keyword place o ts other = refl
  operations_stop (suc n) Assign place o ts other = refl
  operations_stop (suc n) Binary place o ts other = absurd (other refl)
  operations_stop (suc n) Number place o ts other = refl
  operations_stop (suc n) Symbol place o ts other = refl
  operations_stop (suc n) (Marked m) place o ts other = refl

  operations_end : (n : ℕ) (o : Expression) (ls : List Lexeme) → Lacks Binary ls → operations_of group inner n o (tokens_of s ls) ≡ Some (o, tokens_of s ls)
  unfolding operations_of
  operations_end zero o [] other = refl
  operations_end (suc n) o [] other = refl
  operations_end n o (l ∷ ls) other = operations_stop n l.kind l.span o (tokens_of s ls) other

  -- what was read so far, and what is left
  abbrev pub OperationsAre : Read Expression → Expression → List Lexeme → Type 0
  OperationsAre all o rest = (n : ℕ) × (length (tokens_of s rest) ≤ n) × (all ≡ operations_of group inner n o (tokens_of s rest))

  pub operations_begin : (ts : List Token) (o : Expression) (rest : List Lexeme) → term_of group inner ts ≡ Some (o, tokens_of s rest) → OperationsAre (binary_of group inner ts) o rest
  unfolding binary_of
  operations_begin ts o rest found = (length (tokens_of s rest), omega arith, ap (option_and_then (λ (r : Expression × List Token). operations_of group inner (length r.1) r.0 r.1)) found)

  pub operations_none : (ts : List Token) → term_of group inner ts ≡ None → binary_of group inner ts ≡ None
  unfolding binary_of
  operations_none ts none = ap (option_and_then (λ (r : Expression × List Token). operations_of group inner (length r.1) r.0 r.1)) none

  operations_at : (all : Read Expression) (o : Expression) (rest : List Lexeme) (l : Lexeme) (ls : List Lexeme) (n : ℕ) → rest ≡ l ∷ ls → l.kind ≡ Binary → length (tokens_of s rest) ≤ n → all ≡ operations_of group inner n o (tokens_of s rest) → (m : ℕ) × (length (tokens_of s ls) ≤ m) × (all ≡ option_and_then (behind_argument m o (name_at s l.span)) (term_of group inner (tokens_of s ls)))
  operations_at all o rest l ls zero at k short inv =
      let long = ap (λ (x : List Lexeme). length (tokens_of s x)) at in
      absurd (omega (arith, long, short))
  operations_at all o rest l ls (suc n) at k short inv =
      let long = ap (λ (x : List Lexeme). length (tokens_of s x)) at in
      (n, omega (arith, long, short), inv ∙ ap (λ (x : List Lexeme). operations_of group inner (suc n) o (tokens_of s x)) at ∙ operations_more n o l ls k)

  pub operations_fail : (all : Read Expression) (o : Expression) (rest : List Lexeme) (l : Lexeme) (ls : List Lexeme) → rest ≡ l ∷ ls → l.kind ≡ Binary → OperationsAre all o rest → term_of group inner (tokens_of s ls) ≡ None → all ≡ None
  operations_fail all o rest l ls at k inv none =
      let p = operations_at all o rest l ls inv.0 at k inv.1 inv.2 in
      p.2 ∙ ap (option_and_then (behind_argument p.0 o (name_at s l.span))) none

  pub operations_done : (all : Read Expression) (o : Expression) (rest : List Lexeme) → Lacks Binary rest → OperationsAre all o rest → all ≡ Some (o, tokens_of s rest)
  operations_done all o rest other inv = inv.2 ∙ operations_end inv.0 o rest other

module _ (s : List ℕ) (group inner : Span → Parse Expression) (groups : (place : Span) → Keeps (group place)) (inners : (place : Span) → Keeps (inner place)) where
  pub operations_step : (all : Read Expression) (o now : Expression) (rest : List Lexeme) (l : Lexeme) (ls : List Lexeme) (selector : Name) (argument : Expression) (behind : List Lexeme) → rest ≡ l ∷ ls → l.kind ≡ Binary → term_of group inner (tokens_of s ls) ≡ Some (argument, tokens_of s behind) → selector ≡ name_at s l.span → now ≡ send o (Message.binary selector argument) → OperationsAre s group inner all o rest → OperationsAre s group inner all now behind
  operations_step all o now rest l ls selector argument behind at k found same sent inv =
      let p = operations_at s group inner all o rest l ls inv.0 at k inv.1 inv.2 in
      let h = term-shortens group inner groups inners (tokens_of s ls) argument (tokens_of s behind) found in
      (p.0, omega (arith, h, p.1), p.2 ∙ ap (option_and_then (behind_argument s group inner p.0 o (name_at s l.span))) found ∙ ap (λ (x : Name). operations_of group inner p.0 (send o (Message.binary x argument)) (tokens_of s behind)) (sym same) ∙ ap (λ (x : Expression). operations_of group inner p.0 x (tokens_of s behind)) (sym sent))

  pub operations_smaller : (rest : List Lexeme) (l : Lexeme) (ls : List Lexeme) (argument : Expression) (behind : List Lexeme) → rest ≡ l ∷ ls → term_of group inner (tokens_of s ls) ≡ Some (argument, tokens_of s behind) → length behind < length rest
  operations_smaller rest l ls argument behind at found =
      let h = term-shortens group inner groups inners (tokens_of s ls) argument (tokens_of s behind) found in
      let long = ap (λ (x : List Lexeme). length x) at in
      omega (arith, h, long, length-map ls (token_of s), length-map behind (token_of s))
