-- Messages behind semicolons, one after another.
use Rattle.std.proofs.Common.{◌≡◌, ◌≢◌, ℕ, zero, suc, ◌≤◌, ◌<◌, List, [], ◌∷◌, ◌++◌, length, Some, None, refl, sym, ap, ◌∙◌, arith}
use Rattle.std.specs.Prelude.{option_and_then}
use Rattle.std.proofs.lemmas.List.{length-map}
use Rattle.st_reader.specs.declared.trees.Span.{Span}
use Rattle.st_reader.specs.declared.tokens.Kind.{Kind}
use Rattle.st_reader.specs.declared.tokens.Kind.TheVariants.{Identifier, Keyword, Assign, Binary, Number, Symbol, Mark as Marked}
use Rattle.st_reader.specs.declared.tokens.Mark.TheVariants.{OpenParenthesis, CloseParenthesis, OpenBlock, CloseBlock, Caret, Period, Semicolon, Bar}
use Rattle.st_reader.specs.declared.tokens.Lexeme.{Lexeme}
use Rattle.st_reader.specs.Tokens.{Token}
use Rattle.st_reader.specs.Syntax.{Expression, Message}
use Rattle.st_reader.specs.Lexemes.{token_at, token_of, tokens_of, Lacks}
use Rattle.st_reader.specs.Parser.{Read, Parse, in_front, message_of, further_messages_of}
use Rattle.st_reader.proofs.Loops.{token_is}
use Rattle.st_reader.proofs.Rows.{in_front_more, in_front_none}
use Rattle.st_reader.proofs.Shorter.{Keeps, message-keeps}

module _ (s : List ℕ) (group inner : Span → Parse Expression) where
  -- the messages behind one
  abbrev pub behind_message : ℕ → Span → Message × List Token → Read (List (Span × Message))
  behind_message n place r = in_front ((place, r.0) ∷ []) (further_messages_of group inner n r.1)

  further_more : (n : ℕ) (l : Lexeme) (ls : List Lexeme) → l.kind ≡ Marked Semicolon → further_messages_of group inner (suc n) (tokens_of s (l ∷ ls)) ≡ option_and_then (behind_message n l.span) (message_of group inner (tokens_of s ls))
  unfolding further_messages_of
  further_more n l ls k = ap (λ (t : Token). further_messages_of group inner (suc n) (t ∷ tokens_of s ls)) (token_is s (Marked Semicolon) l k)

  further_stop : (n : ℕ) (k : Kind) (place : Span) (ts : List Token) → (k ≢ Marked Semicolon) → further_messages_of group inner n (token_at s k place ∷ ts) ≡ Some ([], token_at s k place ∷ ts)
  unfolding further_messages_of
  further_stop zero k place ts other = refl
  further_stop (suc n) Identifier place ts other = refl
  further_stop (suc n) Keyword place ts other = refl
  further_stop (suc n) Assign place ts other = refl
  further_stop (suc n) Binary place ts other = refl
  further_stop (suc n) Number place ts other = refl
  further_stop (suc n) Symbol place ts other = refl
  further_stop (suc n) (Marked OpenParenthesis) place ts other = refl
  further_stop (suc n) (Marked CloseParenthesis) place ts other = refl
  further_stop (suc n) (Marked OpenBlock) place ts other = refl
  further_stop (suc n) (Marked CloseBlock) place ts other = refl
  further_stop (suc n) (Marked Caret) place ts other = refl
  further_stop (suc n) (Marked Period) place ts other = refl
  further_stop (suc n) (Marked Semicolon) place ts other = absurd (other refl)
  further_stop (suc n) (Marked Bar) place ts other = refl

  further_end : (n : ℕ) (ls : List Lexeme) → Lacks (Marked Semicolon) ls → further_messages_of group inner n (tokens_of s ls) ≡ Some ([], tokens_of s ls)
  unfolding further_messages_of
  further_end zero [] other = refl
  further_end (suc n) [] other = refl
  further_end n (l ∷ ls) other = further_stop n l.kind l.span (tokens_of s ls) other

  -- what was read so far, and what is left
  abbrev pub FurtherAre : Read (List (Span × Message)) → List (Span × Message) → List Lexeme → Type 0
  FurtherAre all xs rest = (n : ℕ) × (length (tokens_of s rest) ≤ n) × (all ≡ in_front xs (further_messages_of group inner n (tokens_of s rest)))

  further_at : (all : Read (List (Span × Message))) (xs : List (Span × Message)) (rest : List Lexeme) (l : Lexeme) (ls : List Lexeme) (n : ℕ) → rest ≡ l ∷ ls → l.kind ≡ Marked Semicolon → length (tokens_of s rest) ≤ n → all ≡ in_front xs (further_messages_of group inner n (tokens_of s rest)) → (m : ℕ) × (length (tokens_of s ls) ≤ m) × (all ≡ in_front xs (option_and_then (behind_message m l.span) (message_of group inner (tokens_of s ls))))
  further_at all xs rest l ls zero at k short inv =
      let long = ap (λ (x : List Lexeme). length (tokens_of s x)) at in
      absurd (omega (arith, long, short))
  further_at all xs rest l ls (suc n) at k short inv =
      let long = ap (λ (x : List Lexeme). length (tokens_of s x)) at in
      (n, omega (arith, long, short), inv ∙ ap (λ (x : List Lexeme). in_front xs (further_messages_of group inner (suc n) (tokens_of s x))) at ∙ ap (in_front xs) (further_more n l ls k))

  pub further_fail : (all : Read (List (Span × Message))) (xs : List (Span × Message)) (rest : List Lexeme) (l : Lexeme) (ls : List Lexeme) → rest ≡ l ∷ ls → l.kind ≡ Marked Semicolon → FurtherAre all xs rest → message_of group inner (tokens_of s ls) ≡ None → all ≡ None
  further_fail all xs rest l ls at k inv none =
      let p = further_at all xs rest l ls inv.0 at k inv.1 inv.2 in
      p.2 ∙ ap (λ (o : Read Message). in_front xs (option_and_then (behind_message p.0 l.span) o)) none

  pub further_done : (all : Read (List (Span × Message))) (xs : List (Span × Message)) (rest : List Lexeme) → Lacks (Marked Semicolon) rest → FurtherAre all xs rest → all ≡ Some (xs, tokens_of s rest)
  further_done all xs rest other inv = inv.2 ∙ ap (in_front xs) (further_end inv.0 rest other) ∙ in_front_none xs (tokens_of s rest)

module _ (s : List ℕ) (group inner : Span → Parse Expression) (groups : (place : Span) → Keeps (group place)) (inners : (place : Span) → Keeps (inner place)) where
  pub further_step : (all : Read (List (Span × Message))) (xs now : List (Span × Message)) (rest : List Lexeme) (l : Lexeme) (ls : List Lexeme) (m : Message) (behind : List Lexeme) → rest ≡ l ∷ ls → l.kind ≡ Marked Semicolon → message_of group inner (tokens_of s ls) ≡ Some (m, tokens_of s behind) → now ≡ xs ++ (l.span, m) ∷ [] → FurtherAre s group inner all xs rest → FurtherAre s group inner all now behind
  further_step all xs now rest l ls m behind at k found pushed inv =
      let p = further_at s group inner all xs rest l ls inv.0 at k inv.1 inv.2 in
      let h = message-keeps group inner groups inners (tokens_of s ls) m (tokens_of s behind) found in
      let left : Read (List (Span × Message)) = further_messages_of group inner p.0 (tokens_of s behind) in
      (p.0, omega (arith, h, p.1), p.2 ∙ ap (λ (o : Read Message). in_front xs (option_and_then (behind_message s group inner p.0 l.span) o)) found ∙ in_front_more xs (l.span, m) left ∙ ap (λ (x : List (Span × Message)). in_front x left) (sym pushed))

  pub further_smaller : (rest : List Lexeme) (l : Lexeme) (ls : List Lexeme) (m : Message) (behind : List Lexeme) → rest ≡ l ∷ ls → message_of group inner (tokens_of s ls) ≡ Some (m, tokens_of s behind) → length behind < length rest
  further_smaller rest l ls m behind at found =
      let h = message-keeps group inner groups inners (tokens_of s ls) m (tokens_of s behind) found in
      let long = ap (λ (x : List Lexeme). length x) at in
      omega (arith, h, long, length-map ls (token_of s), length-map behind (token_of s))
