-- Statements, one after another.
use Rattle.std.proofs.Common.{◌≡◌, ◌≢◌, ℕ, zero, suc, ◌≤◌, ◌<◌, Bool, true, false, cond, List, [], ◌∷◌, ◌++◌, length, Some, None, refl, sym, ap, ◌∙◌, arith}
use Rattle.std.specs.Prelude.{option_map, option_and_then}
use Rattle.std.proofs.lemmas.List.{length-map}
use Rattle.st_reader.specs.declared.trees.Span.{Span}
use Rattle.st_reader.specs.declared.tokens.Kind.{Kind}
use Rattle.st_reader.specs.declared.tokens.Kind.TheVariants.{Identifier, Keyword, Assign, Binary, Number, Symbol, Mark as Marked}
use Rattle.st_reader.specs.declared.tokens.Mark.TheVariants.{OpenParenthesis, CloseParenthesis, OpenBlock, CloseBlock, Caret, Period, Semicolon, Bar}
use Rattle.st_reader.specs.declared.tokens.Lexeme.{Lexeme}
use Rattle.st_reader.specs.Tokens.{Token}
use Rattle.st_reader.specs.Syntax.{Expression, Statements, last, statement}
use Rattle.st_reader.specs.TreeViews.{thens, behind_sentences}
use Rattle.st_reader.specs.Lexemes.{token_at, token_of, tokens_of, Lacks}
use Rattle.st_reader.specs.Parser.{Read, Parse, is_end, answered, statement_of, statements_with}
use Rattle.st_reader.proofs.Loops.{token_is}
use Rattle.st_reader.proofs.Shorter.{Shortens, sentence}

thens_append : (xs : List (Expression × Span)) (e : Expression) (place : Span) (ss : Statements) → thens (xs ++ (e, place) ∷ []) ss ≡ thens xs (statement e place ss)
thens_append [] e place ss = refl
thens_append (x ∷ xs) e place ss = ap (statement x.0 x.1) (thens_append xs e place ss)

behind_more : (xs : List (Expression × Span)) (e : Expression) (place : Span) (o : Read Statements) → option_map (behind_sentences xs) (option_map (sentence e place) o) ≡ option_map (behind_sentences (xs ++ (e, place) ∷ [])) o
behind_more xs e place None = refl
behind_more xs e place (Some r) = ap (λ (x : Statements). some_pair x r.1) (sym (thens_append xs e place r.0))
  where
    some_pair : Statements → List Token → Read Statements
    some_pair x ts = Some (x, ts)

module _ (s : List ℕ) (expression : Parse Expression) where
  -- what is read behind an expression
  abbrev pub behind_expression : ℕ → Expression × List Token → Read Statements
  behind_expression n r = statement_of (statements_with expression n) r.0 r.1

  caret_more : (n : ℕ) (l : Lexeme) (ls : List Lexeme) → l.kind ≡ Marked Caret → statements_with expression (suc n) (tokens_of s (l ∷ ls)) ≡ option_map (λ r. answered l.span r.0 r.1) (expression (tokens_of s ls))
  unfolding statements_with
  caret_more n l ls k = ap (λ (t : Token). statements_with expression (suc n) (t ∷ tokens_of s ls)) (token_is s (Marked Caret) l k)

  plain_at : (n : ℕ) (k : Kind) (place : Span) (ts : List Token) → (k ≢ Marked Caret) → statements_with expression (suc n) (token_at s k place ∷ ts) ≡ option_and_then (behind_expression n) (expression (token_at s k place ∷ ts))
  unfolding statements_with
  plain_at n Identifier place ts other = refl
  plain_at n Keyword place ts other = refl
  plain_at n Assign place ts other = refl
  plain_at n Binary place ts other = refl
  plain_at n Number place ts other = refl
  plain_at n Symbol place ts other = refl
  plain_at n (Marked OpenParenthesis) place ts other = refl
  plain_at n (Marked CloseParenthesis) place ts other = refl
  plain_at n (Marked OpenBlock) place ts other = refl
  plain_at n (Marked CloseBlock) place ts other = refl
  plain_at n (Marked Caret) place ts other = absurd (other refl)
  plain_at n (Marked Period) place ts other = refl
  plain_at n (Marked Semicolon) place ts other = refl
  plain_at n (Marked Bar) place ts other = refl

  plain_more : (n : ℕ) (ls : List Lexeme) → Lacks (Marked Caret) ls → statements_with expression (suc n) (tokens_of s ls) ≡ option_and_then (behind_expression n) (expression (tokens_of s ls))
  unfolding statements_with
  plain_more n [] other = refl
  plain_more n (l ∷ ls) other = plain_at n l.kind l.span (tokens_of s ls) other

  -- what was read so far, and what is left
  abbrev pub SentencesAre : Read Statements → List (Expression × Span) → List Lexeme → Type 0
  SentencesAre all xs rest = (n : ℕ) × (length (tokens_of s rest) ≤ n) × (all ≡ option_map (behind_sentences xs) (statements_with expression n (tokens_of s rest)))

  caret_at : (all : Read Statements) (xs : List (Expression × Span)) (rest : List Lexeme) (l : Lexeme) (ls : List Lexeme) (n : ℕ) → rest ≡ l ∷ ls → l.kind ≡ Marked Caret → length (tokens_of s rest) ≤ n → all ≡ option_map (behind_sentences xs) (statements_with expression n (tokens_of s rest)) → all ≡ option_map (behind_sentences xs) (option_map (λ r. answered l.span r.0 r.1) (expression (tokens_of s ls)))
  caret_at all xs rest l ls zero at k short inv =
      let long = ap (λ (x : List Lexeme). length (tokens_of s x)) at in
      absurd (omega (arith, long, short))
  caret_at all xs rest l ls (suc n) at k short inv = inv ∙ ap (λ (x : List Lexeme). option_map (behind_sentences xs) (statements_with expression (suc n) (tokens_of s x))) at ∙ ap (option_map (behind_sentences xs)) (caret_more n l ls k)

  pub caret_fail : (all : Read Statements) (xs : List (Expression × Span)) (rest : List Lexeme) (l : Lexeme) (ls : List Lexeme) → rest ≡ l ∷ ls → l.kind ≡ Marked Caret → SentencesAre all xs rest → expression (tokens_of s ls) ≡ None → all ≡ None
  caret_fail all xs rest l ls at k inv none = caret_at all xs rest l ls inv.0 at k inv.1 inv.2 ∙ ap (λ (o : Read Expression). option_map (behind_sentences xs) (option_map (λ r. answered l.span r.0 r.1) o)) none

  pub caret_done : (all : Read Statements) (xs : List (Expression × Span)) (rest : List Lexeme) (l : Lexeme) (ls : List Lexeme) (e : Expression) (ts : List Token) → rest ≡ l ∷ ls → l.kind ≡ Marked Caret → SentencesAre all xs rest → expression (tokens_of s ls) ≡ Some (e, ts) → all ≡ Some (behind_sentences xs (answered l.span e ts))
  caret_done all xs rest l ls e ts at k inv found = caret_at all xs rest l ls inv.0 at k inv.1 inv.2 ∙ ap (λ (o : Read Expression). option_map (behind_sentences xs) (option_map (λ r. answered l.span r.0 r.1) o)) found

  none_at : (n : ℕ) (rest : List Lexeme) → Lacks (Marked Caret) rest → expression (tokens_of s rest) ≡ None → statements_with expression n (tokens_of s rest) ≡ None
  unfolding statements_with
  none_at zero rest other none = refl
  none_at (suc n) rest other none = plain_more n rest other ∙ ap (option_and_then (behind_expression n)) none

  pub sentence_fail : (all : Read Statements) (xs : List (Expression × Span)) (rest : List Lexeme) → Lacks (Marked Caret) rest → SentencesAre all xs rest → expression (tokens_of s rest) ≡ None → all ≡ None
  sentence_fail all xs rest other inv none = inv.2 ∙ ap (option_map (behind_sentences xs)) (none_at inv.0 rest other none)

  period_at : (more : Parse Statements) (e : Expression) (l : Lexeme) (ls : List Lexeme) → l.kind ≡ Marked Period → statement_of more e (tokens_of s (l ∷ ls)) ≡ cond (is_end (tokens_of s ls)) (Some (last e (Some l.span), tokens_of s ls)) (option_map (sentence e l.span) (more (tokens_of s ls)))
  period_at more e l ls k = ap (λ (t : Token). statement_of more e (t ∷ tokens_of s ls)) (token_is s (Marked Period) l k)

  last_at : (more : Parse Statements) (e : Expression) (k : Kind) (place : Span) (ts : List Token) → (k ≢ Marked Period) → statement_of more e (token_at s k place ∷ ts) ≡ Some (last e None, token_at s k place ∷ ts)
  last_at more e Identifier place ts other = refl
  last_at more e Keyword place ts other = refl
  last_at more e Assign place ts other = refl
  last_at more e Binary place ts other = refl
  last_at more e Number place ts other = refl
  last_at more e Symbol place ts other = refl
  last_at more e (Marked OpenParenthesis) place ts other = refl
  last_at more e (Marked CloseParenthesis) place ts other = refl
  last_at more e (Marked OpenBlock) place ts other = refl
  last_at more e (Marked CloseBlock) place ts other = refl
  last_at more e (Marked Caret) place ts other = refl
  last_at more e (Marked Period) place ts other = absurd (other refl)
  last_at more e (Marked Semicolon) place ts other = refl
  last_at more e (Marked Bar) place ts other = refl

  last_end : (more : Parse Statements) (e : Expression) (ls : List Lexeme) → Lacks (Marked Period) ls → statement_of more e (tokens_of s ls) ≡ Some (last e None, tokens_of s ls)
  last_end more e [] other = refl
  last_end more e (l ∷ ls) other = last_at more e l.kind l.span (tokens_of s ls) other

module _ (s : List ℕ) (expression : Parse Expression) (shortens : Shortens expression) where
  sentence_at : (all : Read Statements) (xs : List (Expression × Span)) (rest after : List Lexeme) (e : Expression) (n : ℕ) → Lacks (Marked Caret) rest → length (tokens_of s rest) ≤ n → all ≡ option_map (behind_sentences xs) (statements_with expression n (tokens_of s rest)) → expression (tokens_of s rest) ≡ Some (e, tokens_of s after) → (m : ℕ) × (length (tokens_of s after) ≤ m) × (all ≡ option_map (behind_sentences xs) (statement_of (statements_with expression m) e (tokens_of s after)))
  sentence_at all xs rest after e zero other short inv found =
      let h = shortens (tokens_of s rest) e (tokens_of s after) found in
      absurd (omega (arith, h, short))
  sentence_at all xs rest after e (suc n) other short inv found =
      let h = shortens (tokens_of s rest) e (tokens_of s after) found in
      (n, omega (arith, h, short), inv ∙ ap (option_map (behind_sentences xs)) (plain_more s expression n rest other ∙ ap (option_and_then (behind_expression s expression n)) found))

  pub sentence_last : (all : Read Statements) (xs : List (Expression × Span)) (rest after : List Lexeme) (e : Expression) → Lacks (Marked Caret) rest → SentencesAre s expression all xs rest → expression (tokens_of s rest) ≡ Some (e, tokens_of s after) → Lacks (Marked Period) after → all ≡ Some (thens xs (last e None), tokens_of s after)
  sentence_last all xs rest after e other inv found none =
      let p = sentence_at all xs rest after e inv.0 other inv.1 inv.2 found in
      p.2 ∙ ap (option_map (behind_sentences xs)) (last_end s expression (statements_with expression p.0) e after none)

  sentence_period : (all : Read Statements) (xs : List (Expression × Span)) (rest after : List Lexeme) (e : Expression) (l : Lexeme) (ls : List Lexeme) → Lacks (Marked Caret) rest → SentencesAre s expression all xs rest → expression (tokens_of s rest) ≡ Some (e, tokens_of s after) → after ≡ l ∷ ls → l.kind ≡ Marked Period → (m : ℕ) × (length (tokens_of s ls) ≤ m) × (all ≡ option_map (behind_sentences xs) (cond (is_end (tokens_of s ls)) (Some (last e (Some l.span), tokens_of s ls)) (option_map (sentence e l.span) (statements_with expression m (tokens_of s ls)))))
  sentence_period all xs rest after e l ls other inv found at k =
      let p = sentence_at all xs rest after e inv.0 other inv.1 inv.2 found in
      let long = ap (λ (x : List Lexeme). length (tokens_of s x)) at in
      (p.0, omega (arith, long, p.1), p.2 ∙ ap (λ (x : List Lexeme). option_map (behind_sentences xs) (statement_of (statements_with expression p.0) e (tokens_of s x))) at ∙ ap (option_map (behind_sentences xs)) (period_at s expression (statements_with expression p.0) e l ls k))

  pub sentence_end : (all : Read Statements) (xs : List (Expression × Span)) (rest after : List Lexeme) (e : Expression) (l : Lexeme) (ls : List Lexeme) → Lacks (Marked Caret) rest → SentencesAre s expression all xs rest → expression (tokens_of s rest) ≡ Some (e, tokens_of s after) → after ≡ l ∷ ls → l.kind ≡ Marked Period → is_end (tokens_of s ls) ≡ true → all ≡ Some (thens xs (last e (Some l.span)), tokens_of s ls)
  sentence_end all xs rest after e l ls other inv found at k ends =
      let p = sentence_period all xs rest after e l ls other inv found at k in
      p.2 ∙ ap (λ (b : Bool). option_map (behind_sentences xs) (cond b (Some (last e (Some l.span), tokens_of s ls)) (option_map (sentence e l.span) (statements_with expression p.0 (tokens_of s ls))))) ends

  pub sentence_step : (all : Read Statements) (xs now : List (Expression × Span)) (rest after : List Lexeme) (e : Expression) (l : Lexeme) (ls : List Lexeme) → Lacks (Marked Caret) rest → SentencesAre s expression all xs rest → expression (tokens_of s rest) ≡ Some (e, tokens_of s after) → after ≡ l ∷ ls → l.kind ≡ Marked Period → is_end (tokens_of s ls) ≡ false → now ≡ xs ++ (e, l.span) ∷ [] → SentencesAre s expression all now ls
  sentence_step all xs now rest after e l ls other inv found at k goes pushed =
      let p = sentence_period all xs rest after e l ls other inv found at k in
      let left : Read Statements = statements_with expression p.0 (tokens_of s ls) in
      (p.0, p.1, p.2 ∙ ap (λ (b : Bool). option_map (behind_sentences xs) (cond b (Some (last e (Some l.span), tokens_of s ls)) (option_map (sentence e l.span) left))) goes ∙ behind_more xs e l.span left ∙ ap (λ (x : List (Expression × Span)). option_map (behind_sentences x) left) (sym pushed))

  pub sentence_smaller : (rest after : List Lexeme) (e : Expression) (l : Lexeme) (ls : List Lexeme) → expression (tokens_of s rest) ≡ Some (e, tokens_of s after) → after ≡ l ∷ ls → length ls < length rest
  sentence_smaller rest after e l ls found at =
      let h = shortens (tokens_of s rest) e (tokens_of s after) found in
      let long = ap (λ (x : List Lexeme). length x) at in
      omega (arith, h, long, length-map rest (token_of s), length-map after (token_of s))
