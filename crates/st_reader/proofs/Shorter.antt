-- Reading leaves fewer tokens.
use Rattle.std.proofs.Common.{◌≡◌, ℕ, zero, suc, ◌≤◌, ◌<◌, List, [], ◌∷◌, ◌++◌, length, Option, Some, None, refl, sym, ap, arith, inl, inr, codes}
use Rattle.std.specs.Prelude.{option_map, option_and_then, ◌==◌}
use Rattle.std.specs.Str.{bytes_eq}
use Rattle.st_reader.specs.declared.trees.Span.{Span}
use Rattle.st_reader.specs.declared.tokens.Mark.TheVariants.{OpenParenthesis, CloseParenthesis, OpenBlock, CloseBlock, Caret, Period, Semicolon, Bar}
use Rattle.st_reader.specs.Tokens.{Token}
use Rattle.st_reader.specs.Syntax.{Expression, Message, Statements, send, unary, parenthesis, empty_block, block, last, statement}
use Rattle.st_reader.specs.TreeViews.{assigns}
use Rattle.st_reader.specs.Parser.{Read, Parse, in_front, literal_of, negative_of, parenthesis_end, block_end, unaries_of, targets_of, operand_of, term_of, operations_of, binary_of, with_parts, keyword_parts_of, chain_of, message_of, further_messages_of, with_further, value_of, expression_with, is_end, answered, statement_of, statements_with, group_with, filled_block_with, block_with, nothing, expression_of, group_of, block_of}
use Rattle.st_reader.proofs.Binds.{some_is, bind_some, map_some, tested, either}

-- what is read leaves fewer tokens
abbrev pub Shortens : {T : Type 0} → Parse T → Type 0
Shortens {T} p = (ts : List Token) (x : T) (r : List Token) → p ts ≡ Some (x, r) → length r < length ts

-- what is read leaves no more tokens
abbrev pub Keeps : {T : Type 0} → Parse T → Type 0
Keeps {T} p = (ts : List Token) (x : T) (r : List Token) → p ts ≡ Some (x, r) → length r ≤ length ts

-- a pair's second half, from an optional pair
second : {A B : Type 0} (p q : A × B) → Some p ≡ Some q → p.1 ≡ q.1
second {A = A} {B = B} p q e = ap (λ (x : A × B). x.1) (some_is p q (Some p) refl e)

-- a pair that was read
abbrev pub found : {A : Type 0} → A → List Token → Read A
found x ts = Some (x, ts)

same_rest : {A : Type 0} (x y : A) (ts r : List Token) → found x ts ≡ found y r → length r ≡ length ts
same_rest x y ts r e = ap length (sym (second (x, ts) (y, r) e))

pub unaries-keep : (e : Expression) (ts : List Token) → length (unaries_of e ts).1 ≤ length ts
unfolding unaries_of
unaries-keep e [] = omega arith
unaries-keep e (Token.identifier n ∷ ts) = let h = unaries-keep (send e (unary n)) ts in omega (arith, h)
unaries-keep e (Token.keyword n ∷ ts) = omega arith
unaries-keep e (Token.assign place ∷ ts) = omega arith
unaries-keep e (Token.binary n ∷ ts) = omega arith
unaries-keep e (Token.number n place ∷ ts) = omega arith
unaries-keep e (Token.symbol n ∷ ts) = omega arith
unaries-keep e (Token.mark m place ∷ ts) = omega arith

pub targets-keep : (ts : List Token) → length (targets_of ts).1 ≤ length ts
unfolding targets_of
targets-keep [] = omega arith
targets-keep (Token.identifier n ∷ []) = omega arith
targets-keep (Token.identifier n ∷ Token.assign place ∷ ts) = let h = targets-keep ts in omega (arith, h)
targets-keep (Token.identifier n ∷ Token.identifier m ∷ ts) = omega arith
targets-keep (Token.identifier n ∷ Token.keyword m ∷ ts) = omega arith
targets-keep (Token.identifier n ∷ Token.binary m ∷ ts) = omega arith
targets-keep (Token.identifier n ∷ Token.number m place ∷ ts) = omega arith
targets-keep (Token.identifier n ∷ Token.symbol m ∷ ts) = omega arith
targets-keep (Token.identifier n ∷ Token.mark m place ∷ ts) = omega arith
targets-keep (Token.keyword n ∷ ts) = omega arith
targets-keep (Token.assign place ∷ ts) = omega arith
targets-keep (Token.binary n ∷ ts) = omega arith
targets-keep (Token.number n place ∷ ts) = omega arith
targets-keep (Token.symbol n ∷ ts) = omega arith
targets-keep (Token.mark m place ∷ ts) = omega arith

abbrev pub with_tokens : List Token → Expression → Expression × List Token
with_tokens ts e = (e, ts)

literal-keeps : (o : Option Expression) (ts : List Token) (x : Expression) (r : List Token) → option_map (with_tokens ts) o ≡ found x r → length r ≡ length ts
literal-keeps None ts x r e = absurd cc
literal-keeps (Some y) ts x r e = same_rest y x ts r e

negative-keeps : (minus : Span) → Keeps (negative_of minus)
negative-keeps minus [] x r e = absurd cc
negative-keeps minus (Token.number n place ∷ ts) x r e =
    let g = tested (minus.end == place.start) (option_map (with_tokens ts) (literal_of (Some minus) n place)) (x, r) e in
    let h = literal-keeps (literal_of (Some minus) n place) ts x r g.1 in
    omega (arith, h)
negative-keeps minus (Token.identifier n ∷ ts) x r e = absurd cc
negative-keeps minus (Token.keyword n ∷ ts) x r e = absurd cc
negative-keeps minus (Token.assign place ∷ ts) x r e = absurd cc
negative-keeps minus (Token.binary n ∷ ts) x r e = absurd cc
negative-keeps minus (Token.symbol n ∷ ts) x r e = absurd cc
negative-keeps minus (Token.mark m place ∷ ts) x r e = absurd cc

in_front-keeps : {X : Type 0} (xs : List X) (o : Read (List X)) (n : ℕ) → ((ys : List X) (r : List Token) → o ≡ Some (ys, r) → length r ≤ n) → (ys : List X) (r : List Token) → in_front xs o ≡ Some (ys, r) → length r ≤ n
in_front-keeps xs None n h ys r e = absurd cc
in_front-keeps xs (Some p) n h ys r e =
    let k = h p.0 p.1 refl in
    let s = same_rest (xs ++ p.0) ys p.1 r e in
    omega (arith, k, s)

module _ (group inner : Span → Parse Expression) (groups : (place : Span) → Keeps (group place)) (inners : (place : Span) → Keeps (inner place)) where
  pub operand-shortens : Shortens (operand_of group inner)
  operand-shortens [] x r e = absurd cc
  operand-shortens (Token.identifier n ∷ ts) x r e = let h = same_rest _ x ts r e in omega (arith, h)
  operand-shortens (Token.symbol n ∷ ts) x r e = let h = same_rest _ x ts r e in omega (arith, h)
  operand-shortens (Token.number n place ∷ ts) x r e = let h = literal-keeps (literal_of None n place) ts x r e in omega (arith, h)
  operand-shortens (Token.binary n ∷ ts) x r e =
      let g = tested (bytes_eq n.text (codes "-")) (negative_of n.span ts) (x, r) e in
      let h = negative-keeps n.span ts x r g.1 in
      omega (arith, h)
  operand-shortens (Token.mark OpenParenthesis place ∷ ts) x r e = let h = groups place ts x r e in omega (arith, h)
  operand-shortens (Token.mark OpenBlock place ∷ ts) x r e = let h = inners place ts x r e in omega (arith, h)
  operand-shortens (Token.mark CloseParenthesis place ∷ ts) x r e = absurd cc
  operand-shortens (Token.mark CloseBlock place ∷ ts) x r e = absurd cc
  operand-shortens (Token.mark Caret place ∷ ts) x r e = absurd cc
  operand-shortens (Token.mark Period place ∷ ts) x r e = absurd cc
  operand-shortens (Token.mark Semicolon place ∷ ts) x r e = absurd cc
  operand-shortens (Token.mark Bar place ∷ ts) x r e = absurd cc
  operand-shortens (Token.keyword n ∷ ts) x r e = absurd cc
  operand-shortens (Token.assign place ∷ ts) x r e = absurd cc

  pub term-shortens : Shortens (term_of group inner)
  unfolding term_of
  term-shortens ts x r e =
      let b = bind_some (operand_of group inner ts) _ (x, r) e in
      let h = operand-shortens ts b.0.0 b.0.1 b.1 in
      let k = unaries-keep b.0.0 b.0.1 in
      let s = ap length (sym (second (unaries_of b.0.0 b.0.1) (x, r) b.2)) in
      omega (arith, h, k, s)

  pub operations-keep : (n : ℕ) (o : Expression) → Keeps (operations_of group inner n o)
  unfolding operations_of
  operations-keep zero o ts x r e = let h = same_rest o x ts r e in omega (arith, h)
  operations-keep (suc n) o [] x r e = let h = same_rest o x [] r e in omega (arith, h)
  operations-keep (suc n) o (Token.binary s ∷ ts) x r e =
      let b = bind_some (term_of group inner ts) _ (x, r) e in
      let h = term-shortens ts b.0.0 b.0.1 b.1 in
      let k = operations-keep n (send o (Message.binary s b.0.0)) b.0.1 x r b.2 in
      omega (arith, h, k)
  operations-keep (suc n) o (Token.identifier m ∷ ts) x r e = let h = same_rest o x _ r e in omega (arith, h)
  operations-keep (suc n) o (Token.keyword m ∷ ts) x r e = let h = same_rest o x _ r e in omega (arith, h)
  operations-keep (suc n) o (Token.assign place ∷ ts) x r e = let h = same_rest o x _ r e in omega (arith, h)
  operations-keep (suc n) o (Token.number m place ∷ ts) x r e = let h = same_rest o x _ r e in omega (arith, h)
  operations-keep (suc n) o (Token.symbol m ∷ ts) x r e = let h = same_rest o x _ r e in omega (arith, h)
  operations-keep (suc n) o (Token.mark m place ∷ ts) x r e = let h = same_rest o x _ r e in omega (arith, h)

  pub binary-shortens : Shortens (binary_of group inner)
  unfolding binary_of
  binary-shortens ts x r e =
      let b = bind_some (term_of group inner ts) _ (x, r) e in
      let h = term-shortens ts b.0.0 b.0.1 b.1 in
      let k = operations-keep (length b.0.1) b.0.0 b.0.1 x r b.2 in
      omega (arith, h, k)

  pub parts-keep : (n : ℕ) → Keeps (keyword_parts_of group inner n)
  unfolding keyword_parts_of
  parts-keep zero [] x r e = let h = same_rest [] x _ r e in omega (arith, h)
  parts-keep zero (Token.keyword m ∷ ts) x r e = absurd cc
  parts-keep zero (Token.identifier m ∷ ts) x r e = let h = same_rest [] x _ r e in omega (arith, h)
  parts-keep zero (Token.assign place ∷ ts) x r e = let h = same_rest [] x _ r e in omega (arith, h)
  parts-keep zero (Token.binary m ∷ ts) x r e = let h = same_rest [] x _ r e in omega (arith, h)
  parts-keep zero (Token.number m place ∷ ts) x r e = let h = same_rest [] x _ r e in omega (arith, h)
  parts-keep zero (Token.symbol m ∷ ts) x r e = let h = same_rest [] x _ r e in omega (arith, h)
  parts-keep zero (Token.mark m place ∷ ts) x r e = let h = same_rest [] x _ r e in omega (arith, h)
  parts-keep (suc n) [] x r e = let h = same_rest [] x _ r e in omega (arith, h)
  parts-keep (suc n) (Token.keyword m ∷ ts) x r e =
      let b = bind_some (binary_of group inner ts) _ (x, r) e in
      let h = binary-shortens ts b.0.0 b.0.1 b.1 in
      let k = in_front-keeps ((m, b.0.0) ∷ []) (keyword_parts_of group inner n b.0.1) (length b.0.1) (parts-keep n b.0.1) x r b.2 in
      omega (arith, h, k)
  parts-keep (suc n) (Token.identifier m ∷ ts) x r e = let h = same_rest [] x _ r e in omega (arith, h)
  parts-keep (suc n) (Token.assign place ∷ ts) x r e = let h = same_rest [] x _ r e in omega (arith, h)
  parts-keep (suc n) (Token.binary m ∷ ts) x r e = let h = same_rest [] x _ r e in omega (arith, h)
  parts-keep (suc n) (Token.number m place ∷ ts) x r e = let h = same_rest [] x _ r e in omega (arith, h)
  parts-keep (suc n) (Token.symbol m ∷ ts) x r e = let h = same_rest [] x _ r e in omega (arith, h)
  parts-keep (suc n) (Token.mark m place ∷ ts) x r e = let h = same_rest [] x _ r e in omega (arith, h)

  pub chain-shortens : Shortens (chain_of group inner)
  unfolding chain_of
  chain-shortens ts x r e =
      let b = bind_some (binary_of group inner ts) _ (x, r) e in
      let h = binary-shortens ts b.0.0 b.0.1 b.1 in
      let d = bind_some (keyword_parts_of group inner 8 b.0.1) _ (x, r) b.2 in
      let k = parts-keep 8 b.0.1 d.0.0 d.0.1 d.1 in
      let s = same_rest (with_parts b.0.0 d.0.0) x d.0.1 r d.2 in
      omega (arith, h, k, s)

  pub message-keeps : Keeps (message_of group inner)
  unfolding message_of
  message-keeps [] x r e = absurd cc
  message-keeps (Token.identifier n ∷ ts) x r e = let h = same_rest _ x ts r e in omega (arith, h)
  message-keeps (Token.binary n ∷ ts) x r e =
      let b = bind_some (term_of group inner ts) _ (x, r) e in
      let h = term-shortens ts b.0.0 b.0.1 b.1 in
      let s = same_rest _ x b.0.1 r b.2 in
      omega (arith, h, s)
  message-keeps (Token.keyword n ∷ ts) x r e =
      let b = bind_some (keyword_parts_of group inner 8 (Token.keyword n ∷ ts)) _ (x, r) e in
      let h = parts-keep 8 (Token.keyword n ∷ ts) b.0.0 b.0.1 b.1 in
      let s = same_rest _ x b.0.1 r b.2 in
      omega (arith, h, s)
  message-keeps (Token.assign place ∷ ts) x r e = absurd cc
  message-keeps (Token.number n place ∷ ts) x r e = absurd cc
  message-keeps (Token.symbol n ∷ ts) x r e = absurd cc
  message-keeps (Token.mark m place ∷ ts) x r e = absurd cc

  pub further-keep : (n : ℕ) → Keeps (further_messages_of group inner n)
  unfolding further_messages_of
  further-keep zero ts x r e = let h = same_rest [] x _ r e in omega (arith, h)
  further-keep (suc n) [] x r e = let h = same_rest [] x _ r e in omega (arith, h)
  further-keep (suc n) (Token.mark Semicolon place ∷ ts) x r e =
      let b = bind_some (message_of group inner ts) _ (x, r) e in
      let h = message-keeps ts b.0.0 b.0.1 b.1 in
      let k = in_front-keeps ((place, b.0.0) ∷ []) (further_messages_of group inner n b.0.1) (length b.0.1) (further-keep n b.0.1) x r b.2 in
      omega (arith, h, k)
  further-keep (suc n) (Token.mark OpenParenthesis place ∷ ts) x r e = let h = same_rest [] x _ r e in omega (arith, h)
  further-keep (suc n) (Token.mark CloseParenthesis place ∷ ts) x r e = let h = same_rest [] x _ r e in omega (arith, h)
  further-keep (suc n) (Token.mark OpenBlock place ∷ ts) x r e = let h = same_rest [] x _ r e in omega (arith, h)
  further-keep (suc n) (Token.mark CloseBlock place ∷ ts) x r e = let h = same_rest [] x _ r e in omega (arith, h)
  further-keep (suc n) (Token.mark Caret place ∷ ts) x r e = let h = same_rest [] x _ r e in omega (arith, h)
  further-keep (suc n) (Token.mark Period place ∷ ts) x r e = let h = same_rest [] x _ r e in omega (arith, h)
  further-keep (suc n) (Token.mark Bar place ∷ ts) x r e = let h = same_rest [] x _ r e in omega (arith, h)
  further-keep (suc n) (Token.identifier m ∷ ts) x r e = let h = same_rest [] x _ r e in omega (arith, h)
  further-keep (suc n) (Token.keyword m ∷ ts) x r e = let h = same_rest [] x _ r e in omega (arith, h)
  further-keep (suc n) (Token.assign place ∷ ts) x r e = let h = same_rest [] x _ r e in omega (arith, h)
  further-keep (suc n) (Token.binary m ∷ ts) x r e = let h = same_rest [] x _ r e in omega (arith, h)
  further-keep (suc n) (Token.number m place ∷ ts) x r e = let h = same_rest [] x _ r e in omega (arith, h)
  further-keep (suc n) (Token.symbol m ∷ ts) x r e = let h = same_rest [] x _ r e in omega (arith, h)

  pub value-shortens : Shortens (value_of group inner)
  unfolding value_of
  value-shortens ts x r e =
      let b = bind_some (chain_of group inner ts) _ (x, r) e in
      let h = chain-shortens ts b.0.0 b.0.1 b.1 in
      let d = bind_some (further_messages_of group inner (length b.0.1) b.0.1) _ (x, r) b.2 in
      let k = further-keep (length b.0.1) b.0.1 d.0.0 d.0.1 d.1 in
      let m = map_some (with_further b.0.0 d.0.0) (λ (y : Expression). (y, d.0.1)) (x, r) d.2 in
      let s = ap (λ (p : Expression × List Token). length p.1) m.2 in
      omega (arith, h, k, s)

  pub expression_with-shortens : Shortens (expression_with group inner)
  unfolding expression_with
  expression_with-shortens ts x r e =
      let m = map_some (value_of group inner (targets_of ts).1) (λ (p : Expression × List Token). (assigns (targets_of ts).0 p.0, p.1)) (x, r) e in
      let h = value-shortens (targets_of ts).1 m.0.0 m.0.1 m.1 in
      let k = targets-keep ts in
      let s = ap (λ (p : Expression × List Token). length p.1) m.2 in
      omega (arith, h, k, s)

-- ---- statements, and what stands in brackets

answered-keeps : (caret : Span) (y : Expression) (ts : List Token) → length (answered caret y ts).1 ≤ length ts
answered-keeps caret y [] = omega arith
answered-keeps caret y (Token.mark Period place ∷ ts) = omega arith
answered-keeps caret y (Token.mark OpenParenthesis place ∷ ts) = omega arith
answered-keeps caret y (Token.mark CloseParenthesis place ∷ ts) = omega arith
answered-keeps caret y (Token.mark OpenBlock place ∷ ts) = omega arith
answered-keeps caret y (Token.mark CloseBlock place ∷ ts) = omega arith
answered-keeps caret y (Token.mark Caret place ∷ ts) = omega arith
answered-keeps caret y (Token.mark Semicolon place ∷ ts) = omega arith
answered-keeps caret y (Token.mark Bar place ∷ ts) = omega arith
answered-keeps caret y (Token.identifier m ∷ ts) = omega arith
answered-keeps caret y (Token.keyword m ∷ ts) = omega arith
answered-keeps caret y (Token.assign place ∷ ts) = omega arith
answered-keeps caret y (Token.binary m ∷ ts) = omega arith
answered-keeps caret y (Token.number m place ∷ ts) = omega arith
answered-keeps caret y (Token.symbol m ∷ ts) = omega arith

-- a statement in front of what was read
abbrev pub sentence : Expression → Span → Statements × List Token → Statements × List Token
sentence y place r = (statement y place r.0, r.1)

sentence-keeps : (y : Expression) (place : Span) (o : Read Statements) (n : ℕ) → ((ss : Statements) (r : List Token) → o ≡ Some (ss, r) → length r ≤ n) → (ss : Statements) (r : List Token) → option_map (sentence y place) o ≡ Some (ss, r) → length r ≤ n
sentence-keeps y place None n h ss r e = absurd cc
sentence-keeps y place (Some p) n h ss r e =
    let k = h p.0 p.1 refl in
    let s = same_rest (statement y place p.0) ss p.1 r e in
    omega (arith, k, s)

statement-keeps : (more : Parse Statements) → Keeps more → (y : Expression) → Keeps (statement_of more y)
statement-keeps more h y [] x r e = let k = same_rest _ x _ r e in omega (arith, k)
statement-keeps more h y (Token.mark Period place ∷ ts) x r e =
    elim (either (is_end ts) (Some (last y (Some place), ts)) (option_map (sentence y place) (more ts)) (x, r) e) [
      | inl k ↦ let s = same_rest (last y (Some place)) x ts r k.1 in omega (arith, s)
      | inr k ↦ let s = sentence-keeps y place (more ts) (length ts) (h ts) x r k.1 in omega (arith, s)
    ]
statement-keeps more h y (Token.mark OpenParenthesis place ∷ ts) x r e = let k = same_rest _ x _ r e in omega (arith, k)
statement-keeps more h y (Token.mark CloseParenthesis place ∷ ts) x r e = let k = same_rest _ x _ r e in omega (arith, k)
statement-keeps more h y (Token.mark OpenBlock place ∷ ts) x r e = let k = same_rest _ x _ r e in omega (arith, k)
statement-keeps more h y (Token.mark CloseBlock place ∷ ts) x r e = let k = same_rest _ x _ r e in omega (arith, k)
statement-keeps more h y (Token.mark Caret place ∷ ts) x r e = let k = same_rest _ x _ r e in omega (arith, k)
statement-keeps more h y (Token.mark Semicolon place ∷ ts) x r e = let k = same_rest _ x _ r e in omega (arith, k)
statement-keeps more h y (Token.mark Bar place ∷ ts) x r e = let k = same_rest _ x _ r e in omega (arith, k)
statement-keeps more h y (Token.identifier m ∷ ts) x r e = let k = same_rest _ x _ r e in omega (arith, k)
statement-keeps more h y (Token.keyword m ∷ ts) x r e = let k = same_rest _ x _ r e in omega (arith, k)
statement-keeps more h y (Token.assign place ∷ ts) x r e = let k = same_rest _ x _ r e in omega (arith, k)
statement-keeps more h y (Token.binary m ∷ ts) x r e = let k = same_rest _ x _ r e in omega (arith, k)
statement-keeps more h y (Token.number m place ∷ ts) x r e = let k = same_rest _ x _ r e in omega (arith, k)
statement-keeps more h y (Token.symbol m ∷ ts) x r e = let k = same_rest _ x _ r e in omega (arith, k)

module _ (expression : Parse Expression) (shortens : Shortens expression) where
  plain-keeps : (n : ℕ) → Keeps (statements_with expression n) → (ts : List Token) (x : Statements) (r : List Token) → option_and_then (λ (p : Expression × List Token). statement_of (statements_with expression n) p.0 p.1) (expression ts) ≡ Some (x, r) → length r ≤ length ts
  plain-keeps n more ts x r e =
      let b = bind_some (expression ts) _ (x, r) e in
      let h = shortens ts b.0.0 b.0.1 b.1 in
      let k = statement-keeps (statements_with expression n) more b.0.0 b.0.1 x r b.2 in
      omega (arith, h, k)

  pub statements-keep : (n : ℕ) → Keeps (statements_with expression n)
  unfolding statements_with
  statements-keep zero ts x r e = absurd cc
  statements-keep (suc n) [] x r e = plain-keeps n (statements-keep n) [] x r e
  statements-keep (suc n) (Token.mark Caret place ∷ ts) x r e =
      let m = map_some (expression ts) (λ (p : Expression × List Token). answered place p.0 p.1) (x, r) e in
      let h = shortens ts m.0.0 m.0.1 m.1 in
      let k = answered-keeps place m.0.0 m.0.1 in
      let s = ap (λ (p : Statements × List Token). length p.1) m.2 in
      omega (arith, h, k, s)
  statements-keep (suc n) (Token.mark OpenParenthesis place ∷ ts) x r e = plain-keeps n (statements-keep n) _ x r e
  statements-keep (suc n) (Token.mark CloseParenthesis place ∷ ts) x r e = plain-keeps n (statements-keep n) _ x r e
  statements-keep (suc n) (Token.mark OpenBlock place ∷ ts) x r e = plain-keeps n (statements-keep n) _ x r e
  statements-keep (suc n) (Token.mark CloseBlock place ∷ ts) x r e = plain-keeps n (statements-keep n) _ x r e
  statements-keep (suc n) (Token.mark Period place ∷ ts) x r e = plain-keeps n (statements-keep n) _ x r e
  statements-keep (suc n) (Token.mark Semicolon place ∷ ts) x r e = plain-keeps n (statements-keep n) _ x r e
  statements-keep (suc n) (Token.mark Bar place ∷ ts) x r e = plain-keeps n (statements-keep n) _ x r e
  statements-keep (suc n) (Token.identifier m ∷ ts) x r e = plain-keeps n (statements-keep n) _ x r e
  statements-keep (suc n) (Token.keyword m ∷ ts) x r e = plain-keeps n (statements-keep n) _ x r e
  statements-keep (suc n) (Token.assign place ∷ ts) x r e = plain-keeps n (statements-keep n) _ x r e
  statements-keep (suc n) (Token.binary m ∷ ts) x r e = plain-keeps n (statements-keep n) _ x r e
  statements-keep (suc n) (Token.number m place ∷ ts) x r e = plain-keeps n (statements-keep n) _ x r e
  statements-keep (suc n) (Token.symbol m ∷ ts) x r e = plain-keeps n (statements-keep n) _ x r e

parenthesis_end-keeps : Keeps parenthesis_end
parenthesis_end-keeps [] x r e = absurd cc
parenthesis_end-keeps (Token.mark CloseParenthesis place ∷ ts) x r e = let k = same_rest place x ts r e in omega (arith, k)
parenthesis_end-keeps (Token.mark OpenParenthesis place ∷ ts) x r e = absurd cc
parenthesis_end-keeps (Token.mark OpenBlock place ∷ ts) x r e = absurd cc
parenthesis_end-keeps (Token.mark CloseBlock place ∷ ts) x r e = absurd cc
parenthesis_end-keeps (Token.mark Caret place ∷ ts) x r e = absurd cc
parenthesis_end-keeps (Token.mark Period place ∷ ts) x r e = absurd cc
parenthesis_end-keeps (Token.mark Semicolon place ∷ ts) x r e = absurd cc
parenthesis_end-keeps (Token.mark Bar place ∷ ts) x r e = absurd cc
parenthesis_end-keeps (Token.identifier m ∷ ts) x r e = absurd cc
parenthesis_end-keeps (Token.keyword m ∷ ts) x r e = absurd cc
parenthesis_end-keeps (Token.assign place ∷ ts) x r e = absurd cc
parenthesis_end-keeps (Token.binary m ∷ ts) x r e = absurd cc
parenthesis_end-keeps (Token.number m place ∷ ts) x r e = absurd cc
parenthesis_end-keeps (Token.symbol m ∷ ts) x r e = absurd cc

block_end-keeps : Keeps block_end
block_end-keeps [] x r e = absurd cc
block_end-keeps (Token.mark CloseBlock place ∷ ts) x r e = let k = same_rest place x ts r e in omega (arith, k)
block_end-keeps (Token.mark OpenParenthesis place ∷ ts) x r e = absurd cc
block_end-keeps (Token.mark OpenBlock place ∷ ts) x r e = absurd cc
block_end-keeps (Token.mark CloseParenthesis place ∷ ts) x r e = absurd cc
block_end-keeps (Token.mark Caret place ∷ ts) x r e = absurd cc
block_end-keeps (Token.mark Period place ∷ ts) x r e = absurd cc
block_end-keeps (Token.mark Semicolon place ∷ ts) x r e = absurd cc
block_end-keeps (Token.mark Bar place ∷ ts) x r e = absurd cc
block_end-keeps (Token.identifier m ∷ ts) x r e = absurd cc
block_end-keeps (Token.keyword m ∷ ts) x r e = absurd cc
block_end-keeps (Token.assign place ∷ ts) x r e = absurd cc
block_end-keeps (Token.binary m ∷ ts) x r e = absurd cc
block_end-keeps (Token.number m place ∷ ts) x r e = absurd cc
block_end-keeps (Token.symbol m ∷ ts) x r e = absurd cc

module _ (expression : Parse Expression) (shortens : Shortens expression) where
  pub group-keeps : (opening : Span) → Keeps (group_with expression opening)
  unfolding group_with
  group-keeps opening ts x r e =
      let b = bind_some (expression ts) _ (x, r) e in
      let h = shortens ts b.0.0 b.0.1 b.1 in
      let d = bind_some (parenthesis_end b.0.1) _ (x, r) b.2 in
      let k = parenthesis_end-keeps b.0.1 d.0.0 d.0.1 d.1 in
      let s = same_rest (parenthesis opening b.0.0 d.0.0) x d.0.1 r d.2 in
      omega (arith, h, k, s)

  filled-keeps : (opening : Span) → Keeps (filled_block_with expression opening)
  unfolding filled_block_with
  filled-keeps opening ts x r e =
      let b = bind_some (statements_with expression (length ts) ts) _ (x, r) e in
      let h = statements-keep expression shortens (length ts) ts b.0.0 b.0.1 b.1 in
      let d = bind_some (block_end b.0.1) _ (x, r) b.2 in
      let k = block_end-keeps b.0.1 d.0.0 d.0.1 d.1 in
      let s = same_rest (block opening b.0.0 d.0.0) x d.0.1 r d.2 in
      omega (arith, h, k, s)

  pub block-keeps : (opening : Span) → Keeps (block_with expression opening)
  unfolding block_with
  block-keeps opening [] x r e = filled-keeps opening [] x r e
  block-keeps opening (Token.mark CloseBlock place ∷ ts) x r e = let k = same_rest (empty_block opening place) x ts r e in omega (arith, k)
  block-keeps opening (Token.mark OpenParenthesis place ∷ ts) x r e = filled-keeps opening _ x r e
  block-keeps opening (Token.mark OpenBlock place ∷ ts) x r e = filled-keeps opening _ x r e
  block-keeps opening (Token.mark CloseParenthesis place ∷ ts) x r e = filled-keeps opening _ x r e
  block-keeps opening (Token.mark Caret place ∷ ts) x r e = filled-keeps opening _ x r e
  block-keeps opening (Token.mark Period place ∷ ts) x r e = filled-keeps opening _ x r e
  block-keeps opening (Token.mark Semicolon place ∷ ts) x r e = filled-keeps opening _ x r e
  block-keeps opening (Token.mark Bar place ∷ ts) x r e = filled-keeps opening _ x r e
  block-keeps opening (Token.identifier m ∷ ts) x r e = filled-keeps opening _ x r e
  block-keeps opening (Token.keyword m ∷ ts) x r e = filled-keeps opening _ x r e
  block-keeps opening (Token.assign place ∷ ts) x r e = filled-keeps opening _ x r e
  block-keeps opening (Token.binary m ∷ ts) x r e = filled-keeps opening _ x r e
  block-keeps opening (Token.number m place ∷ ts) x r e = filled-keeps opening _ x r e
  block-keeps opening (Token.symbol m ∷ ts) x r e = filled-keeps opening _ x r e

nothing-keeps : (place : Span) → Keeps (nothing place)
nothing-keeps place ts x r e = absurd cc

pub expression_of-shortens : (n : ℕ) → Shortens (expression_of n)
unfolding expression_of
expression_of-shortens zero = expression_with-shortens nothing nothing nothing-keeps nothing-keeps
expression_of-shortens (suc n) = expression_with-shortens (group_with (expression_of n)) (block_with (expression_of n)) (group-keeps (expression_of n) (expression_of-shortens n)) (block-keeps (expression_of n) (expression_of-shortens n))

pub group_of-keeps : (n : ℕ) (place : Span) → Keeps (group_of n place)
group_of-keeps zero = nothing-keeps
group_of-keeps (suc n) = group-keeps (expression_of n) (expression_of-shortens n)

pub block_of-keeps : (n : ℕ) (place : Span) → Keeps (block_of n place)
block_of-keeps zero = nothing-keeps
block_of-keeps (suc n) = block-keeps (expression_of n) (expression_of-shortens n)
