-- What is read has the tokens that were there.
use Rattle.std.proofs.Common.{◌≡◌, ℕ, zero, suc, ◌≤◌, ◌<◌, ◌^◌, pos, negsuc, List, [], ◌∷◌, ◌++◌, length, Option, Some, None, refl, sym, ap, subst, ◌∙◌, append_assoc, arith, codes, max, inl, inr}
use Rattle.std.specs.Prelude.{option_map, option_and_then, nat_lt, nat_le, ◌==◌}
use Rattle.std.specs.List.{flat_map}
use Rattle.std.specs.Str.{bytes_eq}
use Rattle.std.proofs.lemmas.Bool.{ltb-true, leb-true, eqb-true}
use Rattle.std.proofs.Math.Nat.{max-le, le-max_left, le-max_right}
use Rattle.std.proofs.lemmas.List.{append-nil}
use lib.Pointwise.{bytes_decides}
use Rattle.st_reader.specs.declared.trees.Span.{Span}
use Rattle.st_reader.specs.declared.trees.Name.{Name}
use Rattle.st_reader.specs.declared.trees.Target.{Target}
use Rattle.st_reader.specs.declared.trees.Parameter.{Parameter}
use Rattle.st_reader.specs.declared.trees.Pattern.{Pattern}
use Rattle.st_reader.specs.declared.trees.Pattern.TheVariants.{Unary, Binary, Keyword}
use Rattle.st_reader.specs.declared.trees.Temporaries.{Temporaries}
use Rattle.st_reader.specs.declared.tokens.Mark.{Mark}
use Rattle.st_reader.specs.declared.tokens.Mark.TheVariants.{OpenParenthesis, CloseParenthesis, OpenBlock, CloseBlock, Caret, Period, Semicolon, Bar}
use Rattle.st_reader.specs.Tokens.{Token}
use Rattle.st_reader.specs.Syntax.{Method, Expression, Message, Statements, parenthesis, empty_block, block, send, cascade, name, unary, keywords, last}
use Rattle.st_reader.specs.TreeViews.{parts_of, further_of, assigns}
use Rattle.st_reader.specs.Grammar.{minus_toks, toks, message_toks, parts_toks, further_toks, statements_toks, level, count, IsExpression, IsMessage, AreParts, AreFurther, AreStatements, nesting, message_nesting, parts_nesting, further_nesting, statements_nesting, method_toks, IsMethod, parameter_toks, pattern_toks, name_toks, temporaries_toks, body_toks, IsPattern, IsBody}
use Rattle.st_reader.specs.Parser.{Read, Parse, literal_of, negative_of, parenthesis_end, block_end, unaries_of, targets_of, operand_of, term_of, operations_of, binary_of, with_parts, keyword_parts_of, chain_of, message_of, further_messages_of, with_further, value_of, expression_with, is_end, answered, statement_of, statements_with, group_with, filled_block_with, block_with, nothing, expression_of, method_of, parameter_of, parameters_of, pattern_of, names_of, temporaries_end, temporaries_of, whole, body_of}
use Rattle.st_reader.proofs.Binds.{some_is, bind_some, map_some, tested, either}
use Rattle.st_reader.proofs.Shorter.{found, with_tokens, sentence}

-- an expression was read, which binds at least so tightly and in which brackets nest at most so deep
record IsRead (l n : ℕ) (ts : List Token) (e : Expression) (r : List Token) : Type 0 where
  tokens : toks e ++ r ≡ ts
  low : level e ≤ l
  is : IsExpression e
  shallow : nesting e ≤ n

-- what holds of a pair holds of the same pair
pair_elim : {A : Type 0} (P : A → List Token → Type 0) (x y : A) (ts r : List Token) → found x ts ≡ found y r → P x ts → P y r
pair_elim {A = A} P x y ts r e h = subst (λ (p : A × List Token). P p.0 p.1) (some_is (x, ts) (y, r) (Some (x, ts)) refl e) h

-- the same of a pair under a function
map_elim : {A B : Type 0} (P : B → List Token → Type 0) (f : (A × List Token) → (B × List Token)) (o : Read A) (y : B) (r : List Token) → ((x : A) (ts : List Token) → o ≡ Some (x, ts) → P (f (x, ts)).0 (f (x, ts)).1) → option_map f o ≡ Some (y, r) → P y r
map_elim {A = A} {B = B} P f o y r h e =
    let m = map_some o f (y, r) e in
    subst (λ (p : B × List Token). P p.0 p.1) m.2 (h m.0.0 m.0.1 m.1)

wider : (l k n : ℕ) (ts : List Token) (e : Expression) (r : List Token) → l ≤ k → IsRead l n ts e r → IsRead k n ts e r
wider l k n ts e r le h = let low = h.low in record { tokens = h.tokens; low = omega (arith, le, low); is = h.is; shallow = h.shallow }

-- ---- operands

literal-sound : (m : Option Span) (n k : ℕ) (place : Span) (x : Expression) (r : List Token) → literal_of m k place ≡ Some x → ((minus : Span) → m ≡ Some minus → minus.end ≡ place.start) → IsRead 0 n (minus_toks m ++ Token.number k place ∷ r) x r
literal-sound None n k place x r e near =
    let P : Expression → Type 0 = λ y. IsRead 0 n (Token.number k place ∷ r) y r in
    let g = tested (nat_lt k (2 ^ 63)) (Some (Expression.number (pos k) place None)) x e in
    let small : k < 2 ^ 63 = ltb-true k (2 ^ 63) g.0 in
    subst P (some_is (Expression.number (pos k) place None) x (Some (Expression.number (pos k) place None)) refl g.1) (record { tokens = refl; low = omega arith; is = small; shallow = omega arith })
literal-sound (Some minus) n zero place x r e near =
    let P : Expression → Type 0 = λ y. IsRead 0 n (minus_toks (Some minus) ++ Token.number zero place ∷ r) y r in
    subst P (some_is (Expression.number (pos zero) place (Some minus)) x (Some (Expression.number (pos zero) place (Some minus))) refl e) (record { tokens = refl; low = omega arith; is = (refl, near minus refl); shallow = omega arith })
literal-sound (Some minus) n (suc k) place x r e near =
    let P : Expression → Type 0 = λ y. IsRead 0 n (minus_toks (Some minus) ++ Token.number (suc k) place ∷ r) y r in
    let g = tested (nat_le (suc k) (2 ^ 63)) (Some (Expression.number (negsuc k) place (Some minus))) x e in
    let small : k < 2 ^ 63 = leb-true (suc k) (2 ^ 63) g.0 in
    subst P (some_is (Expression.number (negsuc k) place (Some minus)) x (Some (Expression.number (negsuc k) place (Some minus))) refl g.1) (record { tokens = refl; low = omega arith; is = (small, near minus refl); shallow = omega arith })

negative-sound : (n : ℕ) (minus : Span) (ts : List Token) (x : Expression) (r : List Token) → negative_of minus ts ≡ Some (x, r) → IsRead 0 n (minus_toks (Some minus) ++ ts) x r
negative-sound n minus [] x r e = absurd cc
negative-sound n minus (Token.identifier m ∷ ts) x r e = absurd cc
negative-sound n minus (Token.keyword m ∷ ts) x r e = absurd cc
negative-sound n minus (Token.assign place ∷ ts) x r e = absurd cc
negative-sound n minus (Token.binary m ∷ ts) x r e = absurd cc
negative-sound n minus (Token.symbol m ∷ ts) x r e = absurd cc
negative-sound n minus (Token.mark m place ∷ ts) x r e = absurd cc
negative-sound n minus (Token.number k place ∷ ts) x r e =
    let g = tested (minus.end == place.start) (option_map (with_tokens ts) (literal_of (Some minus) k place)) (x, r) e in
    let near : minus.end ≡ place.start = eqb-true minus.end place.start g.0 in
    let m = map_some (literal_of (Some minus) k place) (with_tokens ts) (x, r) g.1 in
    subst (λ (p : Expression × List Token). IsRead 0 n (minus_toks (Some minus) ++ Token.number k place ∷ ts) p.0 p.1) m.2 (literal-sound (Some minus) n k place m.0 ts m.1 (λ other same. subst (λ (s : Span). s.end ≡ place.start) (some_is minus other (Some minus) refl same) near))

unaries-sound : (n : ℕ) (all : List Token) (e : Expression) (ts : List Token) → IsRead 1 n all e ts → IsRead 1 n all (unaries_of e ts).0 (unaries_of e ts).1
unfolding unaries_of
unaries-sound n all e [] h = h
unaries-sound n all e (Token.identifier m ∷ ts) h =
    unaries-sound n all (send e (unary m)) ts (record { tokens = append_assoc (toks e) (Token.identifier m ∷ []) ts ∙ h.tokens; low = omega arith; is = (h.is, h.low, tt); shallow = max-le h.shallow (omega arith) })
unaries-sound n all e (Token.keyword m ∷ ts) h = h
unaries-sound n all e (Token.assign place ∷ ts) h = h
unaries-sound n all e (Token.binary m ∷ ts) h = h
unaries-sound n all e (Token.number m place ∷ ts) h = h
unaries-sound n all e (Token.symbol m ∷ ts) h = h
unaries-sound n all e (Token.mark m place ∷ ts) h = h

-- keywords with their arguments were read
record PartsRead (f n : ℕ) (ts : List Token) (ps : List (Name × Expression)) (r : List Token) : Type 0 where
  tokens : parts_toks (parts_of ps) ++ r ≡ ts
  few : count (parts_of ps) ≤ f
  are : AreParts (parts_of ps)
  shallow : parts_nesting (parts_of ps) ≤ n

-- a message was read
record MessageRead (n : ℕ) (ts : List Token) (m : Message) (r : List Token) : Type 0 where
  tokens : message_toks m ++ r ≡ ts
  is : IsMessage m
  shallow : message_nesting m ≤ n

-- further messages were read
record FurtherRead (n : ℕ) (ts : List Token) (fs : List (Span × Message)) (r : List Token) : Type 0 where
  tokens : further_toks (further_of fs) ++ r ≡ ts
  are : AreFurther (further_of fs)
  shallow : further_nesting (further_of fs) ≤ n

-- statements were read
record StatementsRead (n : ℕ) (ts : List Token) (ss : Statements) (r : List Token) : Type 0 where
  tokens : statements_toks ss ++ r ≡ ts
  are : AreStatements ss
  shallow : statements_nesting ss ≤ n

no-parts-read : (f n : ℕ) (ts : List Token) → PartsRead f n ts [] ts
no-parts-read f n ts = record { tokens = refl; few = omega arith; are = tt; shallow = omega arith }

no-further-read : (n : ℕ) (ts : List Token) → FurtherRead n ts [] ts
no-further-read n ts = record { tokens = refl; are = tt; shallow = omega arith }

-- what reading behind an opening bracket gives
abbrev Sound : ℕ → Mark → (Span → Parse Expression) → Type 0
Sound n m p = (place : Span) (ts : List Token) (x : Expression) (r : List Token) → p place ts ≡ Some (x, r) → IsRead 0 n (Token.mark m place ∷ ts) x r

left : (a b n : ℕ) → max a b ≤ n → a ≤ n
left a b n h = let k = le-max_left a b in omega (arith, h, k)

right : (a b n : ℕ) → max a b ≤ n → b ≤ n
right a b n h = let k = le-max_right a b in omega (arith, h, k)

-- ---- assignments

low-assigns : (targets : List Target) (e : Expression) → level e ≤ 4 → level (assigns targets e) ≤ 5
low-assigns [] e low = omega (arith, low)
low-assigns (t ∷ targets) e low = omega arith

is-assigns : (targets : List Target) (e : Expression) → IsExpression e → IsExpression (assigns targets e)
is-assigns [] e is = is
is-assigns (t ∷ targets) e is = is-assigns targets e is

shallow-assigns : (targets : List Target) (e : Expression) (n : ℕ) → nesting e ≤ n → nesting (assigns targets e) ≤ n
shallow-assigns [] e n h = h
shallow-assigns (t ∷ targets) e n h = shallow-assigns targets e n h

targets-toks : (ts : List Token) (e : Expression) (r : List Token) → toks e ++ r ≡ (targets_of ts).1 → toks (assigns (targets_of ts).0 e) ++ r ≡ ts
unfolding targets_of
targets-toks [] e r h = h
targets-toks (Token.identifier n ∷ []) e r h = h
targets-toks (Token.identifier n ∷ Token.assign place ∷ ts) e r h = ap (λ (l : List Token). Token.identifier n ∷ Token.assign place ∷ l) (targets-toks ts e r h)
targets-toks (Token.identifier n ∷ Token.identifier m ∷ ts) e r h = h
targets-toks (Token.identifier n ∷ Token.keyword m ∷ ts) e r h = h
targets-toks (Token.identifier n ∷ Token.binary m ∷ ts) e r h = h
targets-toks (Token.identifier n ∷ Token.number m place ∷ ts) e r h = h
targets-toks (Token.identifier n ∷ Token.symbol m ∷ ts) e r h = h
targets-toks (Token.identifier n ∷ Token.mark m place ∷ ts) e r h = h
targets-toks (Token.keyword n ∷ ts) e r h = h
targets-toks (Token.assign place ∷ ts) e r h = h
targets-toks (Token.binary n ∷ ts) e r h = h
targets-toks (Token.number n place ∷ ts) e r h = h
targets-toks (Token.symbol n ∷ ts) e r h = h
targets-toks (Token.mark m place ∷ ts) e r h = h

targets-sound : (n : ℕ) (ts : List Token) (e : Expression) (r : List Token) → IsRead 4 n (targets_of ts).1 e r → IsRead 5 n ts (assigns (targets_of ts).0 e) r
targets-sound n ts e r h = record { tokens = targets-toks ts e r h.tokens; low = low-assigns (targets_of ts).0 e h.low; is = is-assigns (targets_of ts).0 e h.is; shallow = shallow-assigns (targets_of ts).0 e n h.shallow }

module _ (n : ℕ) (group inner : Span → Parse Expression) (groups : Sound n OpenParenthesis group) (inners : Sound n OpenBlock inner) where
  operand-sound : (ts : List Token) (x : Expression) (r : List Token) → operand_of group inner ts ≡ Some (x, r) → IsRead 0 n ts x r
  operand-sound [] x r e = absurd cc
  operand-sound (Token.identifier m ∷ ts) x r e = pair_elim (IsRead 0 n (Token.identifier m ∷ ts)) (name m) x ts r e (record { tokens = refl; low = omega arith; is = tt; shallow = omega arith })
  operand-sound (Token.symbol m ∷ ts) x r e = pair_elim (IsRead 0 n (Token.symbol m ∷ ts)) (Expression.symbol m) x ts r e (record { tokens = refl; low = omega arith; is = tt; shallow = omega arith })
  operand-sound (Token.number k place ∷ ts) x r e =
      let m = map_some (literal_of None k place) (with_tokens ts) (x, r) e in
      subst (λ (p : Expression × List Token). IsRead 0 n (Token.number k place ∷ ts) p.0 p.1) m.2 (literal-sound None n k place m.0 ts m.1 (λ other same. absurd cc))
  operand-sound (Token.binary m ∷ ts) x r e =
      let g = tested (bytes_eq m.text (codes "-")) (negative_of m.span ts) (x, r) e in
      let same : m.text ≡ codes "-" = (bytes_decides m.text (codes "-")).0 g.0 in
      let h = negative-sound n m.span ts x r g.1 in
      subst (λ (t : List ℕ). IsRead 0 n (Token.binary (record { text = t; span = m.span }) ∷ ts) x r) (sym same) h
  operand-sound (Token.mark OpenParenthesis place ∷ ts) x r e = groups place ts x r e
  operand-sound (Token.mark OpenBlock place ∷ ts) x r e = inners place ts x r e
  operand-sound (Token.mark CloseParenthesis place ∷ ts) x r e = absurd cc
  operand-sound (Token.mark CloseBlock place ∷ ts) x r e = absurd cc
  operand-sound (Token.mark Caret place ∷ ts) x r e = absurd cc
  operand-sound (Token.mark Period place ∷ ts) x r e = absurd cc
  operand-sound (Token.mark Semicolon place ∷ ts) x r e = absurd cc
  operand-sound (Token.mark Bar place ∷ ts) x r e = absurd cc
  operand-sound (Token.keyword m ∷ ts) x r e = absurd cc
  operand-sound (Token.assign place ∷ ts) x r e = absurd cc

  term-sound : (ts : List Token) (x : Expression) (r : List Token) → term_of group inner ts ≡ Some (x, r) → IsRead 1 n ts x r
  unfolding term_of
  term-sound ts x r e =
      let b = bind_some (operand_of group inner ts) _ (x, r) e in
      let h = unaries-sound n ts b.0.0 b.0.1 (wider 0 1 n ts b.0.0 b.0.1 (omega arith) (operand-sound ts b.0.0 b.0.1 b.1)) in
      pair_elim (IsRead 1 n ts) (unaries_of b.0.0 b.0.1).0 x (unaries_of b.0.0 b.0.1).1 r b.2 h

  operations-sound : (f : ℕ) (all : List Token) (o : Expression) (ts : List Token) (x : Expression) (r : List Token) → IsRead 2 n all o ts → operations_of group inner f o ts ≡ Some (x, r) → IsRead 2 n all x r
  unfolding operations_of
  operations-sound zero all o ts x r h e = pair_elim (IsRead 2 n all) o x ts r e h
  operations-sound (suc f) all o [] x r h e = pair_elim (IsRead 2 n all) o x [] r e h
  operations-sound (suc f) all o (Token.binary s ∷ ts) x r h e =
      let b = bind_some (term_of group inner ts) _ (x, r) e in
      let t = term-sound ts b.0.0 b.0.1 b.1 in
      let same : (toks o ++ Token.binary s ∷ toks b.0.0) ++ b.0.1 ≡ all = append_assoc (toks o) (Token.binary s ∷ toks b.0.0) b.0.1 ∙ ap (λ (l : List Token). toks o ++ Token.binary s ∷ l) t.tokens ∙ h.tokens in
      operations-sound f all (send o (Message.binary s b.0.0)) b.0.1 x r (record { tokens = same; low = omega arith; is = (h.is, h.low, (t.low, t.is)); shallow = max-le h.shallow t.shallow }) b.2
  operations-sound (suc f) all o (Token.identifier m ∷ ts) x r h e = pair_elim (IsRead 2 n all) o x _ r e h
  operations-sound (suc f) all o (Token.keyword m ∷ ts) x r h e = pair_elim (IsRead 2 n all) o x _ r e h
  operations-sound (suc f) all o (Token.assign place ∷ ts) x r h e = pair_elim (IsRead 2 n all) o x _ r e h
  operations-sound (suc f) all o (Token.number m place ∷ ts) x r h e = pair_elim (IsRead 2 n all) o x _ r e h
  operations-sound (suc f) all o (Token.symbol m ∷ ts) x r h e = pair_elim (IsRead 2 n all) o x _ r e h
  operations-sound (suc f) all o (Token.mark m place ∷ ts) x r h e = pair_elim (IsRead 2 n all) o x _ r e h

  binary-sound : (ts : List Token) (x : Expression) (r : List Token) → binary_of group inner ts ≡ Some (x, r) → IsRead 2 n ts x r
  unfolding binary_of
  binary-sound ts x r e =
      let b = bind_some (term_of group inner ts) _ (x, r) e in
      operations-sound (length b.0.1) ts b.0.0 b.0.1 x r (wider 1 2 n ts b.0.0 b.0.1 (omega arith) (term-sound ts b.0.0 b.0.1 b.1)) b.2

  parts-sound : (f : ℕ) (ts : List Token) (x : List (Name × Expression)) (r : List Token) → keyword_parts_of group inner f ts ≡ Some (x, r) → PartsRead f n ts x r
  unfolding keyword_parts_of
  parts-sound zero [] x r e = pair_elim (PartsRead zero n []) [] x [] r e (no-parts-read zero n [])
  parts-sound zero (Token.keyword m ∷ ts) x r e = absurd cc
  parts-sound zero (Token.identifier m ∷ ts) x r e = pair_elim (PartsRead zero n _) [] x _ r e (no-parts-read zero n _)
  parts-sound zero (Token.assign place ∷ ts) x r e = pair_elim (PartsRead zero n _) [] x _ r e (no-parts-read zero n _)
  parts-sound zero (Token.binary m ∷ ts) x r e = pair_elim (PartsRead zero n _) [] x _ r e (no-parts-read zero n _)
  parts-sound zero (Token.number m place ∷ ts) x r e = pair_elim (PartsRead zero n _) [] x _ r e (no-parts-read zero n _)
  parts-sound zero (Token.symbol m ∷ ts) x r e = pair_elim (PartsRead zero n _) [] x _ r e (no-parts-read zero n _)
  parts-sound zero (Token.mark m place ∷ ts) x r e = pair_elim (PartsRead zero n _) [] x _ r e (no-parts-read zero n _)
  parts-sound (suc f) [] x r e = pair_elim (PartsRead (suc f) n []) [] x [] r e (no-parts-read (suc f) n [])
  parts-sound (suc f) (Token.keyword m ∷ ts) x r e =
      let b = bind_some (binary_of group inner ts) _ (x, r) e in
      let h = binary-sound ts b.0.0 b.0.1 b.1 in
      map_elim (PartsRead (suc f) n (Token.keyword m ∷ ts)) (λ (p : List (Name × Expression) × List Token). ((m, b.0.0) ∷ p.0, p.1)) (keyword_parts_of group inner f b.0.1) x r
      (λ ps rest is.
      let k = parts-sound f b.0.1 ps rest is in
      record { tokens = ap (λ (l : List Token). Token.keyword m ∷ l) (append_assoc (toks b.0.0) (parts_toks (parts_of ps)) rest ∙ ap (λ (l : List Token). toks b.0.0 ++ l) k.tokens ∙ h.tokens); few = let few = k.few in omega (arith, few); are = (h.low, h.is, k.are); shallow = max-le h.shallow k.shallow })
      b.2
  parts-sound (suc f) (Token.identifier m ∷ ts) x r e = pair_elim (PartsRead (suc f) n _) [] x _ r e (no-parts-read (suc f) n _)
  parts-sound (suc f) (Token.assign place ∷ ts) x r e = pair_elim (PartsRead (suc f) n _) [] x _ r e (no-parts-read (suc f) n _)
  parts-sound (suc f) (Token.binary m ∷ ts) x r e = pair_elim (PartsRead (suc f) n _) [] x _ r e (no-parts-read (suc f) n _)
  parts-sound (suc f) (Token.number m place ∷ ts) x r e = pair_elim (PartsRead (suc f) n _) [] x _ r e (no-parts-read (suc f) n _)
  parts-sound (suc f) (Token.symbol m ∷ ts) x r e = pair_elim (PartsRead (suc f) n _) [] x _ r e (no-parts-read (suc f) n _)
  parts-sound (suc f) (Token.mark m place ∷ ts) x r e = pair_elim (PartsRead (suc f) n _) [] x _ r e (no-parts-read (suc f) n _)

  -- where a keyword is in front, one is read
  parts-some : (f : ℕ) (m : Name) (ts : List Token) (x : List (Name × Expression)) (r : List Token) → keyword_parts_of group inner (suc f) (Token.keyword m ∷ ts) ≡ Some (x, r) → 1 ≤ count (parts_of x)
  unfolding keyword_parts_of
  parts-some f m ts x r e =
      let b = bind_some (binary_of group inner ts) _ (x, r) e in
      map_elim (λ y rest. 1 ≤ count (parts_of y)) (λ (p : List (Name × Expression) × List Token). ((m, b.0.0) ∷ p.0, p.1)) (keyword_parts_of group inner f b.0.1) x r (λ ps rest is. omega arith) b.2

  with_parts-sound : (ts mid : List Token) (o : Expression) (ps : List (Name × Expression)) (r : List Token) → IsRead 2 n ts o mid → PartsRead 8 n mid ps r → IsRead 3 n ts (with_parts o ps) r
  with_parts-sound ts mid o [] r h k = record { tokens = ap (λ (l : List Token). toks o ++ l) k.tokens ∙ h.tokens; low = let low = h.low in omega (arith, low); is = h.is; shallow = h.shallow }
  with_parts-sound ts mid o (p ∷ ps) r h k = record { tokens = append_assoc (toks o) (parts_toks (parts_of (p ∷ ps))) r ∙ ap (λ (l : List Token). toks o ++ l) k.tokens ∙ h.tokens; low = omega arith; is = (h.is, h.low, (omega arith, k.few, k.are)); shallow = max-le h.shallow k.shallow }

  chain-sound : (ts : List Token) (x : Expression) (r : List Token) → chain_of group inner ts ≡ Some (x, r) → IsRead 3 n ts x r
  unfolding chain_of
  chain-sound ts x r e =
      let b = bind_some (binary_of group inner ts) _ (x, r) e in
      let h = binary-sound ts b.0.0 b.0.1 b.1 in
      let d = bind_some (keyword_parts_of group inner 8 b.0.1) _ (x, r) b.2 in
      let k = parts-sound 8 b.0.1 d.0.0 d.0.1 d.1 in
      pair_elim (IsRead 3 n ts) (with_parts b.0.0 d.0.0) x d.0.1 r d.2 (with_parts-sound ts b.0.1 b.0.0 d.0.0 d.0.1 h k)

  message-sound : (ts : List Token) (x : Message) (r : List Token) → message_of group inner ts ≡ Some (x, r) → MessageRead n ts x r
  unfolding message_of
  message-sound [] x r e = absurd cc
  message-sound (Token.identifier m ∷ ts) x r e = pair_elim (MessageRead n (Token.identifier m ∷ ts)) (unary m) x ts r e (record { tokens = refl; is = tt; shallow = omega arith })
  message-sound (Token.binary m ∷ ts) x r e =
      let b = bind_some (term_of group inner ts) _ (x, r) e in
      let h = term-sound ts b.0.0 b.0.1 b.1 in
      pair_elim (MessageRead n (Token.binary m ∷ ts)) (Message.binary m b.0.0) x b.0.1 r b.2 (record { tokens = ap (λ (l : List Token). Token.binary m ∷ l) h.tokens; is = (h.low, h.is); shallow = h.shallow })
  message-sound (Token.keyword m ∷ ts) x r e =
      let b = bind_some (keyword_parts_of group inner 8 (Token.keyword m ∷ ts)) _ (x, r) e in
      let k = parts-sound 8 (Token.keyword m ∷ ts) b.0.0 b.0.1 b.1 in
      pair_elim (MessageRead n (Token.keyword m ∷ ts)) (keywords (parts_of b.0.0)) x b.0.1 r b.2 (record { tokens = k.tokens; is = (parts-some 7 m ts b.0.0 b.0.1 b.1, k.few, k.are); shallow = k.shallow })
  message-sound (Token.assign place ∷ ts) x r e = absurd cc
  message-sound (Token.number m place ∷ ts) x r e = absurd cc
  message-sound (Token.symbol m ∷ ts) x r e = absurd cc
  message-sound (Token.mark m place ∷ ts) x r e = absurd cc

  further-sound : (f : ℕ) (ts : List Token) (x : List (Span × Message)) (r : List Token) → further_messages_of group inner f ts ≡ Some (x, r) → FurtherRead n ts x r
  unfolding further_messages_of
  further-sound zero ts x r e = pair_elim (FurtherRead n ts) [] x ts r e (no-further-read n ts)
  further-sound (suc f) [] x r e = pair_elim (FurtherRead n []) [] x [] r e (no-further-read n [])
  further-sound (suc f) (Token.mark Semicolon place ∷ ts) x r e =
      let b = bind_some (message_of group inner ts) _ (x, r) e in
      let h = message-sound ts b.0.0 b.0.1 b.1 in
      map_elim (FurtherRead n (Token.mark Semicolon place ∷ ts)) (λ (p : List (Span × Message) × List Token). ((place, b.0.0) ∷ p.0, p.1)) (further_messages_of group inner f b.0.1) x r
      (λ fs rest is.
      let k = further-sound f b.0.1 fs rest is in
      record { tokens = ap (λ (l : List Token). Token.mark Semicolon place ∷ l) (append_assoc (message_toks b.0.0) (further_toks (further_of fs)) rest ∙ ap (λ (l : List Token). message_toks b.0.0 ++ l) k.tokens ∙ h.tokens); are = (h.is, k.are); shallow = max-le h.shallow k.shallow })
      b.2
  further-sound (suc f) (Token.mark OpenParenthesis place ∷ ts) x r e = pair_elim (FurtherRead n _) [] x _ r e (no-further-read n _)
  further-sound (suc f) (Token.mark CloseParenthesis place ∷ ts) x r e = pair_elim (FurtherRead n _) [] x _ r e (no-further-read n _)
  further-sound (suc f) (Token.mark OpenBlock place ∷ ts) x r e = pair_elim (FurtherRead n _) [] x _ r e (no-further-read n _)
  further-sound (suc f) (Token.mark CloseBlock place ∷ ts) x r e = pair_elim (FurtherRead n _) [] x _ r e (no-further-read n _)
  further-sound (suc f) (Token.mark Caret place ∷ ts) x r e = pair_elim (FurtherRead n _) [] x _ r e (no-further-read n _)
  further-sound (suc f) (Token.mark Period place ∷ ts) x r e = pair_elim (FurtherRead n _) [] x _ r e (no-further-read n _)
  further-sound (suc f) (Token.mark Bar place ∷ ts) x r e = pair_elim (FurtherRead n _) [] x _ r e (no-further-read n _)
  further-sound (suc f) (Token.identifier m ∷ ts) x r e = pair_elim (FurtherRead n _) [] x _ r e (no-further-read n _)
  further-sound (suc f) (Token.keyword m ∷ ts) x r e = pair_elim (FurtherRead n _) [] x _ r e (no-further-read n _)
  further-sound (suc f) (Token.assign place ∷ ts) x r e = pair_elim (FurtherRead n _) [] x _ r e (no-further-read n _)
  further-sound (suc f) (Token.binary m ∷ ts) x r e = pair_elim (FurtherRead n _) [] x _ r e (no-further-read n _)
  further-sound (suc f) (Token.number m place ∷ ts) x r e = pair_elim (FurtherRead n _) [] x _ r e (no-further-read n _)
  further-sound (suc f) (Token.symbol m ∷ ts) x r e = pair_elim (FurtherRead n _) [] x _ r e (no-further-read n _)

  with_further-sound : (ts mid : List Token) (o : Expression) (fs : List (Span × Message)) (x : Expression) (r : List Token) → IsRead 3 n ts o mid → FurtherRead n mid fs r → with_further o fs ≡ Some x → IsRead 4 n ts x r
  with_further-sound ts mid o [] x r h k e = subst (λ (y : Expression). IsRead 4 n ts y r) (some_is o x (Some o) refl e) (record { tokens = ap (λ (l : List Token). toks o ++ l) k.tokens ∙ h.tokens; low = let low = h.low in omega (arith, low); is = h.is; shallow = h.shallow })
  with_further-sound ts mid (send o m) (f ∷ fs) x r h k e =
      let more : List Token = further_toks (further_of (f ∷ fs)) in
      let same : (toks o ++ (message_toks m ++ more)) ++ r ≡ ts = ap (λ (l : List Token). l ++ r) (sym (append_assoc (toks o) (message_toks m) more)) ∙ append_assoc (toks o ++ message_toks m) more r ∙ ap (λ (l : List Token). (toks o ++ message_toks m) ++ l) k.tokens ∙ h.tokens in
      let deep = h.shallow in
      subst (λ (y : Expression). IsRead 4 n ts y r) (some_is (cascade o m (further_of (f ∷ fs))) x (Some (cascade o m (further_of (f ∷ fs)))) refl e) (record { tokens = same; low = omega arith; is = (h.is.0, h.is.1, h.is.2, tt, k.are); shallow = max-le (left (nesting o) (message_nesting m) n deep) (max-le (right (nesting o) (message_nesting m) n deep) k.shallow) })
  with_further-sound ts mid (Expression.number value place minus) (f ∷ fs) x r h k e = absurd cc
  with_further-sound ts mid (Expression.symbol m) (f ∷ fs) x r h k e = absurd cc
  with_further-sound ts mid (name m) (f ∷ fs) x r h k e = absurd cc
  with_further-sound ts mid (parenthesis opening o closing) (f ∷ fs) x r h k e = absurd cc
  with_further-sound ts mid (empty_block opening closing) (f ∷ fs) x r h k e = absurd cc
  with_further-sound ts mid (block opening ss closing) (f ∷ fs) x r h k e = absurd cc
  with_further-sound ts mid (cascade o m ms) (f ∷ fs) x r h k e = absurd cc
  with_further-sound ts mid (Expression.assign m place o) (f ∷ fs) x r h k e = absurd cc

  value-sound : (ts : List Token) (x : Expression) (r : List Token) → value_of group inner ts ≡ Some (x, r) → IsRead 4 n ts x r
  unfolding value_of
  value-sound ts x r e =
      let b = bind_some (chain_of group inner ts) _ (x, r) e in
      let h = chain-sound ts b.0.0 b.0.1 b.1 in
      let d = bind_some (further_messages_of group inner (length b.0.1) b.0.1) _ (x, r) b.2 in
      let k = further-sound (length b.0.1) b.0.1 d.0.0 d.0.1 d.1 in
      let m = map_some (with_further b.0.0 d.0.0) (with_tokens d.0.1) (x, r) d.2 in
      subst (λ (p : Expression × List Token). IsRead 4 n ts p.0 p.1) m.2 (with_further-sound ts b.0.1 b.0.0 d.0.0 m.0 d.0.1 h k m.1)

  expression-sound : (ts : List Token) (x : Expression) (r : List Token) → expression_with group inner ts ≡ Some (x, r) → IsRead 5 n ts x r
  unfolding expression_with
  expression-sound ts x r e =
      map_elim (IsRead 5 n ts) (λ (p : Expression × List Token). (assigns (targets_of ts).0 p.0, p.1)) (value_of group inner (targets_of ts).1) x r (λ y rest is. targets-sound n ts y rest (value-sound (targets_of ts).1 y rest is)) e

-- ---- statements

answered-sound : (n : ℕ) (all : List Token) (caret : Span) (e : Expression) (ts : List Token) → IsRead 5 n all e ts → StatementsRead n (Token.mark Caret caret ∷ all) (answered caret e ts).0 (answered caret e ts).1
answered-sound n all caret e [] h = record { tokens = ap (λ (l : List Token). Token.mark Caret caret ∷ l) (append_assoc (toks e) [] _ ∙ h.tokens); are = h.is; shallow = h.shallow }
answered-sound n all caret e (Token.mark Period place ∷ ts) h = record { tokens = ap (λ (l : List Token). Token.mark Caret caret ∷ l) (append_assoc (toks e) (Token.mark Period place ∷ []) ts ∙ h.tokens); are = h.is; shallow = h.shallow }
answered-sound n all caret e (Token.mark OpenParenthesis place ∷ ts) h = record { tokens = ap (λ (l : List Token). Token.mark Caret caret ∷ l) (append_assoc (toks e) [] _ ∙ h.tokens); are = h.is; shallow = h.shallow }
answered-sound n all caret e (Token.mark CloseParenthesis place ∷ ts) h = record { tokens = ap (λ (l : List Token). Token.mark Caret caret ∷ l) (append_assoc (toks e) [] _ ∙ h.tokens); are = h.is; shallow = h.shallow }
answered-sound n all caret e (Token.mark OpenBlock place ∷ ts) h = record { tokens = ap (λ (l : List Token). Token.mark Caret caret ∷ l) (append_assoc (toks e) [] _ ∙ h.tokens); are = h.is; shallow = h.shallow }
answered-sound n all caret e (Token.mark CloseBlock place ∷ ts) h = record { tokens = ap (λ (l : List Token). Token.mark Caret caret ∷ l) (append_assoc (toks e) [] _ ∙ h.tokens); are = h.is; shallow = h.shallow }
answered-sound n all caret e (Token.mark Caret place ∷ ts) h = record { tokens = ap (λ (l : List Token). Token.mark Caret caret ∷ l) (append_assoc (toks e) [] _ ∙ h.tokens); are = h.is; shallow = h.shallow }
answered-sound n all caret e (Token.mark Semicolon place ∷ ts) h = record { tokens = ap (λ (l : List Token). Token.mark Caret caret ∷ l) (append_assoc (toks e) [] _ ∙ h.tokens); are = h.is; shallow = h.shallow }
answered-sound n all caret e (Token.mark Bar place ∷ ts) h = record { tokens = ap (λ (l : List Token). Token.mark Caret caret ∷ l) (append_assoc (toks e) [] _ ∙ h.tokens); are = h.is; shallow = h.shallow }
answered-sound n all caret e (Token.identifier m ∷ ts) h = record { tokens = ap (λ (l : List Token). Token.mark Caret caret ∷ l) (append_assoc (toks e) [] _ ∙ h.tokens); are = h.is; shallow = h.shallow }
answered-sound n all caret e (Token.keyword m ∷ ts) h = record { tokens = ap (λ (l : List Token). Token.mark Caret caret ∷ l) (append_assoc (toks e) [] _ ∙ h.tokens); are = h.is; shallow = h.shallow }
answered-sound n all caret e (Token.assign place ∷ ts) h = record { tokens = ap (λ (l : List Token). Token.mark Caret caret ∷ l) (append_assoc (toks e) [] _ ∙ h.tokens); are = h.is; shallow = h.shallow }
answered-sound n all caret e (Token.binary m ∷ ts) h = record { tokens = ap (λ (l : List Token). Token.mark Caret caret ∷ l) (append_assoc (toks e) [] _ ∙ h.tokens); are = h.is; shallow = h.shallow }
answered-sound n all caret e (Token.number m place ∷ ts) h = record { tokens = ap (λ (l : List Token). Token.mark Caret caret ∷ l) (append_assoc (toks e) [] _ ∙ h.tokens); are = h.is; shallow = h.shallow }
answered-sound n all caret e (Token.symbol m ∷ ts) h = record { tokens = ap (λ (l : List Token). Token.mark Caret caret ∷ l) (append_assoc (toks e) [] _ ∙ h.tokens); are = h.is; shallow = h.shallow }

last-read : (n : ℕ) (all : List Token) (e : Expression) (ts : List Token) → IsRead 5 n all e ts → StatementsRead n all (last e None) ts
last-read n all e ts h = record { tokens = append_assoc (toks e) [] ts ∙ h.tokens; are = h.is; shallow = h.shallow }

statement-sound : (n : ℕ) (all : List Token) (more : Parse Statements) (e : Expression) (ts : List Token) (x : Statements) (r : List Token) → ((l : List Token) (ss : Statements) (rest : List Token) → more l ≡ Some (ss, rest) → StatementsRead n l ss rest) → IsRead 5 n all e ts → statement_of more e ts ≡ Some (x, r) → StatementsRead n all x r
statement-sound n all more e [] x r hyp h q = pair_elim (StatementsRead n all) (last e None) x [] r q (last-read n all e [] h)
statement-sound n all more e (Token.mark Period place ∷ ts) x r hyp h q =
    elim (either (is_end ts) (found (last e (Some place)) ts) (option_map (sentence e place) (more ts)) (x, r) q) [
      | inl k ↦ pair_elim (StatementsRead n all) (last e (Some place)) x ts r k.1 (record { tokens = append_assoc (toks e) (Token.mark Period place ∷ []) ts ∙ h.tokens; are = h.is; shallow = h.shallow })
      | inr k ↦ map_elim (StatementsRead n all) (sentence e place) (more ts) x r
          (λ ss rest is.
          let m = hyp ts ss rest is in
          record { tokens = append_assoc (toks e) (Token.mark Period place ∷ statements_toks ss) rest ∙ ap (λ (l : List Token). toks e ++ Token.mark Period place ∷ l) m.tokens ∙ h.tokens; are = (h.is, m.are); shallow = max-le h.shallow m.shallow })
          k.1
    ]
statement-sound n all more e (Token.mark OpenParenthesis place ∷ ts) x r hyp h q = pair_elim (StatementsRead n all) (last e None) x _ r q (last-read n all e _ h)
statement-sound n all more e (Token.mark CloseParenthesis place ∷ ts) x r hyp h q = pair_elim (StatementsRead n all) (last e None) x _ r q (last-read n all e _ h)
statement-sound n all more e (Token.mark OpenBlock place ∷ ts) x r hyp h q = pair_elim (StatementsRead n all) (last e None) x _ r q (last-read n all e _ h)
statement-sound n all more e (Token.mark CloseBlock place ∷ ts) x r hyp h q = pair_elim (StatementsRead n all) (last e None) x _ r q (last-read n all e _ h)
statement-sound n all more e (Token.mark Caret place ∷ ts) x r hyp h q = pair_elim (StatementsRead n all) (last e None) x _ r q (last-read n all e _ h)
statement-sound n all more e (Token.mark Semicolon place ∷ ts) x r hyp h q = pair_elim (StatementsRead n all) (last e None) x _ r q (last-read n all e _ h)
statement-sound n all more e (Token.mark Bar place ∷ ts) x r hyp h q = pair_elim (StatementsRead n all) (last e None) x _ r q (last-read n all e _ h)
statement-sound n all more e (Token.identifier m ∷ ts) x r hyp h q = pair_elim (StatementsRead n all) (last e None) x _ r q (last-read n all e _ h)
statement-sound n all more e (Token.keyword m ∷ ts) x r hyp h q = pair_elim (StatementsRead n all) (last e None) x _ r q (last-read n all e _ h)
statement-sound n all more e (Token.assign place ∷ ts) x r hyp h q = pair_elim (StatementsRead n all) (last e None) x _ r q (last-read n all e _ h)
statement-sound n all more e (Token.binary m ∷ ts) x r hyp h q = pair_elim (StatementsRead n all) (last e None) x _ r q (last-read n all e _ h)
statement-sound n all more e (Token.number m place ∷ ts) x r hyp h q = pair_elim (StatementsRead n all) (last e None) x _ r q (last-read n all e _ h)
statement-sound n all more e (Token.symbol m ∷ ts) x r hyp h q = pair_elim (StatementsRead n all) (last e None) x _ r q (last-read n all e _ h)

module _ (n : ℕ) (expression : Parse Expression) (sound : (ts : List Token) (x : Expression) (r : List Token) → expression ts ≡ Some (x, r) → IsRead 5 n ts x r) where
  plain-sound : (f : ℕ) → ((l : List Token) (ss : Statements) (rest : List Token) → statements_with expression f l ≡ Some (ss, rest) → StatementsRead n l ss rest) → (ts : List Token) (x : Statements) (r : List Token) → option_and_then (λ (p : Expression × List Token). statement_of (statements_with expression f) p.0 p.1) (expression ts) ≡ Some (x, r) → StatementsRead n ts x r
  plain-sound f hyp ts x r e =
      let b = bind_some (expression ts) _ (x, r) e in
      statement-sound n ts (statements_with expression f) b.0.0 b.0.1 x r hyp (sound ts b.0.0 b.0.1 b.1) b.2

  statements-sound : (f : ℕ) (ts : List Token) (x : Statements) (r : List Token) → statements_with expression f ts ≡ Some (x, r) → StatementsRead n ts x r
  unfolding statements_with
  statements-sound zero ts x r e = absurd cc
  statements-sound (suc f) [] x r e = plain-sound f (statements-sound f) [] x r e
  statements-sound (suc f) (Token.mark Caret place ∷ ts) x r e =
      map_elim (StatementsRead n (Token.mark Caret place ∷ ts)) (λ (p : Expression × List Token). answered place p.0 p.1) (expression ts) x r (λ y rest is. answered-sound n ts place y rest (sound ts y rest is)) e
  statements-sound (suc f) (Token.mark OpenParenthesis place ∷ ts) x r e = plain-sound f (statements-sound f) _ x r e
  statements-sound (suc f) (Token.mark CloseParenthesis place ∷ ts) x r e = plain-sound f (statements-sound f) _ x r e
  statements-sound (suc f) (Token.mark OpenBlock place ∷ ts) x r e = plain-sound f (statements-sound f) _ x r e
  statements-sound (suc f) (Token.mark CloseBlock place ∷ ts) x r e = plain-sound f (statements-sound f) _ x r e
  statements-sound (suc f) (Token.mark Period place ∷ ts) x r e = plain-sound f (statements-sound f) _ x r e
  statements-sound (suc f) (Token.mark Semicolon place ∷ ts) x r e = plain-sound f (statements-sound f) _ x r e
  statements-sound (suc f) (Token.mark Bar place ∷ ts) x r e = plain-sound f (statements-sound f) _ x r e
  statements-sound (suc f) (Token.identifier m ∷ ts) x r e = plain-sound f (statements-sound f) _ x r e
  statements-sound (suc f) (Token.keyword m ∷ ts) x r e = plain-sound f (statements-sound f) _ x r e
  statements-sound (suc f) (Token.assign place ∷ ts) x r e = plain-sound f (statements-sound f) _ x r e
  statements-sound (suc f) (Token.binary m ∷ ts) x r e = plain-sound f (statements-sound f) _ x r e
  statements-sound (suc f) (Token.number m place ∷ ts) x r e = plain-sound f (statements-sound f) _ x r e
  statements-sound (suc f) (Token.symbol m ∷ ts) x r e = plain-sound f (statements-sound f) _ x r e

  close : (place : Span) (m : Mark) → List Token → List Token
  close place m r = Token.mark m place ∷ r

  parenthesis-sound : (opening : Span) (all ts : List Token) (e : Expression) (x : Expression) (r : List Token) → IsRead 5 n all e ts → option_and_then (λ (c : Span × List Token). found (parenthesis opening e c.0) c.1) (parenthesis_end ts) ≡ found x r → IsRead 0 (suc n) (Token.mark OpenParenthesis opening ∷ all) x r
  parenthesis-sound opening all [] e x r h q = absurd cc
  parenthesis-sound opening all (Token.mark CloseParenthesis place ∷ ts) e x r h q =
      pair_elim (IsRead 0 (suc n) (Token.mark OpenParenthesis opening ∷ all)) (parenthesis opening e place) x ts r q (record { tokens = ap (λ (l : List Token). Token.mark OpenParenthesis opening ∷ l) (append_assoc (toks e) (Token.mark CloseParenthesis place ∷ []) ts ∙ h.tokens); low = omega arith; is = h.is; shallow = let s = h.shallow in omega (arith, s) })
  parenthesis-sound opening all (Token.mark OpenParenthesis place ∷ ts) e x r h q = absurd cc
  parenthesis-sound opening all (Token.mark OpenBlock place ∷ ts) e x r h q = absurd cc
  parenthesis-sound opening all (Token.mark CloseBlock place ∷ ts) e x r h q = absurd cc
  parenthesis-sound opening all (Token.mark Caret place ∷ ts) e x r h q = absurd cc
  parenthesis-sound opening all (Token.mark Period place ∷ ts) e x r h q = absurd cc
  parenthesis-sound opening all (Token.mark Semicolon place ∷ ts) e x r h q = absurd cc
  parenthesis-sound opening all (Token.mark Bar place ∷ ts) e x r h q = absurd cc
  parenthesis-sound opening all (Token.identifier m ∷ ts) e x r h q = absurd cc
  parenthesis-sound opening all (Token.keyword m ∷ ts) e x r h q = absurd cc
  parenthesis-sound opening all (Token.assign place ∷ ts) e x r h q = absurd cc
  parenthesis-sound opening all (Token.binary m ∷ ts) e x r h q = absurd cc
  parenthesis-sound opening all (Token.number m place ∷ ts) e x r h q = absurd cc
  parenthesis-sound opening all (Token.symbol m ∷ ts) e x r h q = absurd cc

  bracket-sound : (opening : Span) (all ts : List Token) (ss : Statements) (x : Expression) (r : List Token) → StatementsRead n all ss ts → option_and_then (λ (c : Span × List Token). found (block opening ss c.0) c.1) (block_end ts) ≡ found x r → IsRead 0 (suc n) (Token.mark OpenBlock opening ∷ all) x r
  bracket-sound opening all [] ss x r h q = absurd cc
  bracket-sound opening all (Token.mark CloseBlock place ∷ ts) ss x r h q =
      pair_elim (IsRead 0 (suc n) (Token.mark OpenBlock opening ∷ all)) (block opening ss place) x ts r q (record { tokens = ap (λ (l : List Token). Token.mark OpenBlock opening ∷ l) (append_assoc (statements_toks ss) (Token.mark CloseBlock place ∷ []) ts ∙ h.tokens); low = omega arith; is = h.are; shallow = let s = h.shallow in omega (arith, s) })
  bracket-sound opening all (Token.mark OpenParenthesis place ∷ ts) ss x r h q = absurd cc
  bracket-sound opening all (Token.mark CloseParenthesis place ∷ ts) ss x r h q = absurd cc
  bracket-sound opening all (Token.mark OpenBlock place ∷ ts) ss x r h q = absurd cc
  bracket-sound opening all (Token.mark Caret place ∷ ts) ss x r h q = absurd cc
  bracket-sound opening all (Token.mark Period place ∷ ts) ss x r h q = absurd cc
  bracket-sound opening all (Token.mark Semicolon place ∷ ts) ss x r h q = absurd cc
  bracket-sound opening all (Token.mark Bar place ∷ ts) ss x r h q = absurd cc
  bracket-sound opening all (Token.identifier m ∷ ts) ss x r h q = absurd cc
  bracket-sound opening all (Token.keyword m ∷ ts) ss x r h q = absurd cc
  bracket-sound opening all (Token.assign place ∷ ts) ss x r h q = absurd cc
  bracket-sound opening all (Token.binary m ∷ ts) ss x r h q = absurd cc
  bracket-sound opening all (Token.number m place ∷ ts) ss x r h q = absurd cc
  bracket-sound opening all (Token.symbol m ∷ ts) ss x r h q = absurd cc

  group-sound : Sound (suc n) OpenParenthesis (group_with expression)
  unfolding group_with
  group-sound place ts x r e =
      let b = bind_some (expression ts) _ (x, r) e in
      parenthesis-sound place ts b.0.1 b.0.0 x r (sound ts b.0.0 b.0.1 b.1) b.2

  filled-sound : Sound (suc n) OpenBlock (filled_block_with expression)
  unfolding filled_block_with
  filled-sound place ts x r e =
      let b = bind_some (statements_with expression (length ts) ts) _ (x, r) e in
      bracket-sound place ts b.0.1 b.0.0 x r (statements-sound (length ts) ts b.0.0 b.0.1 b.1) b.2

  block-sound : Sound (suc n) OpenBlock (block_with expression)
  unfolding block_with
  block-sound place [] x r e = filled-sound place [] x r e
  block-sound place (Token.mark CloseBlock closing ∷ ts) x r e = pair_elim (IsRead 0 (suc n) (Token.mark OpenBlock place ∷ Token.mark CloseBlock closing ∷ ts)) (empty_block place closing) x ts r e (record { tokens = refl; low = omega arith; is = tt; shallow = omega arith })
  block-sound place (Token.mark OpenParenthesis at ∷ ts) x r e = filled-sound place _ x r e
  block-sound place (Token.mark CloseParenthesis at ∷ ts) x r e = filled-sound place _ x r e
  block-sound place (Token.mark OpenBlock at ∷ ts) x r e = filled-sound place _ x r e
  block-sound place (Token.mark Caret at ∷ ts) x r e = filled-sound place _ x r e
  block-sound place (Token.mark Period at ∷ ts) x r e = filled-sound place _ x r e
  block-sound place (Token.mark Semicolon at ∷ ts) x r e = filled-sound place _ x r e
  block-sound place (Token.mark Bar at ∷ ts) x r e = filled-sound place _ x r e
  block-sound place (Token.identifier m ∷ ts) x r e = filled-sound place _ x r e
  block-sound place (Token.keyword m ∷ ts) x r e = filled-sound place _ x r e
  block-sound place (Token.assign at ∷ ts) x r e = filled-sound place _ x r e
  block-sound place (Token.binary m ∷ ts) x r e = filled-sound place _ x r e
  block-sound place (Token.number m at ∷ ts) x r e = filled-sound place _ x r e
  block-sound place (Token.symbol m ∷ ts) x r e = filled-sound place _ x r e

nothing-sound : (n : ℕ) (m : Mark) → Sound n m nothing
nothing-sound n m place ts x r e = absurd cc

all-sound : (n : ℕ) (ts : List Token) (x : Expression) (r : List Token) → expression_of n ts ≡ Some (x, r) → IsRead 5 n ts x r
unfolding expression_of
all-sound zero = expression-sound zero nothing nothing (nothing-sound zero OpenParenthesis) (nothing-sound zero OpenBlock)
all-sound (suc n) = expression-sound (suc n) (group_with (expression_of n)) (block_with (expression_of n)) (group-sound n (expression_of n) (all-sound n)) (block-sound n (expression_of n) (all-sound n))

-- ---- methods

parameter-sound : (ts : List Token) (x : Name) (r : List Token) → parameter_of ts ≡ Some (x, r) → Token.identifier x ∷ r ≡ ts
parameter-sound [] x r e = absurd cc
parameter-sound (Token.identifier m ∷ ts) x r e = pair_elim (λ y l. Token.identifier y ∷ l ≡ Token.identifier m ∷ ts) m x ts r e refl
parameter-sound (Token.keyword m ∷ ts) x r e = absurd cc
parameter-sound (Token.assign place ∷ ts) x r e = absurd cc
parameter-sound (Token.binary m ∷ ts) x r e = absurd cc
parameter-sound (Token.number m place ∷ ts) x r e = absurd cc
parameter-sound (Token.symbol m ∷ ts) x r e = absurd cc
parameter-sound (Token.mark m place ∷ ts) x r e = absurd cc

-- keywords of a pattern were read
record ParametersRead (f : ℕ) (ts : List Token) (ps : List Parameter) (r : List Token) : Type 0 where
  tokens : flat_map parameter_toks ps ++ r ≡ ts
  few : length ps ≤ f

no-parameters : (f : ℕ) (ts : List Token) → ParametersRead f ts [] ts
no-parameters f ts = record { tokens = refl; few = omega arith }

-- one in front of others
abbrev one_parameter : Name → Name → (List Parameter × List Token) → (List Parameter × List Token)
one_parameter m a p = ((record { keyword = m; argument = a }) ∷ p.0, p.1)

parameters-sound : (f : ℕ) (ts : List Token) (x : List Parameter) (r : List Token) → parameters_of f ts ≡ Some (x, r) → ParametersRead f ts x r
unfolding parameters_of
parameters-sound zero [] x r e = pair_elim (ParametersRead zero []) [] x [] r e (no-parameters zero [])
parameters-sound zero (Token.keyword m ∷ ts) x r e = absurd cc
parameters-sound (suc f) [] x r e = pair_elim (ParametersRead (suc f) []) [] x [] r e (no-parameters (suc f) [])
parameters-sound (suc f) (Token.keyword m ∷ ts) x r e =
    let b = bind_some (parameter_of ts) _ (x, r) e in
    let h = parameter-sound ts b.0.0 b.0.1 b.1 in
    map_elim (ParametersRead (suc f) (Token.keyword m ∷ ts)) (one_parameter m b.0.0) (parameters_of f b.0.1) x r
    (λ ps rest is. let k = parameters-sound f b.0.1 ps rest is in record { tokens = ap (λ (l : List Token). Token.keyword m ∷ Token.identifier b.0.0 ∷ l) k.tokens ∙ ap (λ (l : List Token). Token.keyword m ∷ l) h; few = let few = k.few in omega (arith, few) })
    b.2
parameters-sound zero (Token.identifier m ∷ ts) x r e = pair_elim (ParametersRead zero _) [] x _ r e (no-parameters zero _)
parameters-sound zero (Token.assign place ∷ ts) x r e = pair_elim (ParametersRead zero _) [] x _ r e (no-parameters zero _)
parameters-sound zero (Token.binary m ∷ ts) x r e = pair_elim (ParametersRead zero _) [] x _ r e (no-parameters zero _)
parameters-sound zero (Token.number m place ∷ ts) x r e = pair_elim (ParametersRead zero _) [] x _ r e (no-parameters zero _)
parameters-sound zero (Token.symbol m ∷ ts) x r e = pair_elim (ParametersRead zero _) [] x _ r e (no-parameters zero _)
parameters-sound zero (Token.mark m place ∷ ts) x r e = pair_elim (ParametersRead zero _) [] x _ r e (no-parameters zero _)
parameters-sound (suc f) (Token.identifier m ∷ ts) x r e = pair_elim (ParametersRead (suc f) _) [] x _ r e (no-parameters (suc f) _)
parameters-sound (suc f) (Token.assign place ∷ ts) x r e = pair_elim (ParametersRead (suc f) _) [] x _ r e (no-parameters (suc f) _)
parameters-sound (suc f) (Token.binary m ∷ ts) x r e = pair_elim (ParametersRead (suc f) _) [] x _ r e (no-parameters (suc f) _)
parameters-sound (suc f) (Token.number m place ∷ ts) x r e = pair_elim (ParametersRead (suc f) _) [] x _ r e (no-parameters (suc f) _)
parameters-sound (suc f) (Token.symbol m ∷ ts) x r e = pair_elim (ParametersRead (suc f) _) [] x _ r e (no-parameters (suc f) _)
parameters-sound (suc f) (Token.mark m place ∷ ts) x r e = pair_elim (ParametersRead (suc f) _) [] x _ r e (no-parameters (suc f) _)

parameters-some : (f : ℕ) (m : Name) (ts : List Token) (x : List Parameter) (r : List Token) → parameters_of (suc f) (Token.keyword m ∷ ts) ≡ Some (x, r) → 1 ≤ length x
unfolding parameters_of
parameters-some f m ts x r e =
    let b = bind_some (parameter_of ts) _ (x, r) e in
    map_elim (λ y rest. 1 ≤ length y) (one_parameter m b.0.0) (parameters_of f b.0.1) x r (λ ps rest is. omega arith) b.2

-- a pattern was read
record PatternRead (ts : List Token) (p : Pattern) (r : List Token) : Type 0 where
  tokens : pattern_toks p ++ r ≡ ts
  is : IsPattern p

pattern-sound : (ts : List Token) (x : Pattern) (r : List Token) → pattern_of ts ≡ Some (x, r) → PatternRead ts x r
unfolding pattern_of
pattern-sound [] x r e = absurd cc
pattern-sound (Token.identifier m ∷ ts) x r e = pair_elim (PatternRead (Token.identifier m ∷ ts)) (Unary m) x ts r e (record { tokens = refl; is = tt })
pattern-sound (Token.binary m ∷ ts) x r e =
    let b = bind_some (parameter_of ts) _ (x, r) e in
    pair_elim (PatternRead (Token.binary m ∷ ts)) (Binary m b.0.0) x b.0.1 r b.2 (record { tokens = ap (λ (l : List Token). Token.binary m ∷ l) (parameter-sound ts b.0.0 b.0.1 b.1); is = tt })
pattern-sound (Token.keyword m ∷ ts) x r e =
    map_elim (PatternRead (Token.keyword m ∷ ts)) (λ (p : List Parameter × List Token). (Keyword p.0, p.1)) (parameters_of 8 (Token.keyword m ∷ ts)) x r
    (λ ps rest is. let k = parameters-sound 8 (Token.keyword m ∷ ts) ps rest is in record { tokens = k.tokens; is = (parameters-some 7 m ts ps rest is, k.few) })
    e
pattern-sound (Token.assign place ∷ ts) x r e = absurd cc
pattern-sound (Token.number m place ∷ ts) x r e = absurd cc
pattern-sound (Token.symbol m ∷ ts) x r e = absurd cc
pattern-sound (Token.mark m place ∷ ts) x r e = absurd cc

names-sound : (ts : List Token) → flat_map name_toks (names_of ts).0 ++ (names_of ts).1 ≡ ts
unfolding names_of
names-sound [] = refl
names-sound (Token.identifier m ∷ ts) = ap (λ (l : List Token). Token.identifier m ∷ l) (names-sound ts)
names-sound (Token.keyword m ∷ ts) = refl
names-sound (Token.assign place ∷ ts) = refl
names-sound (Token.binary m ∷ ts) = refl
names-sound (Token.number m place ∷ ts) = refl
names-sound (Token.symbol m ∷ ts) = refl
names-sound (Token.mark m place ∷ ts) = refl

closed-sound : (opening : Span) (all : List Token) (names : List Name) (ts : List Token) (x : Option Temporaries) (r : List Token) → flat_map name_toks names ++ ts ≡ all → temporaries_end opening names ts ≡ Some (x, r) → temporaries_toks x ++ r ≡ Token.mark Bar opening ∷ all
closed-sound opening all names [] x r h e = absurd cc
closed-sound opening all names (Token.mark Bar place ∷ ts) x r h e =
    pair_elim (λ y l. temporaries_toks y ++ l ≡ Token.mark Bar opening ∷ all) (Some (record { opening = opening; names = names; closing = place })) x ts r e (ap (λ (l : List Token). Token.mark Bar opening ∷ l) (append_assoc (flat_map name_toks names) (Token.mark Bar place ∷ []) ts ∙ h))
closed-sound opening all names (Token.mark OpenParenthesis place ∷ ts) x r h e = absurd cc
closed-sound opening all names (Token.mark CloseParenthesis place ∷ ts) x r h e = absurd cc
closed-sound opening all names (Token.mark OpenBlock place ∷ ts) x r h e = absurd cc
closed-sound opening all names (Token.mark CloseBlock place ∷ ts) x r h e = absurd cc
closed-sound opening all names (Token.mark Caret place ∷ ts) x r h e = absurd cc
closed-sound opening all names (Token.mark Period place ∷ ts) x r h e = absurd cc
closed-sound opening all names (Token.mark Semicolon place ∷ ts) x r h e = absurd cc
closed-sound opening all names (Token.identifier m ∷ ts) x r h e = absurd cc
closed-sound opening all names (Token.keyword m ∷ ts) x r h e = absurd cc
closed-sound opening all names (Token.assign place ∷ ts) x r h e = absurd cc
closed-sound opening all names (Token.binary m ∷ ts) x r h e = absurd cc
closed-sound opening all names (Token.number m place ∷ ts) x r h e = absurd cc
closed-sound opening all names (Token.symbol m ∷ ts) x r h e = absurd cc

no-temporaries-sound : (ts : List Token) (x : Option Temporaries) (r : List Token) → found None ts ≡ found x r → temporaries_toks x ++ r ≡ ts
no-temporaries-sound ts x r e = pair_elim (λ y l. temporaries_toks y ++ l ≡ ts) None x ts r e refl

temporaries-sound : (ts : List Token) (x : Option Temporaries) (r : List Token) → temporaries_of ts ≡ Some (x, r) → temporaries_toks x ++ r ≡ ts
unfolding temporaries_of
temporaries-sound [] x r e = pair_elim (λ y l. temporaries_toks y ++ l ≡ []) None x [] r e refl
temporaries-sound (Token.mark Bar place ∷ ts) x r e = closed-sound place ts (names_of ts).0 (names_of ts).1 x r (names-sound ts) e
temporaries-sound (Token.mark OpenParenthesis place ∷ ts) x r e = no-temporaries-sound _ x r e
temporaries-sound (Token.mark CloseParenthesis place ∷ ts) x r e = no-temporaries-sound _ x r e
temporaries-sound (Token.mark OpenBlock place ∷ ts) x r e = no-temporaries-sound _ x r e
temporaries-sound (Token.mark CloseBlock place ∷ ts) x r e = no-temporaries-sound _ x r e
temporaries-sound (Token.mark Caret place ∷ ts) x r e = no-temporaries-sound _ x r e
temporaries-sound (Token.mark Period place ∷ ts) x r e = no-temporaries-sound _ x r e
temporaries-sound (Token.mark Semicolon place ∷ ts) x r e = no-temporaries-sound _ x r e
temporaries-sound (Token.identifier m ∷ ts) x r e = no-temporaries-sound _ x r e
temporaries-sound (Token.keyword m ∷ ts) x r e = no-temporaries-sound _ x r e
temporaries-sound (Token.assign place ∷ ts) x r e = no-temporaries-sound _ x r e
temporaries-sound (Token.binary m ∷ ts) x r e = no-temporaries-sound _ x r e
temporaries-sound (Token.number m place ∷ ts) x r e = no-temporaries-sound _ x r e
temporaries-sound (Token.symbol m ∷ ts) x r e = no-temporaries-sound _ x r e

whole-sound : {T : Type 0} (x y : T) (ts : List Token) → whole (x, ts) ≡ Some y → (x ≡ y) × (ts ≡ [])
whole-sound x y [] e = (some_is x y (Some x) refl e, refl)
whole-sound x y (t ∷ ts) e = absurd cc

body-sound : (ts : List Token) (b : Option Statements) → body_of ts ≡ Some b → (body_toks b ≡ ts) × IsBody b
unfolding body_of
body-sound [] b e = subst (λ (c : Option Statements). (body_toks c ≡ []) × IsBody c) (some_is None b (Some None) refl e) (refl, tt)
body-sound (t ∷ ts) b e =
    let m = map_some (option_and_then whole (statements_with (expression_of 64) (length (t ∷ ts)) (t ∷ ts))) (λ ss. Some ss) b e in
    let d = bind_some (statements_with (expression_of 64) (length (t ∷ ts)) (t ∷ ts)) whole m.0 m.1 in
    let w = whole-sound d.0.0 m.0 d.0.1 d.2 in
    let h = statements-sound 64 (expression_of 64) (all-sound 64) (length (t ∷ ts)) (t ∷ ts) d.0.0 d.0.1 d.1 in
    let k : StatementsRead 64 (t ∷ ts) m.0 d.0.1 = subst (λ (ss : Statements). StatementsRead 64 (t ∷ ts) ss d.0.1) w.0 h in
    let same : statements_toks m.0 ≡ t ∷ ts = sym (append-nil (statements_toks m.0)) ∙ ap (λ (l : List Token). statements_toks m.0 ++ l) (sym w.1) ∙ k.tokens in
    subst (λ (c : Option Statements). (body_toks c ≡ t ∷ ts) × IsBody c) m.2 (same, (k.are, k.shallow))

pub method_sound : (ts : List Token) (m : Method) → method_of ts ≡ Some m → (method_toks m ≡ ts) × IsMethod m
unfolding method_of
method_sound ts m e =
    let b = bind_some (pattern_of ts) _ m e in
    let p = pattern-sound ts b.0.0 b.0.1 b.1 in
    let d = bind_some (temporaries_of b.0.1) _ m b.2 in
    let t = temporaries-sound b.0.1 d.0.0 d.0.1 d.1 in
    let f = map_some (body_of d.0.1) (λ (c : Option Statements). record { pattern = b.0.0; temporaries = d.0.0; body = c }) m d.2 in
    let k = body-sound d.0.1 f.0 f.1 in
    let made : Method = record { pattern = b.0.0; temporaries = d.0.0; body = f.0 } in
    let same : method_toks made ≡ ts = ap (λ (l : List Token). pattern_toks b.0.0 ++ l) (ap (λ (l : List Token). temporaries_toks d.0.0 ++ l) k.0 ∙ t) ∙ p.tokens in
    subst (λ (x : Method). (method_toks x ≡ ts) × IsMethod x) f.2 (same, record { pattern = p.is; body = k.1 })
