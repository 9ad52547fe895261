-- The tokens of a tree are read as that tree.
use Rattle.std.proofs.Common.{◌≡◌, ℕ, zero, suc, ◌+◌, ◌≤◌, ◌<◌, ◌^◌, ℤ, pos, negsuc, neg_ℤ, Bool, true, false, cond, List, [], ◌∷◌, ◌++◌, length, Option, Some, None, refl, sym, ap, subst, ◌∙◌, append_assoc, arith, length-append, max}
use Rattle.std.specs.Prelude.{option_map, option_and_then, nat_lt, nat_le, ◌==◌}
use Rattle.std.proofs.lemmas.Bool.{lt-ltb, le-leb, eq-eqb}
use Rattle.st_reader.specs.declared.trees.Span.{Span}
use Rattle.st_reader.specs.declared.trees.Name.{Name}
use Rattle.st_reader.specs.declared.trees.Target.{Target}
use Rattle.st_reader.specs.declared.tokens.Mark.TheVariants.{OpenParenthesis, CloseParenthesis, OpenBlock, CloseBlock, Caret, Period, Semicolon, Bar}
use Rattle.st_reader.specs.Tokens.{Token}
use Rattle.st_reader.specs.Syntax.{Method, Expression, Message, Parts, Further, Statements, parenthesis, empty_block, block, send, cascade, name, unary, keywords, no_parts, part, no_further, further, last, answer, statement}
use Rattle.st_reader.specs.TreeViews.{parts_of, further_of, assigns}
use Rattle.st_reader.specs.Grammar.{period_toks, toks, message_toks, parts_toks, further_toks, statements_toks, level, NumberFits, goes_to, count, IsSome, IsExpression, IsMessage, AreParts, AreFurther, AreStatements, nesting, message_nesting, parts_nesting, further_nesting, statements_nesting, method_toks, IsMethod, parameter_toks, pattern_toks, name_toks, temporaries_toks, body_toks, IsPattern, IsBody}
use Rattle.st_reader.specs.Parser.{Read, Parse, in_front, literal_of, negative_of, unaries_of, targets_of, operand_of, term_of, operations_of, binary_of, with_parts, keyword_parts_of, chain_of, message_of, further_messages_of, with_further, value_of, expression_with, parenthesis_end, block_end, is_end, answered, statement_of, statements_with, group_with, filled_block_with, block_with, expression_of, group_of, block_of, method_of, parameters_of, pattern_of, names_of, temporaries_end, temporaries_of, whole, body_of}
use Rattle.st_reader.proofs.Shorter.{Keeps, found, with_tokens, term-shortens, group_of-keeps, block_of-keeps}
use Rattle.std.proofs.Math.Nat.{le-max_left, le-max_right}
use Rattle.std.proofs.lemmas.List.{append-nil}
use Rattle.std.specs.List.{flat_map}
use Rattle.st_reader.specs.declared.trees.Parameter.{Parameter}
use Rattle.st_reader.specs.declared.trees.Pattern.{Pattern}
use Rattle.st_reader.specs.declared.trees.Pattern.TheVariants.{Unary, Binary, Keyword}
use Rattle.st_reader.specs.declared.trees.Temporaries.{Temporaries}

-- ---- what may follow

-- no unary message follows
NoUnary : List Token → Type 0
NoUnary (Token.identifier n ∷ ts) = ⊥
NoUnary ts = Unit {0}

-- nor a binary one
NoBinary : List Token → Type 0
NoBinary (Token.identifier n ∷ ts) = ⊥
NoBinary (Token.binary n ∷ ts) = ⊥
NoBinary ts = Unit {0}

-- no message follows
NoMessage : List Token → Type 0
NoMessage (Token.identifier n ∷ ts) = ⊥
NoMessage (Token.binary n ∷ ts) = ⊥
NoMessage (Token.keyword n ∷ ts) = ⊥
NoMessage ts = Unit {0}

-- an expression ends
Ends : List Token → Type 0
Ends [] = Unit {0}
Ends (Token.mark CloseParenthesis place ∷ ts) = Unit {0}
Ends (Token.mark CloseBlock place ∷ ts) = Unit {0}
Ends (Token.mark Period place ∷ ts) = Unit {0}
Ends ts = ⊥

-- no `:=` follows
NoAssign : List Token → Type 0
NoAssign (Token.assign place ∷ ts) = ⊥
NoAssign ts = Unit {0}

binary-unary : (ts : List Token) → NoBinary ts → NoUnary ts
unfolding NoBinary NoUnary
binary-unary [] h = tt
binary-unary (Token.identifier n ∷ ts) h = absurd h
binary-unary (Token.binary n ∷ ts) h = absurd h
binary-unary (Token.keyword n ∷ ts) h = tt
binary-unary (Token.assign place ∷ ts) h = tt
binary-unary (Token.number n place ∷ ts) h = tt
binary-unary (Token.symbol n ∷ ts) h = tt
binary-unary (Token.mark m place ∷ ts) h = tt

message-binary : (ts : List Token) → NoMessage ts → NoBinary ts
unfolding NoBinary NoMessage
message-binary [] h = tt
message-binary (Token.identifier n ∷ ts) h = absurd h
message-binary (Token.binary n ∷ ts) h = absurd h
message-binary (Token.keyword n ∷ ts) h = absurd h
message-binary (Token.assign place ∷ ts) h = tt
message-binary (Token.number n place ∷ ts) h = tt
message-binary (Token.symbol n ∷ ts) h = tt
message-binary (Token.mark m place ∷ ts) h = tt

ends-message : (ts : List Token) → Ends ts → NoMessage ts
unfolding Ends NoMessage
ends-message [] h = tt
ends-message (Token.identifier n ∷ ts) h = absurd h
ends-message (Token.binary n ∷ ts) h = absurd h
ends-message (Token.keyword n ∷ ts) h = absurd h
ends-message (Token.assign place ∷ ts) h = tt
ends-message (Token.number n place ∷ ts) h = tt
ends-message (Token.symbol n ∷ ts) h = tt
ends-message (Token.mark m place ∷ ts) h = tt

ends-assign : (ts : List Token) → Ends ts → NoAssign ts
unfolding Ends NoAssign
ends-assign [] h = tt
ends-assign (Token.identifier n ∷ ts) h = tt
ends-assign (Token.binary n ∷ ts) h = tt
ends-assign (Token.keyword n ∷ ts) h = tt
ends-assign (Token.assign place ∷ ts) h = absurd h
ends-assign (Token.number n place ∷ ts) h = tt
ends-assign (Token.symbol n ∷ ts) h = tt
ends-assign (Token.mark m place ∷ ts) h = tt

-- no keyword is at the front
NoKeyword : List Token → Type 0
NoKeyword (Token.keyword n ∷ ts) = ⊥
NoKeyword ts = Unit {0}

-- ---- the ends of loops

unaries-stop : (e : Expression) (ts : List Token) → NoUnary ts → unaries_of e ts ≡ (e, ts)
unfolding unaries_of NoUnary
unaries-stop e [] h = refl
unaries-stop e (Token.identifier n ∷ ts) h = absurd h
unaries-stop e (Token.binary n ∷ ts) h = refl
unaries-stop e (Token.keyword n ∷ ts) h = refl
unaries-stop e (Token.assign place ∷ ts) h = refl
unaries-stop e (Token.number n place ∷ ts) h = refl
unaries-stop e (Token.symbol n ∷ ts) h = refl
unaries-stop e (Token.mark m place ∷ ts) h = refl

targets-stop : (n : Name) (ts : List Token) → NoAssign ts → targets_of (Token.identifier n ∷ ts) ≡ ([], Token.identifier n ∷ ts)
unfolding targets_of NoAssign
targets-stop n [] h = refl
targets-stop n (Token.identifier m ∷ ts) h = refl
targets-stop n (Token.binary m ∷ ts) h = refl
targets-stop n (Token.keyword m ∷ ts) h = refl
targets-stop n (Token.assign place ∷ ts) h = absurd h
targets-stop n (Token.number m place ∷ ts) h = refl
targets-stop n (Token.symbol m ∷ ts) h = refl
targets-stop n (Token.mark m place ∷ ts) h = refl

-- the items of rows
abbrev parts_list : Parts → List (Name × Expression)
parts_list no_parts = []
parts_list (part n e ps) = (n, e) ∷ parts_list ps

abbrev further_list : Further → List (Span × Message)
further_list no_further = []
further_list (further place m ms) = (place, m) ∷ further_list ms

parts-same : (ps : Parts) → parts_of (parts_list ps) ≡ ps
parts-same no_parts = refl
parts-same (part n e ps) = ap (part n e) (parts-same ps)

further-same : (ms : Further) → further_of (further_list ms) ≡ ms
further-same no_further = refl
further-same (further place m ms) = ap (further place m) (further-same ms)

-- one function after another, at what was read
bind_cong : {A B : Type 0} (o : Option A) (f g : A → Option B) → ((x : A) → o ≡ Some x → f x ≡ g x) → option_and_then f o ≡ option_and_then g o
bind_cong None f g h = refl
bind_cong (Some x) f g h = h x refl

module _ (group inner : Span → Parse Expression) (groups : (place : Span) → Keeps (group place)) (inners : (place : Span) → Keeps (inner place)) where
  operations-stop : (n : ℕ) (e : Expression) (ts : List Token) → NoBinary ts → operations_of group inner n e ts ≡ found e ts
  unfolding operations_of NoBinary
  operations-stop zero e ts h = refl
  operations-stop (suc n) e [] h = refl
  operations-stop (suc n) e (Token.identifier m ∷ ts) h = absurd h
  operations-stop (suc n) e (Token.binary m ∷ ts) h = absurd h
  operations-stop (suc n) e (Token.keyword m ∷ ts) h = refl
  operations-stop (suc n) e (Token.assign place ∷ ts) h = refl
  operations-stop (suc n) e (Token.number m place ∷ ts) h = refl
  operations-stop (suc n) e (Token.symbol m ∷ ts) h = refl
  operations-stop (suc n) e (Token.mark m place ∷ ts) h = refl

  -- a bound that is enough may be any
  operations-enough : (n k : ℕ) (e : Expression) (ts : List Token) → length ts ≤ n → length ts ≤ k → operations_of group inner n e ts ≡ operations_of group inner k e ts
  unfolding operations_of
  operations-enough zero zero e ts h j = refl
  operations-enough zero (suc k) e [] h j = refl
  operations-enough zero (suc k) e (t ∷ ts) h j = absurd (omega arith)
  operations-enough (suc n) zero e [] h j = refl
  operations-enough (suc n) zero e (t ∷ ts) h j = absurd (omega arith)
  operations-enough (suc n) (suc k) e [] h j = refl
  operations-enough (suc n) (suc k) e (Token.binary s ∷ ts) h j =
      bind_cong (term_of group inner ts) _ _ (λ r is. let less = term-shortens group inner groups inners ts r.0 r.1 is in operations-enough n k (send e (Message.binary s r.0)) r.1 (omega (arith, less, h)) (omega (arith, less, j)))
  operations-enough (suc n) (suc k) e (Token.identifier m ∷ ts) h j = refl
  operations-enough (suc n) (suc k) e (Token.keyword m ∷ ts) h j = refl
  operations-enough (suc n) (suc k) e (Token.assign place ∷ ts) h j = refl
  operations-enough (suc n) (suc k) e (Token.number m place ∷ ts) h j = refl
  operations-enough (suc n) (suc k) e (Token.symbol m ∷ ts) h j = refl
  operations-enough (suc n) (suc k) e (Token.mark m place ∷ ts) h j = refl

  parts-stop : (n : ℕ) (ts : List Token) → NoMessage ts → keyword_parts_of group inner n ts ≡ found [] ts
  unfolding keyword_parts_of NoMessage
  parts-stop zero [] h = refl
  parts-stop (suc n) [] h = refl
  parts-stop n (Token.identifier m ∷ ts) h = absurd h
  parts-stop n (Token.binary m ∷ ts) h = absurd h
  parts-stop n (Token.keyword m ∷ ts) h = absurd h
  parts-stop zero (Token.assign place ∷ ts) h = refl
  parts-stop (suc n) (Token.assign place ∷ ts) h = refl
  parts-stop zero (Token.number m place ∷ ts) h = refl
  parts-stop (suc n) (Token.number m place ∷ ts) h = refl
  parts-stop zero (Token.symbol m ∷ ts) h = refl
  parts-stop (suc n) (Token.symbol m ∷ ts) h = refl
  parts-stop zero (Token.mark m place ∷ ts) h = refl
  parts-stop (suc n) (Token.mark m place ∷ ts) h = refl

  further-stop : (n : ℕ) (ts : List Token) → Ends ts → further_messages_of group inner n ts ≡ found [] ts
  unfolding further_messages_of Ends
  further-stop zero ts h = refl
  further-stop (suc n) [] h = refl
  further-stop (suc n) (Token.identifier m ∷ ts) h = absurd h
  further-stop (suc n) (Token.binary m ∷ ts) h = absurd h
  further-stop (suc n) (Token.keyword m ∷ ts) h = absurd h
  further-stop (suc n) (Token.assign place ∷ ts) h = absurd h
  further-stop (suc n) (Token.number m place ∷ ts) h = absurd h
  further-stop (suc n) (Token.symbol m ∷ ts) h = absurd h
  further-stop (suc n) (Token.mark OpenParenthesis place ∷ ts) h = absurd h
  further-stop (suc n) (Token.mark CloseParenthesis place ∷ ts) h = refl
  further-stop (suc n) (Token.mark OpenBlock place ∷ ts) h = absurd h
  further-stop (suc n) (Token.mark CloseBlock place ∷ ts) h = refl
  further-stop (suc n) (Token.mark Caret place ∷ ts) h = absurd h
  further-stop (suc n) (Token.mark Period place ∷ ts) h = refl
  further-stop (suc n) (Token.mark Semicolon place ∷ ts) h = absurd h
  further-stop (suc n) (Token.mark Bar place ∷ ts) h = absurd h

  -- ---- what reading gives of an expression, by how tightly it binds

  ReadsOperand : Expression → Type 0
  ReadsOperand e = (ts : List Token) → operand_of group inner (toks e ++ ts) ≡ found e ts

  ReadsTerm : Expression → Type 0
  ReadsTerm e = (ts : List Token) → term_of group inner (toks e ++ ts) ≡ Some (unaries_of e ts)

  ReadsBinary : Expression → Type 0
  ReadsBinary e = (ts : List Token) → NoUnary ts → binary_of group inner (toks e ++ ts) ≡ operations_of group inner (length ts) e ts

  ReadsChain : Expression → Type 0
  ReadsChain e = (ts : List Token) → NoMessage ts → chain_of group inner (toks e ++ ts) ≡ found e ts

  ReadsValue : Expression → Type 0
  ReadsValue e = (ts : List Token) → Ends ts → value_of group inner (toks e ++ ts) ≡ found e ts

  ReadsParts : Parts → Type 0
  ReadsParts ps = (n : ℕ) (ts : List Token) → count ps ≤ n → NoMessage ts → keyword_parts_of group inner n (parts_toks ps ++ ts) ≡ found (parts_list ps) ts

  ReadsMessage : Message → Type 0
  ReadsMessage m = (ts : List Token) → NoMessage ts → message_of group inner (message_toks m ++ ts) ≡ found m ts

  ReadsFurther : Further → Type 0
  ReadsFurther ms = (n : ℕ) (ts : List Token) → length (further_toks ms ++ ts) ≤ n → Ends ts → further_messages_of group inner n (further_toks ms ++ ts) ≡ found (further_list ms) ts

  -- what reading gives of a message behind its receiver
  ReadsSend : Message → Type 0
  ReadsSend (unary n) = Unit {0}
  ReadsSend (Message.binary n a) = ReadsTerm a
  ReadsSend (keywords ps) = ReadsParts ps

  operand-term : (e : Expression) → ReadsOperand e → ReadsTerm e
  unfolding ReadsOperand ReadsTerm term_of
  operand-term e h ts = ap (option_and_then (λ (r : Expression × List Token). Some (unaries_of r.0 r.1))) (h ts)

  term-binary : (e : Expression) → ReadsTerm e → ReadsBinary e
  unfolding ReadsTerm ReadsBinary binary_of
  term-binary e h ts free =
      let f : (Expression × List Token) → Read Expression = λ r. operations_of group inner (length r.1) r.0 r.1 in
      ap (option_and_then f) (h ts) ∙ ap f (unaries-stop e ts free)

  binary-chain : (e : Expression) → ReadsBinary e → ReadsChain e
  unfolding ReadsBinary ReadsChain chain_of
  binary-chain e h ts free =
      let g : Expression → (List (Name × Expression) × List Token) → Read Expression = λ x p. Some (with_parts x p.0, p.1) in
      let f : (Expression × List Token) → Read Expression = λ r. option_and_then (g r.0) (keyword_parts_of group inner 8 r.1) in
      ap (option_and_then f) (h ts (binary-unary ts (message-binary ts free)) ∙ operations-stop (length ts) e ts (message-binary ts free)) ∙ ap (option_and_then (g e)) (parts-stop 8 ts free)

  chain-value : (e : Expression) → ReadsChain e → ReadsValue e
  unfolding ReadsChain ReadsValue value_of
  chain-value e h ts free =
      let g : Expression → (List (Span × Message) × List Token) → Read Expression = λ x p. option_map (with_tokens p.1) (with_further x p.0) in
      let f : (Expression × List Token) → Read Expression = λ r. option_and_then (g r.0) (further_messages_of group inner (length r.1) r.1) in
      ap (option_and_then f) (h ts (ends-message ts free)) ∙ ap (option_and_then (g e)) (further-stop (length ts) ts free)

  -- a term with a unary message more
  unary-term : (e : Expression) (n : Name) → ReadsTerm e → ReadsTerm (send e (unary n))
  unfolding ReadsTerm unaries_of
  unary-term e n h ts = ap (term_of group inner) (append_assoc (toks e) (Token.identifier n ∷ []) ts) ∙ h (Token.identifier n ∷ ts)

  -- binary messages, and one more
  binary-binary : (e a : Expression) (s : Name) → ReadsBinary e → ReadsTerm a → ReadsBinary (send e (Message.binary s a))
  unfolding ReadsBinary ReadsTerm operations_of NoUnary
  binary-binary e a s h k ts free =
      let behind : List Token = Token.binary s ∷ (toks a ++ ts) in
      let f : (Expression × List Token) → Read Expression = λ r. operations_of group inner (length (toks a ++ ts)) (send e (Message.binary s r.0)) r.1 in
      let long : length (toks a ++ ts) ≡ length (toks a) + length ts = length-append (toks a) ts in
      ap (binary_of group inner) (append_assoc (toks e) (Token.binary s ∷ toks a) ts) ∙ h behind tt ∙ ap (option_and_then f) (k ts) ∙ ap f (unaries-stop a ts free) ∙ operations-enough (length (toks a ++ ts)) (length ts) (send e (Message.binary s a)) ts (omega (arith, long)) (omega arith)

  -- parts stand behind no binary message
  parts-free : (ps : Parts) (ts : List Token) → NoMessage ts → NoBinary (parts_toks ps ++ ts)
  unfolding NoBinary
  parts-free no_parts ts free = message-binary ts free
  parts-free (part n e ps) ts free = tt

  no-part : ReadsParts no_parts
  unfolding ReadsParts
  no-part n ts few free = parts-stop n ts free

  more-parts : (n : Name) (e : Expression) (ps : Parts) → ReadsBinary e → ReadsParts ps → ReadsParts (part n e ps)
  unfolding ReadsBinary ReadsParts keyword_parts_of
  more-parts n e ps h k zero ts few free = absurd (omega arith)
  more-parts n e ps h k (suc m) ts few free =
      let behind : List Token = parts_toks ps ++ ts in
      let f : (Expression × List Token) → Read (List (Name × Expression)) = λ r. in_front ((n, r.0) ∷ []) (keyword_parts_of group inner m r.1) in
      ap (λ (l : List Token). keyword_parts_of group inner (suc m) (Token.keyword n ∷ l)) (append_assoc (toks e) (parts_toks ps) ts) ∙ ap (option_and_then f) (h behind (binary-unary behind (parts-free ps ts free)) ∙ operations-stop (length behind) e behind (parts-free ps ts free)) ∙ ap (in_front ((n, e) ∷ [])) (k m ts (omega arith) free)

  parts-with : (e : Expression) (ps : Parts) → 1 ≤ count ps → with_parts e (parts_list ps) ≡ send e (keywords ps)
  parts-with e no_parts some = absurd (omega arith)
  parts-with e (part n a ps) some = ap (λ (l : Parts). send e (keywords (part n a l))) (parts-same ps)

  -- a chain of a receiver and a keyword message
  keyword-chain : (e : Expression) (ps : Parts) → ReadsBinary e → ReadsParts ps → 1 ≤ count ps → count ps ≤ 8 → ReadsChain (send e (keywords ps))
  unfolding ReadsBinary ReadsParts ReadsChain chain_of
  keyword-chain e ps h k some few ts free =
      let behind : List Token = parts_toks ps ++ ts in
      let g : Expression → (List (Name × Expression) × List Token) → Read Expression = λ x p. Some (with_parts x p.0, p.1) in
      let f : (Expression × List Token) → Read Expression = λ r. option_and_then (g r.0) (keyword_parts_of group inner 8 r.1) in
      ap (chain_of group inner) (append_assoc (toks e) (parts_toks ps) ts) ∙ ap (option_and_then f) (h behind (binary-unary behind (parts-free ps ts free)) ∙ operations-stop (length behind) e behind (parts-free ps ts free)) ∙ ap (option_and_then (g e)) (k 8 ts few free) ∙ ap (λ (x : Expression). found x ts) (parts-with e ps some)

  -- a chain of a receiver and a last message
  send-chain : (e : Expression) (m : Message) → (level e ≤ 1 → ReadsTerm e) → (level e ≤ 2 → ReadsBinary e) → level e ≤ goes_to m → IsMessage m → ReadsSend m → ReadsChain (send e m)
  unfolding ReadsSend
  send-chain e (unary n) t b l is r = binary-chain (send e (unary n)) (term-binary (send e (unary n)) (unary-term e n (t l)))
  send-chain e (Message.binary s a) t b l is r = binary-chain (send e (Message.binary s a)) (binary-binary e a s (b l) r)
  send-chain e (keywords ps) t b l is r = keyword-chain e ps (b l) r is.0 is.1

  -- ---- messages by themselves

  message-reads : (m : Message) → IsMessage m → ReadsSend m → ReadsMessage m
  unfolding ReadsSend ReadsMessage ReadsTerm ReadsParts message_of
  message-reads (unary n) is r ts free = refl
  message-reads (Message.binary n a) is r ts free =
      let f : (Expression × List Token) → Read Message = λ x. Some (Message.binary n x.0, x.1) in
      ap (option_and_then f) (r ts) ∙ ap f (unaries-stop a ts (binary-unary ts (message-binary ts free)))
  message-reads (keywords no_parts) is r ts free = absurd (omega (arith, is.0))
  message-reads (keywords (part n e ps)) is r ts free =
      let f : (List (Name × Expression) × List Token) → Read Message = λ x. Some (keywords (parts_of x.0), x.1) in
      ap (option_and_then f) (r 8 ts is.1 free) ∙ ap (λ (l : Parts). found (keywords (part n e l)) ts) (parts-same ps)

  further-free : (ms : Further) (ts : List Token) → Ends ts → NoMessage (further_toks ms ++ ts)
  unfolding NoMessage
  further-free no_further ts free = ends-message ts free
  further-free (further place m ms) ts free = tt

  no-more-further : ReadsFurther no_further
  unfolding ReadsFurther
  no-more-further n ts long free = further-stop n ts free

  more-further : (place : Span) (m : Message) (ms : Further) → ReadsMessage m → ReadsFurther ms → ReadsFurther (further place m ms)
  unfolding ReadsMessage ReadsFurther further_messages_of
  more-further place m ms h k zero ts long free = absurd (omega arith)
  more-further place m ms h k (suc n) ts long free =
      let behind : List Token = further_toks ms ++ ts in
      let f : (Message × List Token) → Read (List (Span × Message)) = λ r. in_front ((place, r.0) ∷ []) (further_messages_of group inner n r.1) in
      let all : (message_toks m ++ further_toks ms) ++ ts ≡ message_toks m ++ behind = append_assoc (message_toks m) (further_toks ms) ts in
      let size : length ((message_toks m ++ further_toks ms) ++ ts) ≡ length (message_toks m) + length behind = ap length all ∙ length-append (message_toks m) behind in
      ap (λ (l : List Token). option_and_then f (message_of group inner l)) all ∙ ap (option_and_then f) (h behind (further-free ms ts free)) ∙ ap (in_front ((place, m) ∷ [])) (k n ts (omega (arith, long, size)) free)

  further-with : (e : Expression) (m : Message) (ms : Further) → IsSome ms → with_further (send e m) (further_list ms) ≡ Some (cascade e m ms)
  further-with e m no_further some = absurd some
  further-with e m (further place n ms) some = ap (λ (l : Further). some_of (cascade e m (further place n l))) (further-same ms)
    where
      some_of : Expression → Option Expression
      some_of x = Some x

  cascade-value : (e : Expression) (m : Message) (ms : Further) → ReadsChain (send e m) → ReadsFurther ms → IsSome ms → ReadsValue (cascade e m ms)
  unfolding ReadsChain ReadsFurther ReadsValue value_of
  cascade-value e m ms h k some ts free =
      let behind : List Token = further_toks ms ++ ts in
      let g : Expression → (List (Span × Message) × List Token) → Read Expression = λ x p. option_map (with_tokens p.1) (with_further x p.0) in
      let f : (Expression × List Token) → Read Expression = λ r. option_and_then (g r.0) (further_messages_of group inner (length r.1) r.1) in
      let all : (toks e ++ (message_toks m ++ further_toks ms)) ++ ts ≡ (toks e ++ message_toks m) ++ behind = ap (λ (l : List Token). l ++ ts) (sym (append_assoc (toks e) (message_toks m) (further_toks ms))) ∙ append_assoc (toks e ++ message_toks m) (further_toks ms) ts in
      ap (value_of group inner) all ∙ ap (option_and_then f) (h behind (further-free ms ts free)) ∙ ap (option_and_then (g (send e m))) (k (length behind) ts (omega arith) free) ∙ ap (option_map (with_tokens ts)) (further-with e m ms some)

  -- ---- expressions

  ReadsExpression : Expression → Type 0
  ReadsExpression e = (ts : List Token) → Ends ts → expression_with group inner (toks e ++ ts) ≡ found e ts

  value-expression : (e : Expression) → ((ts : List Token) → NoAssign ts → targets_of (toks e ++ ts) ≡ ([], toks e ++ ts)) → ReadsValue e → ReadsExpression e
  unfolding ReadsValue ReadsExpression expression_with
  value-expression e none h ts free =
      let f : (List Target × List Token) → Read Expression = λ p. option_map (λ (r : Expression × List Token). (assigns p.0 r.0, r.1)) (value_of group inner p.1) in
      ap f (none ts (ends-assign ts free)) ∙ ap (option_map (λ (r : Expression × List Token). (assigns [] r.0, r.1))) (h ts free)

  assign-one : (n : Name) (place : Span) → (Expression × List Token) → (Expression × List Token)
  assign-one n place r = (Expression.assign n place r.0, r.1)

  assigned : (n : Name) (place : Span) (targets : List Target) (o : Read Expression) → option_map (λ (r : Expression × List Token). (assigns ((record { name = n; assign = place }) ∷ targets) r.0, r.1)) o ≡ option_map (assign-one n place) (option_map (λ (r : Expression × List Token). (assigns targets r.0, r.1)) o)
  unfolding assign-one
  assigned n place targets None = refl
  assigned n place targets (Some r) = refl

  assign-expression : (n : Name) (place : Span) (e : Expression) → ReadsExpression e → ReadsExpression (Expression.assign n place e)
  unfolding ReadsExpression expression_with targets_of assign-one
  assign-expression n place e h ts free = assigned n place (targets_of (toks e ++ ts)).0 (value_of group inner (targets_of (toks e ++ ts)).1) ∙ ap (option_map (assign-one n place)) (h ts free)

  -- ---- what is known of an expression

  record Facts (e : Expression) : Type 0 where
    term : level e ≤ 1 → ReadsTerm e
    binary : level e ≤ 2 → ReadsBinary e
    expression : ReadsExpression e

  NoTargets : Expression → Type 0
  NoTargets e = (ts : List Token) → NoAssign ts → targets_of (toks e ++ ts) ≡ ([], toks e ++ ts)

  term-facts : (e : Expression) → NoTargets e → ReadsTerm e → Facts e
  unfolding NoTargets
  term-facts e none h = record { term = λ l. h; binary = λ l. term-binary e h; expression = value-expression e none (chain-value e (binary-chain e (term-binary e h))) }

  binary-facts : (e : Expression) → NoTargets e → 1 < level e → ReadsBinary e → Facts e
  unfolding NoTargets
  binary-facts e none high h = record { term = λ l. absurd (omega arith); binary = λ l. h; expression = value-expression e none (chain-value e (binary-chain e h)) }

  chain-facts : (e : Expression) → NoTargets e → 2 < level e → ReadsChain e → Facts e
  unfolding NoTargets
  chain-facts e none high h = record { term = λ l. absurd (omega arith); binary = λ l. absurd (omega arith); expression = value-expression e none (chain-value e h) }

  value-facts : (e : Expression) → NoTargets e → 2 < level e → ReadsValue e → Facts e
  unfolding NoTargets
  value-facts e none high h = record { term = λ l. absurd (omega arith); binary = λ l. absurd (omega arith); expression = value-expression e none h }

  assign-facts : (n : Name) (place : Span) (e : Expression) → Facts e → Facts (Expression.assign n place e)
  assign-facts n place e h = record { term = λ l. absurd (omega arith); binary = λ l. absurd (omega arith); expression = assign-expression n place e h.expression }

  send-facts : (e : Expression) (m : Message) → NoTargets (send e m) → Facts e → level e ≤ goes_to m → IsMessage m → ReadsSend m → Facts (send e m)
  unfolding ReadsSend
  send-facts e (unary n) none h l is r = term-facts (send e (unary n)) none (unary-term e n (h.term l))
  send-facts e (Message.binary s a) none h l is r = binary-facts (send e (Message.binary s a)) none (omega arith) (binary-binary e a s (h.binary l) r)
  send-facts e (keywords ps) none h l is r = chain-facts (send e (keywords ps)) none (omega arith) (keyword-chain e ps (h.binary l) r is.0 is.1)

  cascade-facts : (e : Expression) (m : Message) (ms : Further) → NoTargets (cascade e m ms) → Facts e → level e ≤ goes_to m → IsMessage m → ReadsSend m → IsSome ms → ReadsFurther ms → Facts (cascade e m ms)
  cascade-facts e m ms none h l is r some k = value-facts (cascade e m ms) none (omega arith) (cascade-value e m ms (send-chain e m h.term h.binary l is r) k some)

-- ---- how expressions begin

message-no-assign : (m : Message) (ts : List Token) → IsMessage m → NoAssign (message_toks m ++ ts)
unfolding NoAssign
message-no-assign (unary n) ts is = tt
message-no-assign (Message.binary n e) ts is = tt
message-no-assign (keywords no_parts) ts is = absurd (omega (arith, is.0))
message-no-assign (keywords (part n e ps)) ts is = tt

no-targets : (e : Expression) → IsExpression e → level e ≤ 4 → (ts : List Token) → NoAssign ts → targets_of (toks e ++ ts) ≡ ([], toks e ++ ts)
unfolding targets_of
no-targets (Expression.number value place None) is low ts free = refl
no-targets (Expression.number value place (Some minus)) is low ts free = refl
no-targets (Expression.symbol n) is low ts free = refl
no-targets (name n) is low ts free = targets-stop n ts free
no-targets (parenthesis opening e closing) is low ts free = refl
no-targets (empty_block opening closing) is low ts free = refl
no-targets (block opening ss closing) is low ts free = refl
no-targets (send e m) is low ts free =
    let all : (toks e ++ message_toks m) ++ ts ≡ toks e ++ (message_toks m ++ ts) = append_assoc (toks e) (message_toks m) ts in
    let few : goes_to m ≤ 2 = goes m in
    ap targets_of all ∙ no-targets e is.0 (omega (arith, is.1, few)) (message_toks m ++ ts) (message-no-assign m ts is.2) ∙ ap (λ (l : List Token). none_before l) (sym all)
  where
    none_before : List Token → List Target × List Token
    none_before l = ([], l)

    goes : (m : Message) → goes_to m ≤ 2
    goes (unary n) = omega arith
    goes (Message.binary n a) = omega arith
    goes (keywords ps) = omega arith
no-targets (cascade e m ms) is low ts free =
    let all : (toks e ++ (message_toks m ++ further_toks ms)) ++ ts ≡ toks e ++ (message_toks m ++ (further_toks ms ++ ts)) = append_assoc (toks e) (message_toks m ++ further_toks ms) ts ∙ ap (λ (l : List Token). toks e ++ l) (append_assoc (message_toks m) (further_toks ms) ts) in
    let few : goes_to m ≤ 2 = goes m in
    ap targets_of all ∙ no-targets e is.0 (omega (arith, is.1, few)) (message_toks m ++ (further_toks ms ++ ts)) (message-no-assign m (further_toks ms ++ ts) is.2) ∙ ap (λ (l : List Token). none_before l) (sym all)
  where
    none_before : List Token → List Target × List Token
    none_before l = ([], l)

    goes : (m : Message) → goes_to m ≤ 2
    goes (unary n) = omega arith
    goes (Message.binary n a) = omega arith
    goes (keywords ps) = omega arith
no-targets (Expression.assign n place e) is low ts free = absurd (omega arith)

-- an expression is at the front: no end of statements, no caret
Begins : List Token → Type 0
Begins [] = ⊥
Begins (Token.mark CloseBlock place ∷ ts) = ⊥
Begins (Token.mark Caret place ∷ ts) = ⊥
Begins ts = Unit {0}

begins : (e : Expression) (ts : List Token) → Begins (toks e ++ ts)
unfolding Begins
begins (Expression.number value place None) ts = tt
begins (Expression.number value place (Some minus)) ts = tt
begins (Expression.symbol n) ts = tt
begins (name n) ts = tt
begins (parenthesis opening e closing) ts = tt
begins (empty_block opening closing) ts = tt
begins (block opening ss closing) ts = tt
begins (send e m) ts = subst Begins (sym (append_assoc (toks e) (message_toks m) ts)) (begins e (message_toks m ++ ts))
begins (cascade e m ms) ts = subst Begins (sym (append_assoc (toks e) (message_toks m ++ further_toks ms) ts)) (begins e ((message_toks m ++ further_toks ms) ++ ts))
begins (Expression.assign n place e) ts = tt

begins-end : (ts : List Token) → Begins ts → is_end ts ≡ false
unfolding Begins
begins-end [] h = absurd h
begins-end (Token.mark OpenParenthesis place ∷ ts) h = refl
begins-end (Token.mark CloseParenthesis place ∷ ts) h = refl
begins-end (Token.mark OpenBlock place ∷ ts) h = refl
begins-end (Token.mark CloseBlock place ∷ ts) h = absurd h
begins-end (Token.mark Caret place ∷ ts) h = refl
begins-end (Token.mark Period place ∷ ts) h = refl
begins-end (Token.mark Semicolon place ∷ ts) h = refl
begins-end (Token.mark Bar place ∷ ts) h = refl
begins-end (Token.identifier m ∷ ts) h = refl
begins-end (Token.keyword m ∷ ts) h = refl
begins-end (Token.assign place ∷ ts) h = refl
begins-end (Token.binary m ∷ ts) h = refl
begins-end (Token.number m place ∷ ts) h = refl
begins-end (Token.symbol m ∷ ts) h = refl

statements-no-end : (ss : Statements) (ts : List Token) → is_end (statements_toks ss ++ ts) ≡ false
statements-no-end (last e period) ts = begins-end ((toks e ++ period_toks period) ++ ts) (subst Begins (sym (append_assoc (toks e) (period_toks period) ts)) (begins e (period_toks period ++ ts)))
statements-no-end (answer caret e period) ts = refl
statements-no-end (statement e period ss) ts = begins-end ((toks e ++ Token.mark Period period ∷ statements_toks ss) ++ ts) (subst Begins (sym (append_assoc (toks e) (Token.mark Period period ∷ statements_toks ss) ts)) (begins e (Token.mark Period period ∷ (statements_toks ss ++ ts))))

end-ends : (ts : List Token) → is_end ts ≡ true → Ends ts
unfolding Ends
end-ends [] h = tt
end-ends (Token.mark CloseBlock place ∷ ts) h = tt
end-ends (Token.mark OpenParenthesis place ∷ ts) h = absurd cc
end-ends (Token.mark CloseParenthesis place ∷ ts) h = tt
end-ends (Token.mark OpenBlock place ∷ ts) h = absurd cc
end-ends (Token.mark Caret place ∷ ts) h = absurd cc
end-ends (Token.mark Period place ∷ ts) h = tt
end-ends (Token.mark Semicolon place ∷ ts) h = absurd cc
end-ends (Token.mark Bar place ∷ ts) h = absurd cc
end-ends (Token.identifier m ∷ ts) h = absurd cc
end-ends (Token.keyword m ∷ ts) h = absurd cc
end-ends (Token.assign place ∷ ts) h = absurd cc
end-ends (Token.binary m ∷ ts) h = absurd cc
end-ends (Token.number m place ∷ ts) h = absurd cc
end-ends (Token.symbol m ∷ ts) h = absurd cc

period-ends : (place : Span) (ts : List Token) → Ends (Token.mark Period place ∷ ts)
unfolding Ends
period-ends place ts = tt

-- ---- statements

module _ (expression : Parse Expression) where
  -- where an expression is read
  ReadsBy : Expression → Type 0
  ReadsBy e = (ts : List Token) → Ends ts → expression (toks e ++ ts) ≡ found e ts

  ReadsStatements : Statements → Type 0
  ReadsStatements ss = (n : ℕ) (ts : List Token) → length (statements_toks ss ++ ts) ≤ n → is_end ts ≡ true → statements_with expression n (statements_toks ss ++ ts) ≡ found ss ts

  -- what follows an expression
  abbrev next_statement : ℕ → (Expression × List Token) → Read Statements
  next_statement n r = statement_of (statements_with expression n) r.0 r.1

  plain-statement : (n : ℕ) (ts : List Token) → Begins ts → statements_with expression (suc n) ts ≡ option_and_then (next_statement n) (expression ts)
  unfolding statements_with Begins
  plain-statement n [] h = absurd h
  plain-statement n (Token.mark OpenParenthesis place ∷ ts) h = refl
  plain-statement n (Token.mark CloseParenthesis place ∷ ts) h = refl
  plain-statement n (Token.mark OpenBlock place ∷ ts) h = refl
  plain-statement n (Token.mark CloseBlock place ∷ ts) h = absurd h
  plain-statement n (Token.mark Caret place ∷ ts) h = absurd h
  plain-statement n (Token.mark Period place ∷ ts) h = refl
  plain-statement n (Token.mark Semicolon place ∷ ts) h = refl
  plain-statement n (Token.mark Bar place ∷ ts) h = refl
  plain-statement n (Token.identifier m ∷ ts) h = refl
  plain-statement n (Token.keyword m ∷ ts) h = refl
  plain-statement n (Token.assign place ∷ ts) h = refl
  plain-statement n (Token.binary m ∷ ts) h = refl
  plain-statement n (Token.number m place ∷ ts) h = refl
  plain-statement n (Token.symbol m ∷ ts) h = refl

  last-at-end : (more : Parse Statements) (e : Expression) (ts : List Token) → is_end ts ≡ true → statement_of more e ts ≡ found (last e None) ts
  last-at-end more e [] h = refl
  last-at-end more e (Token.mark CloseBlock place ∷ ts) h = refl
  last-at-end more e (Token.mark OpenParenthesis place ∷ ts) h = absurd cc
  last-at-end more e (Token.mark CloseParenthesis place ∷ ts) h = absurd cc
  last-at-end more e (Token.mark OpenBlock place ∷ ts) h = absurd cc
  last-at-end more e (Token.mark Caret place ∷ ts) h = absurd cc
  last-at-end more e (Token.mark Period place ∷ ts) h = absurd cc
  last-at-end more e (Token.mark Semicolon place ∷ ts) h = absurd cc
  last-at-end more e (Token.mark Bar place ∷ ts) h = absurd cc
  last-at-end more e (Token.identifier m ∷ ts) h = absurd cc
  last-at-end more e (Token.keyword m ∷ ts) h = absurd cc
  last-at-end more e (Token.assign place ∷ ts) h = absurd cc
  last-at-end more e (Token.binary m ∷ ts) h = absurd cc
  last-at-end more e (Token.number m place ∷ ts) h = absurd cc
  last-at-end more e (Token.symbol m ∷ ts) h = absurd cc

  answered-at-end : (caret : Span) (e : Expression) (ts : List Token) → is_end ts ≡ true → answered caret e ts ≡ (answer caret e None, ts)
  answered-at-end caret e [] h = refl
  answered-at-end caret e (Token.mark CloseBlock place ∷ ts) h = refl
  answered-at-end caret e (Token.mark OpenParenthesis place ∷ ts) h = absurd cc
  answered-at-end caret e (Token.mark CloseParenthesis place ∷ ts) h = absurd cc
  answered-at-end caret e (Token.mark OpenBlock place ∷ ts) h = absurd cc
  answered-at-end caret e (Token.mark Caret place ∷ ts) h = absurd cc
  answered-at-end caret e (Token.mark Period place ∷ ts) h = absurd cc
  answered-at-end caret e (Token.mark Semicolon place ∷ ts) h = absurd cc
  answered-at-end caret e (Token.mark Bar place ∷ ts) h = absurd cc
  answered-at-end caret e (Token.identifier m ∷ ts) h = absurd cc
  answered-at-end caret e (Token.keyword m ∷ ts) h = absurd cc
  answered-at-end caret e (Token.assign place ∷ ts) h = absurd cc
  answered-at-end caret e (Token.binary m ∷ ts) h = absurd cc
  answered-at-end caret e (Token.number m place ∷ ts) h = absurd cc
  answered-at-end caret e (Token.symbol m ∷ ts) h = absurd cc

  if-true : {A : Type 0} (b : Bool) (x y : A) → b ≡ true → cond b x y ≡ x
  if-true true x y e = refl
  if-true false x y e = absurd cc

  if-false : {A : Type 0} (b : Bool) (x y : A) → b ≡ false → cond b x y ≡ y
  if-false true x y e = absurd cc
  if-false false x y e = refl

  -- a statement in front of those that were read
  abbrev sentence : Expression → Span → (Statements × List Token) → (Statements × List Token)
  sentence e place r = (statement e place r.0, r.1)

  -- some tokens need a bound that is not 0
  bound : (ts : List Token) (n : ℕ) → Begins ts → length ts ≤ n → 0 < n
  unfolding Begins
  bound [] n h long = absurd h
  bound (t ∷ ts) n h long = omega (arith, long)

  last-statements : (e : Expression) (period : Option Span) → ReadsBy e → ReadsStatements (last e period)
  unfolding ReadsBy ReadsStatements
  last-statements e None h zero ts long end =
      let all : (toks e ++ []) ++ ts ≡ toks e ++ ts = append_assoc (toks e) [] ts in
      let some = bound (toks e ++ ts) zero (begins e ts) (subst (λ (l : List Token). length l ≤ 0) all long) in absurd (omega (arith, some))
  last-statements e None h (suc n) ts long end =
      let all : (toks e ++ []) ++ ts ≡ toks e ++ ts = append_assoc (toks e) [] ts in
      ap (statements_with expression (suc n)) all ∙ plain-statement n (toks e ++ ts) (begins e ts) ∙ ap (option_and_then (next_statement n)) (h ts (end-ends ts end)) ∙ last-at-end (statements_with expression n) e ts end
  last-statements e (Some place) h zero ts long end =
      let all : (toks e ++ Token.mark Period place ∷ []) ++ ts ≡ toks e ++ Token.mark Period place ∷ ts = append_assoc (toks e) (Token.mark Period place ∷ []) ts in
      let some = bound (toks e ++ Token.mark Period place ∷ ts) zero (begins e (Token.mark Period place ∷ ts)) (subst (λ (l : List Token). length l ≤ 0) all long) in absurd (omega (arith, some))
  last-statements e (Some place) h (suc n) ts long end =
      let behind : List Token = Token.mark Period place ∷ ts in
      let all : (toks e ++ Token.mark Period place ∷ []) ++ ts ≡ toks e ++ behind = append_assoc (toks e) (Token.mark Period place ∷ []) ts in
      ap (statements_with expression (suc n)) all ∙ plain-statement n (toks e ++ behind) (begins e behind) ∙ ap (option_and_then (next_statement n)) (h behind (period-ends place ts)) ∙ if-true (is_end ts) (found (last e (Some place)) ts) (option_map (sentence e place) (statements_with expression n ts)) end

  answer-statements : (caret : Span) (e : Expression) (period : Option Span) → ReadsBy e → ReadsStatements (answer caret e period)
  unfolding ReadsBy ReadsStatements statements_with
  answer-statements caret e period h zero ts long end = absurd (omega (arith, long))
  answer-statements caret e None h (suc n) ts long end =
      let f : (Expression × List Token) → (Statements × List Token) = λ r. answered caret r.0 r.1 in
      ap (λ (l : List Token). option_map f (expression l)) (append_assoc (toks e) [] ts) ∙ ap (option_map f) (h ts (end-ends ts end)) ∙ ap some_of (answered-at-end caret e ts end)
    where
      some_of : (Statements × List Token) → Read Statements
      some_of r = Some r
  answer-statements caret e (Some place) h (suc n) ts long end =
      let f : (Expression × List Token) → (Statements × List Token) = λ r. answered caret r.0 r.1 in
      ap (λ (l : List Token). option_map f (expression l)) (append_assoc (toks e) (Token.mark Period place ∷ []) ts) ∙ ap (option_map f) (h (Token.mark Period place ∷ ts) (period-ends place ts))

  more-statements : (e : Expression) (place : Span) (ss : Statements) → ReadsBy e → ReadsStatements ss → ReadsStatements (statement e place ss)
  unfolding ReadsBy ReadsStatements
  more-statements e place ss h k zero ts long end =
      let behind : List Token = Token.mark Period place ∷ (statements_toks ss ++ ts) in
      let all : (toks e ++ Token.mark Period place ∷ statements_toks ss) ++ ts ≡ toks e ++ behind = append_assoc (toks e) (Token.mark Period place ∷ statements_toks ss) ts in
      let some = bound (toks e ++ behind) zero (begins e behind) (subst (λ (l : List Token). length l ≤ 0) all long) in absurd (omega (arith, some))
  more-statements e place ss h k (suc n) ts long end =
      let more : List Token = statements_toks ss ++ ts in
      let behind : List Token = Token.mark Period place ∷ more in
      let all : (toks e ++ Token.mark Period place ∷ statements_toks ss) ++ ts ≡ toks e ++ behind = append_assoc (toks e) (Token.mark Period place ∷ statements_toks ss) ts in
      let size : length ((toks e ++ Token.mark Period place ∷ statements_toks ss) ++ ts) ≡ length (toks e) + length behind = ap length all ∙ length-append (toks e) behind in
      ap (statements_with expression (suc n)) all ∙ plain-statement n (toks e ++ behind) (begins e behind) ∙ ap (option_and_then (next_statement n)) (h behind (period-ends place more)) ∙ if-false (is_end more) (found (last e (Some place)) more) (option_map (sentence e place) (statements_with expression n more)) (statements-no-end ss ts) ∙ ap (option_map (sentence e place)) (k n ts (omega (arith, long, size)) end)

  -- ---- what stands in brackets

  group-reads : (opening closing : Span) (e : Expression) → ReadsBy e → (ts : List Token) → group_with expression opening ((toks e ++ Token.mark CloseParenthesis closing ∷ []) ++ ts) ≡ found (parenthesis opening e closing) ts
  unfolding ReadsBy group_with Ends
  group-reads opening closing e h ts =
      let f : (Expression × List Token) → Read Expression = λ r. option_and_then (λ (c : Span × List Token). Some (parenthesis opening r.0 c.0, c.1)) (parenthesis_end r.1) in
      ap (λ (l : List Token). option_and_then f (expression l)) (append_assoc (toks e) (Token.mark CloseParenthesis closing ∷ []) ts) ∙ ap (option_and_then f) (h (Token.mark CloseParenthesis closing ∷ ts) tt)

  no-empty : (opening : Span) (ts : List Token) → is_end ts ≡ false → block_with expression opening ts ≡ filled_block_with expression opening ts
  unfolding block_with
  no-empty opening [] h = refl
  no-empty opening (Token.mark CloseBlock place ∷ ts) h = absurd cc
  no-empty opening (Token.mark OpenParenthesis place ∷ ts) h = refl
  no-empty opening (Token.mark CloseParenthesis place ∷ ts) h = refl
  no-empty opening (Token.mark OpenBlock place ∷ ts) h = refl
  no-empty opening (Token.mark Caret place ∷ ts) h = refl
  no-empty opening (Token.mark Period place ∷ ts) h = refl
  no-empty opening (Token.mark Semicolon place ∷ ts) h = refl
  no-empty opening (Token.mark Bar place ∷ ts) h = refl
  no-empty opening (Token.identifier m ∷ ts) h = refl
  no-empty opening (Token.keyword m ∷ ts) h = refl
  no-empty opening (Token.assign place ∷ ts) h = refl
  no-empty opening (Token.binary m ∷ ts) h = refl
  no-empty opening (Token.number m place ∷ ts) h = refl
  no-empty opening (Token.symbol m ∷ ts) h = refl

  block-reads : (opening closing : Span) (ss : Statements) → ReadsStatements ss → (ts : List Token) → block_with expression opening ((statements_toks ss ++ Token.mark CloseBlock closing ∷ []) ++ ts) ≡ found (block opening ss closing) ts
  unfolding ReadsStatements filled_block_with
  block-reads opening closing ss h ts =
      let behind : List Token = Token.mark CloseBlock closing ∷ ts in
      let f : (Statements × List Token) → Read Expression = λ r. option_and_then (λ (c : Span × List Token). Some (block opening r.0 c.0, c.1)) (block_end r.1) in
      ap (block_with expression opening) (append_assoc (statements_toks ss) (Token.mark CloseBlock closing ∷ []) ts) ∙ no-empty opening (statements_toks ss ++ behind) (statements-no-end ss behind) ∙ ap (option_and_then f) (h (length (statements_toks ss ++ behind)) behind (omega arith) refl)

-- ---- operands

-- a test that holds
holds : {A : Type 0} (b : Bool) (x y : A) → b ≡ true → cond b x y ≡ x
holds true x y e = refl
holds false x y e = absurd cc

positive-read : (n : ℕ) (place : Span) → n < 2 ^ 63 → literal_of None n place ≡ Some (Expression.number (pos n) place None)
positive-read n place small = holds (nat_lt n (2 ^ 63)) (Some (Expression.number (pos n) place None)) None (lt-ltb n (2 ^ 63) small)

minus-read : (minus : Span) (n : ℕ) (place : Span) (ts : List Token) → n ≤ 2 ^ 63 → minus.end ≡ place.start → negative_of minus (Token.number n place ∷ ts) ≡ found (Expression.number (neg_ℤ (pos n)) place (Some minus)) ts
minus-read minus n place ts small near =
    holds (minus.end == place.start) (option_map (with_tokens ts) (literal_of (Some minus) n place)) None (eq-eqb minus.end place.start near)
    ∙ ap (option_map (with_tokens ts)) (holds (nat_le n (2 ^ 63)) (Some (Expression.number (neg_ℤ (pos n)) place (Some minus))) None (le-leb n (2 ^ 63) small))

number-reads : (group inner : Span → Parse Expression) (groups : (place : Span) → Keeps (group place)) (inners : (place : Span) → Keeps (inner place)) (value : ℤ) (place : Span) (minus : Option Span) → NumberFits value place minus → ReadsOperand group inner groups inners (Expression.number value place minus)
unfolding ReadsOperand
number-reads group inner groups inners (pos n) place None fits ts = ap (option_map (with_tokens ts)) (positive-read n place fits)
number-reads group inner groups inners (negsuc n) place None fits ts = absurd fits
number-reads group inner groups inners (pos zero) place (Some minus) fits ts = minus-read minus zero place ts (omega arith) fits.1
number-reads group inner groups inners (pos (suc n)) place (Some minus) fits ts = let h = fits.0 in absurd (omega arith)
number-reads group inner groups inners (negsuc n) place (Some minus) fits ts = let h = fits.0 in minus-read minus (suc n) place ts (omega arith) fits.1

-- ---- all trees

abbrev FactsAt : ℕ → Expression → Type 0
FactsAt n e = Facts (group_of n) (block_of n) (group_of-keeps n) (block_of-keeps n) e

expression-is : (n : ℕ) → expression_of n ≡ expression_with (group_of n) (block_of n)
unfolding expression_of
expression-is zero = refl
expression-is (suc n) = refl

reads-by : (n : ℕ) (e : Expression) → FactsAt n e → ReadsBy (expression_of n) e
unfolding ReadsBy ReadsExpression
reads-by n e h ts free = ap (λ (p : Parse Expression). p (toks e ++ ts)) (expression-is n) ∙ h.expression ts free

left : (a b n : ℕ) → max a b ≤ n → a ≤ n
left a b n h = let k = le-max_left a b in omega (arith, h, k)

right : (a b n : ℕ) → max a b ≤ n → b ≤ n
right a b n h = let k = le-max_right a b in omega (arith, h, k)

send-low : (e : Expression) (m : Message) → level (send e m) ≤ 4
send-low e (unary n) = omega arith
send-low e (Message.binary n a) = omega arith
send-low e (keywords ps) = omega arith

-- an operand's facts
operand-facts : (n : ℕ) (e : Expression) → IsExpression e → level e ≤ 4 → ReadsOperand (group_of n) (block_of n) (group_of-keeps n) (block_of-keeps n) e → FactsAt n e
unfolding NoTargets
operand-facts n e is low h = term-facts (group_of n) (block_of n) (group_of-keeps n) (block_of-keeps n) e (no-targets e is low) (operand-term (group_of n) (block_of n) (group_of-keeps n) (block_of-keeps n) e h)

symbol-reads : (n : ℕ) (x : Name) → ReadsOperand (group_of n) (block_of n) (group_of-keeps n) (block_of-keeps n) (Expression.symbol x)
unfolding ReadsOperand
symbol-reads n x ts = refl

name-reads : (n : ℕ) (x : Name) → ReadsOperand (group_of n) (block_of n) (group_of-keeps n) (block_of-keeps n) (name x)
unfolding ReadsOperand
name-reads n x ts = refl

parenthesis-reads : (n : ℕ) (opening closing : Span) (e : Expression) → FactsAt n e → ReadsOperand (group_of (suc n)) (block_of (suc n)) (group_of-keeps (suc n)) (block_of-keeps (suc n)) (parenthesis opening e closing)
unfolding ReadsOperand
parenthesis-reads n opening closing e h ts = group-reads (expression_of n) opening closing e (reads-by n e h) ts

empty-reads : (n : ℕ) (opening closing : Span) → ReadsOperand (group_of (suc n)) (block_of (suc n)) (group_of-keeps (suc n)) (block_of-keeps (suc n)) (empty_block opening closing)
unfolding ReadsOperand block_with
empty-reads n opening closing ts = refl

filled-reads : (n : ℕ) (opening closing : Span) (ss : Statements) → ReadsStatements (expression_of n) ss → ReadsOperand (group_of (suc n)) (block_of (suc n)) (group_of-keeps (suc n)) (block_of-keeps (suc n)) (block opening ss closing)
unfolding ReadsOperand
filled-reads n opening closing ss h ts = block-reads (expression_of n) opening closing ss h ts

mutual
  unfolding ReadsSend NoTargets

  expression-facts : (e : Expression) (n : ℕ) → IsExpression e → nesting e ≤ n → FactsAt n e
  expression-facts (Expression.number value place minus) n is deep = operand-facts n (Expression.number value place minus) is (omega arith) (number-reads (group_of n) (block_of n) (group_of-keeps n) (block_of-keeps n) value place minus is)
  expression-facts (Expression.symbol x) n is deep = operand-facts n (Expression.symbol x) is (omega arith) (symbol-reads n x)
  expression-facts (name x) n is deep = operand-facts n (name x) is (omega arith) (name-reads n x)
  expression-facts (parenthesis opening e closing) zero is deep = absurd (omega arith)
  expression-facts (parenthesis opening e closing) (suc n) is deep = operand-facts (suc n) (parenthesis opening e closing) is (omega arith) (parenthesis-reads n opening closing e (expression-facts e n is (omega (arith, deep))))
  expression-facts (empty_block opening closing) zero is deep = absurd (omega arith)
  expression-facts (empty_block opening closing) (suc n) is deep = operand-facts (suc n) (empty_block opening closing) is (omega arith) (empty-reads n opening closing)
  expression-facts (block opening ss closing) zero is deep = absurd (omega arith)
  expression-facts (block opening ss closing) (suc n) is deep = operand-facts (suc n) (block opening ss closing) is (omega arith) (filled-reads n opening closing ss (statements-facts ss n is (omega (arith, deep))))
  expression-facts (send e m) n is deep = send-facts (group_of n) (block_of n) (group_of-keeps n) (block_of-keeps n) e m (no-targets (send e m) is (send-low e m)) (expression-facts e n is.0 (left (nesting e) (message_nesting m) n deep)) is.1 is.2 (message-facts m n is.2 (right (nesting e) (message_nesting m) n deep))
  expression-facts (cascade e m ms) n is deep =
      let deeper = right (nesting e) (max (message_nesting m) (further_nesting ms)) n deep in
      cascade-facts (group_of n) (block_of n) (group_of-keeps n) (block_of-keeps n) e m ms (no-targets (cascade e m ms) is (omega arith)) (expression-facts e n is.0 (left (nesting e) (max (message_nesting m) (further_nesting ms)) n deep)) is.1 is.2 (message-facts m n is.2 (left (message_nesting m) (further_nesting ms) n deeper)) is.3 (further-facts ms n is.4 (right (message_nesting m) (further_nesting ms) n deeper))
  expression-facts (Expression.assign x place e) n is deep = assign-facts (group_of n) (block_of n) (group_of-keeps n) (block_of-keeps n) x place e (expression-facts e n is deep)

  message-facts : (m : Message) (n : ℕ) → IsMessage m → message_nesting m ≤ n → ReadsSend (group_of n) (block_of n) (group_of-keeps n) (block_of-keeps n) m
  message-facts (unary x) n is deep = tt
  message-facts (Message.binary x e) n is deep = (expression-facts e n is.1 deep).term is.0
  message-facts (keywords ps) n is deep = parts-facts ps n is.2 deep

  parts-facts : (ps : Parts) (n : ℕ) → AreParts ps → parts_nesting ps ≤ n → ReadsParts (group_of n) (block_of n) (group_of-keeps n) (block_of-keeps n) ps
  parts-facts no_parts n is deep = no-part (group_of n) (block_of n) (group_of-keeps n) (block_of-keeps n)
  parts-facts (part x e ps) n is deep = more-parts (group_of n) (block_of n) (group_of-keeps n) (block_of-keeps n) x e ps ((expression-facts e n is.1 (left (nesting e) (parts_nesting ps) n deep)).binary is.0) (parts-facts ps n is.2 (right (nesting e) (parts_nesting ps) n deep))

  further-facts : (ms : Further) (n : ℕ) → AreFurther ms → further_nesting ms ≤ n → ReadsFurther (group_of n) (block_of n) (group_of-keeps n) (block_of-keeps n) ms
  further-facts no_further n is deep = no-more-further (group_of n) (block_of n) (group_of-keeps n) (block_of-keeps n)
  further-facts (further place m ms) n is deep = more-further (group_of n) (block_of n) (group_of-keeps n) (block_of-keeps n) place m ms (message-reads (group_of n) (block_of n) (group_of-keeps n) (block_of-keeps n) m is.0 (message-facts m n is.0 (left (message_nesting m) (further_nesting ms) n deep))) (further-facts ms n is.1 (right (message_nesting m) (further_nesting ms) n deep))

  statements-facts : (ss : Statements) (n : ℕ) → AreStatements ss → statements_nesting ss ≤ n → ReadsStatements (expression_of n) ss
  statements-facts (last e period) n is deep = last-statements (expression_of n) e period (reads-by n e (expression-facts e n is deep))
  statements-facts (answer caret e period) n is deep = answer-statements (expression_of n) caret e period (reads-by n e (expression-facts e n is deep))
  statements-facts (statement e place ss) n is deep = more-statements (expression_of n) e place ss (reads-by n e (expression-facts e n is.0 (left (nesting e) (statements_nesting ss) n deep))) (statements-facts ss n is.1 (right (nesting e) (statements_nesting ss) n deep))

-- ---- methods

parameters-read : (k : ℕ) (ps : List Parameter) (ts : List Token) → length ps ≤ k → NoKeyword ts → parameters_of k (flat_map parameter_toks ps ++ ts) ≡ found ps ts
unfolding parameters_of NoKeyword
parameters-read zero [] [] few free = refl
parameters-read (suc k) [] [] few free = refl
parameters-read k [] (Token.keyword m ∷ ts) few free = absurd free
parameters-read zero [] (Token.identifier m ∷ ts) few free = refl
parameters-read (suc k) [] (Token.identifier m ∷ ts) few free = refl
parameters-read zero [] (Token.assign place ∷ ts) few free = refl
parameters-read (suc k) [] (Token.assign place ∷ ts) few free = refl
parameters-read zero [] (Token.binary m ∷ ts) few free = refl
parameters-read (suc k) [] (Token.binary m ∷ ts) few free = refl
parameters-read zero [] (Token.number m place ∷ ts) few free = refl
parameters-read (suc k) [] (Token.number m place ∷ ts) few free = refl
parameters-read zero [] (Token.symbol m ∷ ts) few free = refl
parameters-read (suc k) [] (Token.symbol m ∷ ts) few free = refl
parameters-read zero [] (Token.mark m place ∷ ts) few free = refl
parameters-read (suc k) [] (Token.mark m place ∷ ts) few free = refl
parameters-read zero (p ∷ ps) ts few free = absurd (omega arith)
parameters-read (suc k) (p ∷ ps) ts few free = ap (in_front (p ∷ [])) (parameters-read k ps ts (omega arith) free)

pattern-reads : (p : Pattern) (ts : List Token) → IsPattern p → NoKeyword ts → pattern_of (pattern_toks p ++ ts) ≡ found p ts
unfolding pattern_of
pattern-reads (Unary n) ts is free = refl
pattern-reads (Binary n argument) ts is free = refl
pattern-reads (Keyword []) ts is free = absurd (omega (arith, is.0))
pattern-reads (Keyword (p ∷ ps)) ts is free = ap (option_map (λ (r : List Parameter × List Token). (Keyword r.0, r.1))) (parameters-read 8 (p ∷ ps) ts is.1 free)

names-read : (ns : List Name) (ts : List Token) → NoUnary ts → names_of (flat_map name_toks ns ++ ts) ≡ (ns, ts)
unfolding names_of NoUnary
names-read [] [] free = refl
names-read [] (Token.identifier m ∷ ts) free = absurd free
names-read [] (Token.keyword m ∷ ts) free = refl
names-read [] (Token.assign place ∷ ts) free = refl
names-read [] (Token.binary m ∷ ts) free = refl
names-read [] (Token.number m place ∷ ts) free = refl
names-read [] (Token.symbol m ∷ ts) free = refl
names-read [] (Token.mark m place ∷ ts) free = refl
names-read (n ∷ ns) ts free = ap (λ (r : List Name × List Token). (n ∷ r.0, r.1)) (names-read ns ts free)

-- what statements begin with
BodyBegins : List Token → Type 0
BodyBegins (Token.keyword n ∷ ts) = ⊥
BodyBegins (Token.mark Bar place ∷ ts) = ⊥
BodyBegins ts = Unit {0}

first-begins : (e : Expression) (ts : List Token) → BodyBegins (toks e ++ ts)
unfolding BodyBegins
first-begins (Expression.number value place None) ts = tt
first-begins (Expression.number value place (Some minus)) ts = tt
first-begins (Expression.symbol n) ts = tt
first-begins (name n) ts = tt
first-begins (parenthesis opening e closing) ts = tt
first-begins (empty_block opening closing) ts = tt
first-begins (block opening ss closing) ts = tt
first-begins (send e m) ts = subst BodyBegins (sym (append_assoc (toks e) (message_toks m) ts)) (first-begins e (message_toks m ++ ts))
first-begins (cascade e m ms) ts = subst BodyBegins (sym (append_assoc (toks e) (message_toks m ++ further_toks ms) ts)) (first-begins e ((message_toks m ++ further_toks ms) ++ ts))
first-begins (Expression.assign n place e) ts = tt

body-begins : (b : Option Statements) → BodyBegins (body_toks b)
unfolding BodyBegins
body-begins None = tt
body-begins (Some (last e period)) = first-begins e (period_toks period)
body-begins (Some (answer caret e period)) = tt
body-begins (Some (statement e place ss)) = first-begins e (Token.mark Period place ∷ statements_toks ss)

body-keyword : (ts : List Token) → BodyBegins ts → NoKeyword ts
unfolding BodyBegins NoKeyword
body-keyword [] h = tt
body-keyword (Token.keyword m ∷ ts) h = absurd h
body-keyword (Token.identifier m ∷ ts) h = tt
body-keyword (Token.assign place ∷ ts) h = tt
body-keyword (Token.binary m ∷ ts) h = tt
body-keyword (Token.number m place ∷ ts) h = tt
body-keyword (Token.symbol m ∷ ts) h = tt
body-keyword (Token.mark m place ∷ ts) h = tt

temporaries-free : (t : Option Temporaries) (ts : List Token) → BodyBegins ts → NoKeyword (temporaries_toks t ++ ts)
unfolding NoKeyword
temporaries-free None ts h = body-keyword ts h
temporaries-free (Some t) ts h = tt

no-temporaries : (ts : List Token) → BodyBegins ts → temporaries_of ts ≡ found None ts
unfolding BodyBegins temporaries_of
no-temporaries [] h = refl
no-temporaries (Token.keyword m ∷ ts) h = absurd h
no-temporaries (Token.identifier m ∷ ts) h = refl
no-temporaries (Token.assign place ∷ ts) h = refl
no-temporaries (Token.binary m ∷ ts) h = refl
no-temporaries (Token.number m place ∷ ts) h = refl
no-temporaries (Token.symbol m ∷ ts) h = refl
no-temporaries (Token.mark OpenParenthesis place ∷ ts) h = refl
no-temporaries (Token.mark CloseParenthesis place ∷ ts) h = refl
no-temporaries (Token.mark OpenBlock place ∷ ts) h = refl
no-temporaries (Token.mark CloseBlock place ∷ ts) h = refl
no-temporaries (Token.mark Caret place ∷ ts) h = refl
no-temporaries (Token.mark Period place ∷ ts) h = refl
no-temporaries (Token.mark Semicolon place ∷ ts) h = refl
no-temporaries (Token.mark Bar place ∷ ts) h = absurd h

temporaries-read : (t : Option Temporaries) (ts : List Token) → BodyBegins ts → temporaries_of (temporaries_toks t ++ ts) ≡ found t ts
unfolding temporaries_of NoUnary
temporaries-read None ts h = no-temporaries ts h
temporaries-read (Some t) ts h =
    let behind : List Token = Token.mark Bar t.closing ∷ ts in
    let f : (List Name × List Token) → Read (Option Temporaries) = λ r. temporaries_end t.opening r.0 r.1 in
    ap (λ (l : List Token). f (names_of l)) (append_assoc (flat_map name_toks t.names) (Token.mark Bar t.closing ∷ []) ts) ∙ ap f (names-read t.names behind tt)

filled-body : (ts : List Token) → is_end ts ≡ false → body_of ts ≡ option_map (λ ss. Some ss) (option_and_then whole (statements_with (expression_of 64) (length ts) ts))
unfolding body_of
filled-body [] h = absurd cc
filled-body (t ∷ ts) h = refl

body-reads : (b : Option Statements) → IsBody b → body_of (body_toks b) ≡ Some b
unfolding ReadsStatements body_of
body-reads None is = refl
body-reads (Some ss) is =
    let all : statements_toks ss ++ [] ≡ statements_toks ss = append-nil (statements_toks ss) in
    let h = statements-facts ss 64 is.0 is.1 (length (statements_toks ss ++ [])) [] (omega arith) refl in
    ap body_of (sym all) ∙ filled-body (statements_toks ss ++ []) (statements-no-end ss []) ∙ ap (λ (o : Read Statements). option_map (λ ss. Some ss) (option_and_then whole o)) h

pub method_complete : (m : Method) → IsMethod m → method_of (method_toks m) ≡ Some m
unfolding method_of
method_complete m is =
    let body : List Token = body_toks m.body in
    let mid : List Token = temporaries_toks m.temporaries ++ body in
    let h : Pattern → Option Temporaries → Option Statements → Method = λ p t b. record { pattern = p; temporaries = t; body = b } in
    let g : Pattern → (Option Temporaries × List Token) → Option Method = λ p t. option_map (h p t.0) (body_of t.1) in
    let f : (Pattern × List Token) → Option Method = λ p. option_and_then (g p.0) (temporaries_of p.1) in
    ap (option_and_then f) (pattern-reads m.pattern mid is.pattern (temporaries-free m.temporaries body (body-begins m.body))) ∙ ap (option_and_then (g m.pattern)) (temporaries-read m.temporaries body (body-begins m.body)) ∙ ap (option_map (h m.pattern m.temporaries)) (body-reads m.body is.body)
