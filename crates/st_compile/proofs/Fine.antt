-- Each line of a method's code suits its class, and jumps within the code.
use Rattle.std.proofs.Common.{◌≡◌, ℕ, ◌+◌, ◌≤◌, ◌<◌, pos, negsuc, Bool, true, false, ◌&&◌, List, [], ◌∷◌, ◌++◌, length, Option, Some, None, refl, ◌∙◌, length-append, arith}
use Rattle.std.specs.List.{list_all, AllByRecursion}
use Rattle.std.proofs.lemmas.List.Folds.{list_all-append}
use Rattle.std.proofs.lemmas.Bool.{and_parts, and_from, le-leb, lt-ltb}
use Rattle.st_classes.specs.declared.values.Value.{Value}
use Rattle.st_classes.specs.declared.values.Value.TheVariants.{Nil, Bool as Boolean}
use Rattle.st_classes.specs.Selectors.{arity_of}
use Rattle.st_classes.specs.MethodSuits.{is_number, literal_suits}
use Rattle.st_reader.specs.declared.inlining.Inlining.{Inlining}
use Rattle.st_reader.specs.declared.inlining.Inlining.TheVariants.{IfTrue, IfFalse, IfTrueIfFalse, IfFalseIfTrue, And, Or, WhileTrue, WhileFalse}
use Rattle.st_reader.specs.Grammar.{AreFurther, AreParts, AreStatements, IsBody, IsExpression, IsMessage, IsMethod, body_toks, count, further_toks, message_toks, method_toks, parts_toks, pattern_toks, period_toks, statements_toks, temporaries_toks, toks}
use Rattle.st_reader.specs.Inlining.{is_inlined, is_super}
use Rattle.st_reader.specs.Syntax.{Method, Expression, Message, Parts, Further, Statements, parenthesis, empty_block, block, send, cascade, name, unary, keywords, no_parts, part, no_further, further, last, answer, statement}
use Rattle.st_compile.specs.Equations.{joined, to, either, loop, plain, inlined, inlining_of, one_of, kept, code, sent, arguments, blocks, part_blocks, further_sent, statements_value, body, method_code}
use Rattle.st_compile.specs.Encodable.{is_near, word_fits}
use Rattle.st_compile.specs.DraftCode.{Word, Line, line, literal, symbol, receiver, variable, store, drop, repeat, message, super_message, jump, jump_false, jump_true, return}
use Rattle.st_compile.proofs.Named.{AreNamed, binary_number, named_back, named_front, parts_number, unary_number}

-- a line suits, and jumps no further than 1,024 instructions
abbrev pub is_fine : Line → Bool
is_fine l = word_fits l.word && is_near l.word

abbrev pub AreFine : List Line → Type 0
AreFine ls = list_all is_fine ls ≡ true

-- a code that is fine where it has no more than 1,024 instructions
abbrev pub IsFine : List Line → Type 0
IsFine ls = length ls ≤ 1024 → AreFine ls

line_fine : (d : ℕ) (w : Word) → word_fits w ≡ true → is_near w ≡ true → is_fine (line d w) ≡ true
line_fine d w f n = and_from (word_fits w) (is_near w) f n

front_short : (a b : List Line) → length (a ++ b) ≤ 1024 → length a ≤ 1024
front_short a b h = omega (arith, h, length-append a b)

back_short : (a b : List Line) → length (a ++ b) ≤ 1024 → length b ≤ 1024
back_short a b h = omega (arith, h, length-append a b)

rest_short : (l : Line) (ls : List Line) → length (l ∷ ls) ≤ 1024 → length ls ≤ 1024
rest_short l ls h = omega (arith, h)

join : (a b : List Line) → AreFine a → AreFine b → AreFine (a ++ b)
join a b f g = list_all-append is_fine a b ∙ and_from (list_all is_fine a) (list_all is_fine b) f g

cons : (l : Line) (ls : List Line) → is_fine l ≡ true → AreFine ls → AreFine (l ∷ ls)
cons l ls f g = and_from (is_fine l) (list_all is_fine ls) f g

join_fine : (a b : List Line) → IsFine a → IsFine b → IsFine (a ++ b)
join_fine a b f g h = join a b (f (front_short a b h)) (g (back_short a b h))

cons_fine : (l : Line) (ls : List Line) → is_fine l ≡ true → IsFine ls → IsFine (l ∷ ls)
cons_fine l ls f g h = cons l ls f (g (rest_short l ls h))

one_fine : (l : Line) → is_fine l ≡ true → IsFine (l ∷ [])
one_fine l f = cons_fine l [] f (λ h. refl)

one_of_fine : (v : Bool) (a b : List Line) → IsFine a → IsFine b → IsFine (one_of v a b)
one_of_fine true a b f g = f
one_of_fine false a b f g = g

-- ---- messages that are inlined

-- a jump of no more than 1,024 instructions is fine
abbrev IsBranch : (ℕ → Word) → Type 0
IsBranch branch = (d n : ℕ) → n ≤ 1024 → is_fine (line d (branch n)) ≡ true

branch_false : IsBranch jump_false
branch_false d n l = line_fine d (jump_false n) refl (le-leb n 1024 l)

branch_true : IsBranch jump_true
branch_true d n l = line_fine d (jump_true n) refl (le-leb n 1024 l)

jump_fine : (d n : ℕ) → n ≤ 1024 → is_fine (line d (jump (pos n))) ≡ true
jump_fine d n l = line_fine d (jump (pos n)) refl (le-leb n 1024 l)

back_fine : (d n : ℕ) → n < 1024 → is_fine (line d (jump (negsuc n))) ≡ true
back_fine d n l = line_fine d (jump (negsuc n)) refl (lt-ltb n 1024 l)

either_fine : (branch : ℕ → Word) (d : ℕ) (r a b : List Line) → IsBranch branch → IsFine r → IsFine a → IsFine b → IsFine (either branch d r a b)
either_fine branch d r a b near f g k h =
    let end : List Line = line (d + 1) (jump (pos (length b))) ∷ b in
    let more : List Line = line (d + 1) (branch (length a + 1)) ∷ (a ++ end) in
    let n : length more ≤ 1024 = back_short r more h in
    let m : length (a ++ end) ≤ 1024 = rest_short (line (d + 1) (branch (length a + 1))) (a ++ end) n in
    let e : length end ≤ 1024 = back_short a end m in
    let s : length (a ++ end) ≡ length a + length end = length-append a end in
    join r more (f (front_short r more h)) (cons (line (d + 1) (branch (length a + 1))) (a ++ end) (near (d + 1) (length a + 1) (omega (arith, s, n))) (join a end (g (front_short a end m)) (cons (line (d + 1) (jump (pos (length b)))) b (jump_fine (d + 1) (length b) (omega (arith, e))) (k (omega (arith, e))))))

loop_fine : (branch : ℕ → Word) (d : ℕ) (c b : List Line) → IsBranch branch → IsFine c → IsFine b → IsFine (loop branch d c b)
loop_fine branch d c b near f g h =
    let back : Line = line d (jump (negsuc (length c + length b + 2))) in
    let end : List Line = line (d + 1) drop ∷ back ∷ line d (literal Nil) ∷ [] in
    let more : List Line = line (d + 1) (branch (length b + 2)) ∷ (b ++ end) in
    let whole : length (c ++ more) ≡ length c + length more = length-append c more in
    let s : length (b ++ end) ≡ length b + 3 = length-append b end in
    join c more (f (front_short c more h)) (cons (line (d + 1) (branch (length b + 2))) (b ++ end) (near (d + 1) (length b + 2) (omega (arith, s, whole, h))) (join b end (g (omega (arith, s, whole, h))) (cons (line (d + 1) drop) (back ∷ line d (literal Nil) ∷ []) refl (cons back (line d (literal Nil) ∷ []) (back_fine d (length c + length b + 2) (omega (arith, s, whole, h))) refl))))

plain_fine : (d : ℕ) (v : Value) → literal_suits [] 0 v ≡ true → IsFine (plain d v)
plain_fine d v e = one_fine (line d (literal v)) (line_fine d (literal v) e refl)

inlined_fine : (d : ℕ) (o : Option Inlining) (r : List Line) (vs : List (List Line)) → IsFine r → AllByRecursion IsFine vs → IsFine (inlined d o r vs)
inlined_fine d None r vs f g = f
inlined_fine d (Some IfTrue) r [] f g = f
inlined_fine d (Some IfTrue) r (v ∷ []) f g = either_fine jump_false d r v (plain d Nil) branch_false f g.0 (plain_fine d Nil refl)
inlined_fine d (Some IfTrue) r (v ∷ w ∷ ws) f g = f
inlined_fine d (Some IfFalse) r [] f g = f
inlined_fine d (Some IfFalse) r (v ∷ []) f g = either_fine jump_true d r v (plain d Nil) branch_true f g.0 (plain_fine d Nil refl)
inlined_fine d (Some IfFalse) r (v ∷ w ∷ ws) f g = f
inlined_fine d (Some And) r [] f g = f
inlined_fine d (Some And) r (v ∷ []) f g = either_fine jump_false d r v (plain d (Boolean false)) branch_false f g.0 (plain_fine d (Boolean false) refl)
inlined_fine d (Some And) r (v ∷ w ∷ ws) f g = f
inlined_fine d (Some Or) r [] f g = f
inlined_fine d (Some Or) r (v ∷ []) f g = either_fine jump_true d r v (plain d (Boolean true)) branch_true f g.0 (plain_fine d (Boolean true) refl)
inlined_fine d (Some Or) r (v ∷ w ∷ ws) f g = f
inlined_fine d (Some WhileTrue) r [] f g = f
inlined_fine d (Some WhileTrue) r (v ∷ []) f g = loop_fine jump_false d r v branch_false f g.0
inlined_fine d (Some WhileTrue) r (v ∷ w ∷ ws) f g = f
inlined_fine d (Some WhileFalse) r [] f g = f
inlined_fine d (Some WhileFalse) r (v ∷ []) f g = loop_fine jump_true d r v branch_true f g.0
inlined_fine d (Some WhileFalse) r (v ∷ w ∷ ws) f g = f
inlined_fine d (Some IfTrueIfFalse) r [] f g = f
inlined_fine d (Some IfTrueIfFalse) r (a ∷ []) f g = f
inlined_fine d (Some IfTrueIfFalse) r (a ∷ b ∷ []) f g = either_fine jump_false d r a b branch_false f g.0 g.1.0
inlined_fine d (Some IfTrueIfFalse) r (a ∷ b ∷ w ∷ ws) f g = f
inlined_fine d (Some IfFalseIfTrue) r [] f g = f
inlined_fine d (Some IfFalseIfTrue) r (a ∷ []) f g = f
inlined_fine d (Some IfFalseIfTrue) r (a ∷ b ∷ []) f g = either_fine jump_true d r a b branch_true f g.0 g.1.0
inlined_fine d (Some IfFalseIfTrue) r (a ∷ b ∷ w ∷ ws) f g = f

-- ---- messages that are sent

to_fine : (up : Bool) (d : ℕ) (text : List ℕ) (n : ℕ) → is_number (arity_of text) n ≡ true → is_fine (line d (to up text n)) ≡ true
to_fine true d text n e = line_fine d (super_message text n) e refl
to_fine false d text n e = line_fine d (message text n) e refl

kept_fine : (d : ℕ) (ls : List Line) → IsFine ls → IsFine (kept d ls)
kept_fine d ls f = cons_fine (line d repeat) (ls ++ line (d + 1) drop ∷ []) refl (join_fine ls (line (d + 1) drop ∷ []) f (one_fine (line (d + 1) drop) refl))

mutual
  code_fine : (d : ℕ) (e : Expression) → IsExpression e → AreNamed (toks e) → IsFine (code d e)
  code_fine d (Expression.number value place minus) is n = λ h. refl
  code_fine d (Expression.symbol s) is n = one_fine (line d (symbol s.text)) (line_fine d (symbol s.text) n.0 refl)
  code_fine d (name s) is n = one_fine (line d (variable s)) refl
  code_fine d (parenthesis opening e closing) is n = code_fine d e is (named_front (toks e) _ n.1)
  code_fine d (empty_block opening closing) is n = λ h. refl
  code_fine d (block opening ss closing) is n = value_fine d ss is (named_front (statements_toks ss) _ n.1)
  code_fine d (send e m) is n =
      let f = code_fine d e is.0 (named_front (toks e) (message_toks m) n) in
      let g = named_back (toks e) (message_toks m) n in
      one_of_fine (is_inlined e m) (inlined d (inlining_of m) (code d e) (blocks d m)) (code d e ++ sent (is_super e) (d + 1) m) (inlined_fine d (inlining_of m) (code d e) (blocks d m) f (blocks_fine d m is.2 g)) (join_fine (code d e) (sent (is_super e) (d + 1) m) f (sent_fine (is_super e) (d + 1) m is.2 g))
  code_fine d (cascade e m ms) is n =
      let f = code_fine d e is.0 (named_front (toks e) (message_toks m ++ further_toks ms) n) in
      let g = named_back (toks e) (message_toks m ++ further_toks ms) n in
      let first = kept_fine (d + 1) (sent false (d + 2) m) (sent_fine false (d + 2) m is.2 (named_front (message_toks m) (further_toks ms) g)) in
      join_fine (code d e) (kept (d + 1) (sent false (d + 2) m) ++ further_sent (d + 1) ms) f (join_fine (kept (d + 1) (sent false (d + 2) m)) (further_sent (d + 1) ms) first (further_fine (d + 1) ms is.4 (named_back (message_toks m) (further_toks ms) g)))
  code_fine d (Expression.assign s place e) is n = join_fine (code d e) (line (d + 1) (store s) ∷ []) (code_fine d e is n.1.1) (one_fine (line (d + 1) (store s)) refl)

  sent_fine : (up : Bool) (d : ℕ) (m : Message) → IsMessage m → AreNamed (message_toks m) → IsFine (sent up d m)
  sent_fine up d (unary s) is n = one_fine (line d (to up s.text 0)) (to_fine up d s.text 0 (unary_number s.text n.0))
  sent_fine up d (Message.binary s e) is n = join_fine (code d e) (line (d + 1) (to up s.text 1) ∷ []) (code_fine d e is.1 n.1) (one_fine (line (d + 1) (to up s.text 1)) (to_fine up (d + 1) s.text 1 (binary_number s.text n.0)))
  sent_fine up d (keywords ps) is n =
      let l : Line = line (d + count ps) (to up (joined ps) (count ps)) in
      join_fine (arguments d ps) (l ∷ []) (arguments_fine d ps is.2 n) (one_fine l (to_fine up (d + count ps) (joined ps) (count ps) (parts_number ps n is.0 is.1)))

  arguments_fine : (d : ℕ) (ps : Parts) → AreParts ps → AreNamed (parts_toks ps) → IsFine (arguments d ps)
  arguments_fine d no_parts is n = λ h. refl
  arguments_fine d (part s e ps) is n = join_fine (code d e) (arguments (d + 1) ps) (code_fine d e is.1 (named_front (toks e) (parts_toks ps) n.1)) (arguments_fine (d + 1) ps is.2 (named_back (toks e) (parts_toks ps) n.1))

  blocks_fine : (d : ℕ) (m : Message) → IsMessage m → AreNamed (message_toks m) → AllByRecursion IsFine (blocks d m)
  blocks_fine d (unary s) is n = tt
  blocks_fine d (Message.binary s e) is n = tt
  blocks_fine d (keywords ps) is n = part_blocks_fine d ps is.2 n

  part_blocks_fine : (d : ℕ) (ps : Parts) → AreParts ps → AreNamed (parts_toks ps) → AllByRecursion IsFine (part_blocks d ps)
  part_blocks_fine d no_parts is n = tt
  part_blocks_fine d (part s e ps) is n = (code_fine d e is.1 (named_front (toks e) (parts_toks ps) n.1), part_blocks_fine d ps is.2 (named_back (toks e) (parts_toks ps) n.1))

  further_fine : (d : ℕ) (ms : Further) → AreFurther ms → AreNamed (further_toks ms) → IsFine (further_sent d ms)
  further_fine d no_further is n = λ h. refl
  further_fine d (further place m no_further) is n = sent_fine false d m is.0 (named_front (message_toks m) [] n.1)
  further_fine d (further place m (further after next ms)) is n =
      let rest : Further = further after next ms in
      join_fine (kept d (sent false (d + 1) m)) (further_sent d rest) (kept_fine d (sent false (d + 1) m) (sent_fine false (d + 1) m is.0 (named_front (message_toks m) (further_toks rest) n.1))) (further_fine d (further after next ms) is.1 (named_back (message_toks m) (further_toks rest) n.1))

  value_fine : (d : ℕ) (ss : Statements) → AreStatements ss → AreNamed (statements_toks ss) → IsFine (statements_value d ss)
  value_fine d (last e period) is n = code_fine d e is (named_front (toks e) (period_toks period) n)
  value_fine d (answer caret e period) is n = join_fine (code d e) (line (d + 1) return ∷ []) (code_fine d e is (named_front (toks e) (period_toks period) n.1)) (one_fine (line (d + 1) return) refl)
  value_fine d (statement e period ss) is n = join_fine (code d e) (line (d + 1) drop ∷ statements_value d ss) (code_fine d e is.0 (named_front (toks e) _ n)) (cons_fine (line (d + 1) drop) (statements_value d ss) refl (value_fine d ss is.1 (named_back (toks e) _ n).1))

body_fine : (ss : Statements) → AreStatements ss → AreNamed (statements_toks ss) → IsFine (body ss)
body_fine (last e period) is n =
    let end : List Line = line 1 drop ∷ line 0 receiver ∷ line 1 return ∷ [] in
    join_fine (code 0 e) end (code_fine 0 e is (named_front (toks e) (period_toks period) n)) (λ h. refl)
body_fine (answer caret e period) is n = join_fine (code 0 e) (line 1 return ∷ []) (code_fine 0 e is (named_front (toks e) (period_toks period) n.1)) (one_fine (line 1 return) refl)
body_fine (statement e period ss) is n = join_fine (code 0 e) (line 1 drop ∷ body ss) (code_fine 0 e is.0 (named_front (toks e) _ n)) (cons_fine (line 1 drop) (body ss) refl (body_fine ss is.1 (named_back (toks e) _ n).1))

pub method_fine : (m : Method) → IsMethod m → AreNamed (method_toks m) → IsFine (method_code m)
method_fine m is n = by m.body is.body (named_back (temporaries_toks m.temporaries) (body_toks m.body) (named_back (pattern_toks m.pattern) (temporaries_toks m.temporaries ++ body_toks m.body) n))
  where
    by : (o : Option Statements) → IsBody o → AreNamed (body_toks o) → IsFine (method_code (record { pattern = m.pattern; temporaries = m.temporaries; body = o }))
    by None b k = λ h. refl
    by (Some ss) b k = body_fine ss b.0 k

-- ---- both parts

pub fine_fits : (ls : List Line) → AreFine ls → list_all (λ l. word_fits l.word) ls ≡ true
fine_fits [] h = refl
fine_fits (l ∷ ls) h =
    let p = and_parts (is_fine l) (list_all is_fine ls) h in
    and_from (word_fits l.word) (list_all (λ x. word_fits x.word) ls) (and_parts (word_fits l.word) (is_near l.word) p.0).0 (fine_fits ls p.1)

pub fine_near : (ls : List Line) → AreFine ls → list_all (λ l. is_near l.word) ls ≡ true
fine_near [] h = refl
fine_near (l ∷ ls) h =
    let p = and_parts (is_fine l) (list_all is_fine ls) h in
    and_from (is_near l.word) (list_all (λ x. is_near x.word) ls) (and_parts (word_fits l.word) (is_near l.word) p.0).1 (fine_near ls p.1)
