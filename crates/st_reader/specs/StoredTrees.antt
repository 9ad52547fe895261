-- An injective encoding of the statements of a method as stored values of the logic, which the view of a tree needs.
-- Nothing depends on the encoding that is chosen: any that can be decoded will do.
use Rattle.std.specs.Prelude.{◌≡◌, ℕ, ℤ, pos, List, [], Option, Some, None, unwrap_or, cond, ◌==◌, refl}
use Rattle.std.specs.Coded.{Coded, code_by, coded×, coded_ℕ, coded_ℤ, coded_list, coded_option}
use base.Stored.{Gv, gnil, gnum, gcons}
use mathlib.Core.Path.{ap}
use Rattle.st_reader.specs.declared.trees.Span.{Span}
use Rattle.st_reader.specs.declared.trees.Name.{Name}
use Rattle.st_reader.specs.Syntax.{Expression, number, symbol, name, parenthesis, empty_block, block, send}
use Rattle.st_reader.specs.Syntax.{cascade, assign, Message, unary, binary, keywords, Parts, no_parts, part}
use Rattle.st_reader.specs.Syntax.{Further, no_further, further, Statements, last, answer, statement}

abbrev span_code : Coded Span
span_code =
    code_by (ℕ × ℕ) (coded× coded_ℕ coded_ℕ)
    (λ s. (s.start, s.end)) (λ p. record { start = p.0; end = p.1 }) (λ _. refl)

abbrev name_code : Coded Name
name_code =
    code_by (List ℕ × Span) (coded× (coded_list coded_ℕ) span_code)
    (λ n. (n.text, n.span)) (λ p. record { text = p.0; span = p.1 }) (λ _. refl)

-- what a node holds besides its children: a number, a name, and two places
record Leaf : Type 0 where
  value : ℤ
  named : Name
  place : Span
  other : Option Span

abbrev leaf : ℤ → Name → Span → Option Span → Leaf
leaf z n p o = record { value = z; named = n; place = p; other = o }

abbrev leaf_code : Coded Leaf
leaf_code =
    code_by (ℤ × (Name × (Span × Option Span)))
    (coded× coded_ℤ (coded× name_code (coded× span_code (coded_option span_code))))
    (λ l. (l.value, (l.named, (l.place, l.other)))) (λ p. leaf p.0 p.1.0 p.1.1.0 p.1.1.1) (λ _. refl)

-- a tree of nodes with a kind, a leaf and three children
data Tree : Type 0 where
  nil : Tree
  node : ℕ → Leaf → Tree → Tree → Tree → Tree

abbrev to_stored : Tree → Gv
to_stored nil = gnil
to_stored (node k l a b c) =
    gcons (gnum k) (gcons (leaf_code.code l) (gcons (to_stored a) (gcons (to_stored b) (to_stored c))))

to_stored-same : (x y : Tree) → to_stored x ≡ to_stored y → x ≡ y
to_stored-same nil nil e = refl
to_stored-same nil (node k l a b c) e = cc
to_stored-same (node k l a b c) nil e = cc
to_stored-same (node k l a b c) (node k' l' a' b' c') e =
    let kinds : k ≡ k' = cc in
    let leaves : l ≡ l' = leaf_code.inj l l' (cc) in
    let first : a ≡ a' = to_stored-same a a' (cc) in
    let second : b ≡ b' = to_stored-same b b' (cc) in
    let third : c ≡ c' = to_stored-same c c' (cc) in
    cc

abbrev tree_code : Coded Tree
tree_code = record { code = to_stored; inj = to_stored-same }

abbrev no_span : Span
no_span = record { start = 0; end = 0 }

abbrev no_name : Name
no_name = record { text = []; span = no_span }

abbrev blank : Leaf
blank = leaf (pos 0) no_name no_span None

abbrev of_name : Name → Leaf
of_name n = leaf (pos 0) n no_span None

abbrev between : Span → Span → Leaf
between opening closing = leaf (pos 0) no_name opening (Some closing)

abbrev ended : Span → Option Span → Leaf
ended place period = leaf (pos 0) no_name place period

abbrev mutual
  expression_tree : Expression → Tree
  expression_tree (number value place minus) = node 0 (leaf value no_name place minus) nil nil nil
  expression_tree (symbol n) = node 1 (of_name n) nil nil nil
  expression_tree (name n) = node 2 (of_name n) nil nil nil
  expression_tree (parenthesis opening e closing) = node 3 (between opening closing) (expression_tree e) nil nil
  expression_tree (empty_block opening closing) = node 4 (between opening closing) nil nil nil
  expression_tree (block opening ss closing) = node 5 (between opening closing) (statements_tree ss) nil nil
  expression_tree (send e m) = node 6 blank (expression_tree e) (message_tree m) nil
  expression_tree (cascade e m ms) = node 7 blank (expression_tree e) (message_tree m) (further_tree ms)
  expression_tree (assign n place e) = node 8 (leaf (pos 0) n place None) (expression_tree e) nil nil

  message_tree : Message → Tree
  message_tree (unary n) = node 0 (of_name n) nil nil nil
  message_tree (binary n e) = node 1 (of_name n) (expression_tree e) nil nil
  message_tree (keywords ps) = node 2 blank (parts_tree ps) nil nil

  parts_tree : Parts → Tree
  parts_tree no_parts = nil
  parts_tree (part n e ps) = node 0 (of_name n) (expression_tree e) (parts_tree ps) nil

  further_tree : Further → Tree
  further_tree no_further = nil
  further_tree (further place m ms) = node 0 (ended place None) (message_tree m) (further_tree ms) nil

  statements_tree : Statements → Tree
  statements_tree (last e period) = node 0 (ended no_span period) (expression_tree e) nil nil
  statements_tree (answer caret e period) = node 1 (ended caret period) (expression_tree e) nil nil
  statements_tree (statement e period ss) = node 2 (ended period None) (expression_tree e) (statements_tree ss) nil

-- what a tree can be decoded to
record Read : Type 0 where
  expression : Expression
  message : Message
  parts : Parts
  rest : Further
  statements : Statements

abbrev read_nil : Read
read_nil = record {
  expression = name no_name;
  message = unary no_name;
  parts = no_parts;
  rest = no_further;
  statements = last (name no_name) None;
}

-- the second place of a leaf
abbrev closing_of : Leaf → Span
closing_of l = unwrap_or l.other no_span

abbrev expression_at : ℕ → Leaf → Read → Read → Read → Expression
expression_at k l a b c =
    cond (k == 0) (number l.value l.place l.other) (cond (k == 1) (symbol l.named) (cond (k == 2) (name l.named)
    (cond (k == 3) (parenthesis l.place a.expression (closing_of l)) (cond (k == 4) (empty_block l.place (closing_of l))
    (cond (k == 5) (block l.place a.statements (closing_of l)) (cond (k == 6) (send a.expression b.message)
    (cond (k == 7) (cascade a.expression b.message c.rest) (assign l.named l.place a.expression))))))))

abbrev statements_at : ℕ → Leaf → Read → Read → Statements
statements_at k l a b =
    cond (k == 0) (last a.expression l.other) (cond (k == 1) (answer l.place a.expression l.other)
    (statement a.expression l.place b.statements))

abbrev read_node : ℕ → Leaf → Read → Read → Read → Read
read_node k l a b c = record {
  expression = expression_at k l a b c;
  message = cond (k == 0) (unary l.named) (cond (k == 1) (binary l.named a.expression) (keywords a.parts));
  parts = part l.named a.expression b.parts;
  rest = further l.place a.message b.rest;
  statements = statements_at k l a b;
}

abbrev read : Tree → Read
read nil = read_nil
read (node k l a b c) = read_node k l (read a) (read b) (read c)

mutual
  read-expression_tree : (e : Expression) → (read (expression_tree e)).expression ≡ e
  read-expression_tree (number value place minus) = refl
  read-expression_tree (symbol n) = refl
  read-expression_tree (name n) = refl
  read-expression_tree (parenthesis opening e closing) =
      ap (λ (x : Expression). parenthesis opening x closing) (read-expression_tree e)
  read-expression_tree (empty_block opening closing) = refl
  read-expression_tree (block opening ss closing) =
      ap (λ (x : Statements). block opening x closing) (read-statements_tree ss)
  read-expression_tree (send e m) = λ i. send (read-expression_tree e i) (read-message_tree m i)
  read-expression_tree (cascade e m ms) =
      λ i. cascade (read-expression_tree e i) (read-message_tree m i) (read-further_tree ms i)
  read-expression_tree (assign n place e) = ap (assign n place) (read-expression_tree e)

  read-message_tree : (m : Message) → (read (message_tree m)).message ≡ m
  read-message_tree (unary n) = refl
  read-message_tree (binary n e) = ap (binary n) (read-expression_tree e)
  read-message_tree (keywords ps) = ap keywords (read-parts_tree ps)

  read-parts_tree : (ps : Parts) → (read (parts_tree ps)).parts ≡ ps
  read-parts_tree no_parts = refl
  read-parts_tree (part n e ps) = λ i. part n (read-expression_tree e i) (read-parts_tree ps i)

  read-further_tree : (ms : Further) → (read (further_tree ms)).rest ≡ ms
  read-further_tree no_further = refl
  read-further_tree (further place m ms) = λ i. further place (read-message_tree m i) (read-further_tree ms i)

  read-statements_tree : (ss : Statements) → (read (statements_tree ss)).statements ≡ ss
  read-statements_tree (last e period) = ap (λ (x : Expression). last x period) (read-expression_tree e)
  read-statements_tree (answer caret e period) = ap (λ (x : Expression). answer caret x period) (read-expression_tree e)
  read-statements_tree (statement e period ss) =
      λ i. statement (read-expression_tree e i) period (read-statements_tree ss i)

pub statements_code : Coded Statements
statements_code = code_by Tree tree_code statements_tree (λ t. (read t).statements) read-statements_tree
