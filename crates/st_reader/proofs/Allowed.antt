-- What is allowed, row by row.
use Rattle.std.proofs.Common.{◌≡◌, arith, ℕ, ◌+◌, ◌<◌, length, get_or, drop, Bool, true, false, List, [], ◌∷◌, map, refl, sym, ap, ◌∙◌}
use Rattle.std.specs.Prelude.{Option, Some, None, ◌&&◌, not}
use Rattle.std.specs.List.{list_all}
use Rattle.std.proofs.lemmas.List.{drop_more}
use Rattle.std.specs.declared.vec.Vec.{Vec}
use Rattle.std.specs.declared.alloc.Global.{Global}
use Rattle.st_reader.specs.declared.trees.Span.{Span}
use Rattle.st_reader.specs.declared.trees.Chain.{Chain, out-Chain}
use Rattle.st_reader.specs.declared.trees.Expression.{Expression as Written, out-Expression}
use Rattle.st_reader.specs.declared.trees.Statements.{Statements as Row, out-Statements}
use Rattle.st_reader.specs.declared.trees.Target.{Target}
use Rattle.st_reader.specs.declared.trees.Message.{Message as Sent}
use Rattle.st_reader.specs.declared.rules.alone.Alone.{Alone as Sort}
use Rattle.st_reader.specs.Syntax.{Expression, Message, Statements, send, cascade}
use Rattle.st_reader.specs.TreeViews.{sends, assigns, thens, last_of, further_of, cascaded, seen_cascade, seen_further, seen_sentences, operand_view, message_view, chain_view, expression_view, statements_view}
use Rattle.st_reader.specs.Inlining.{is_loose}
use Rattle.st_reader.specs.WellFormed.{allowed, message_allowed, further_allowed, statements_allowed, is_well_placed, may_change}
use Rattle.st_reader.specs.ExpressionKinds.{expression_kind, is_variable, assigns_well, value_of, may_assign}
use Rattle.st_reader.proofs.Seen.{chain_out}
use Rattle.st_reader.proofs.Alone.{expression_out, statements_out}

-- ---- messages to a receiver

module _ (fixed : List (List ℕ)) where
  fails : (e : Expression) (ms : List Message) → allowed fixed e ≡ false → allowed fixed (sends e ms) ≡ false
  fails e [] no_one = no_one
  fails e (m ∷ ms) no_one = fails (send e m) ms (by_receiver (is_well_placed (send e m)) (allowed fixed e) (message_allowed fixed m) no_one)
    where
      by_receiver : (s a b : Bool) → a ≡ false → ((s && true) && a && b) ≡ false
      by_receiver s a b q = grind arith

  -- a receiver that is allowed, to which the rest of the messages go
  pub record Sending (receiver : Sort) (whole : Expression) (rest : List Sent) : Type 0 where
    pub to : Expression
    pub is : expression_kind to ≡ receiver
    pub passes : allowed fixed to ≡ true
    pub same : whole ≡ sends to (map message_view rest)

  -- what a message that goes to a receiver by itself is asked
  abbrev pub Tested : Sort → Sent → Bool → Type 0
  Tested receiver m b = (e : Expression) → expression_kind e ≡ receiver → b ≡ is_well_placed (send e (message_view m))

  one_more : (s a b v : Bool) → a ≡ true → (s && b) ≡ v → ((s && true) && a && b) ≡ v
  one_more s a b v q r = grind arith

  pub sending_fails : (receiver : Sort) (whole : Expression) (ms : List Sent) (i : ℕ) (m : Sent) (s b : Bool) → i < length ms → m ≡ get_or ms i m → Tested receiver m s → b ≡ message_allowed fixed (message_view m) → (s && b) ≡ false → Sending receiver whole (drop i ms) → false ≡ allowed fixed whole
  sending_fails receiver whole ms i m s b below is tested passes none r =
      let shown = message_view m in
      let one : (is_well_placed (send r.to shown) && message_allowed fixed shown) ≡ false = ap (λ (x : Bool). x && message_allowed fixed shown) (sym (tested r.to r.is)) ∙ ap (λ (x : Bool). s && x) (sym passes) ∙ none in
      let now : allowed fixed (send r.to shown) ≡ false = one_more (is_well_placed (send r.to shown)) (allowed fixed r.to) (message_allowed fixed shown) false r.passes one in
      sym (ap (allowed fixed) (r.same ∙ ap (λ (l : List Sent). sends r.to (map message_view l)) (drop_more ms i m below ∙ ap (λ (x : Sent). x ∷ drop (i + 1) ms) (sym is))) ∙ fails (send r.to shown) (map message_view (drop (i + 1) ms)) now)

  pub chain_fails : (c : Chain) → allowed fixed (operand_view (out-Chain c).operand) ≡ false → allowed fixed (chain_view c) ≡ false
  chain_fails c no_one = ap (allowed fixed) (chain_out c) ∙ fails (operand_view (out-Chain c).operand) (map message_view (out-Chain c).messages.items) no_one

  -- ---- an expression

  -- the targets, and then the value
  assigns_allowed : (ts : List Target) (e : Expression) → allowed fixed (assigns ts e) ≡ (assigns_well fixed ts e && allowed fixed e)
  assigns_allowed [] e = refl
  assigns_allowed (t ∷ []) e = last_target (not (is_loose e)) (may_change fixed t.name) (allowed fixed e)
    where
      last_target : (l v a : Bool) → ((l && v) && a) ≡ ((l && (v && true)) && a)
      last_target l v a = grind arith
  assigns_allowed (t ∷ u ∷ ts) e =
      ap (λ (b : Bool). may_change fixed t.name && b) (assigns_allowed (u ∷ ts) e) ∙ more_targets (not (is_loose e)) (may_change fixed t.name) (list_all (is_variable fixed) (u ∷ ts)) (allowed fixed e)
    where
      more_targets : (l v vs a : Bool) → (v && ((l && vs) && a)) ≡ ((l && (v && vs)) && a)
      more_targets l v vs a = grind arith

  parts : (x : Written) → allowed fixed (expression_view x) ≡ (may_assign fixed x && allowed fixed (value_of x))
  parts x = ap (allowed fixed) (expression_out x) ∙ assigns_allowed (out-Expression x).targets (value_of x)

  pub expression_fails : (x : Written) → may_assign fixed x ≡ false → allowed fixed (expression_view x) ≡ false
  expression_fails x other = parts x ∙ ap (λ (b : Bool). b && allowed fixed (value_of x)) other

  value : (x : Written) → may_assign fixed x ≡ true → allowed fixed (expression_view x) ≡ allowed fixed (value_of x)
  value x well = parts x ∙ ap (λ (b : Bool). b && allowed fixed (value_of x)) well

  no_value : (r : Expression) (k : Option (Message × List (Span × Message))) → allowed fixed r ≡ false → allowed fixed (cascaded r k) ≡ false
  no_value r None other = other
  no_value r (Some k) other = second (is_well_placed (cascade r k.0 (further_of k.1)) && true) (allowed fixed r) (message_allowed fixed k.0) (further_allowed fixed (further_of k.1)) other
    where
      second : (s a m f : Bool) → a ≡ false → (s && a && m && f) ≡ false
      second s a m f q = grind arith

  pub receiver_fails : (x : Written) → allowed fixed (chain_view (out-Expression x).receiver) ≡ false → allowed fixed (expression_view x) ≡ false
  receiver_fails x other = parts x ∙ ap (λ (b : Bool). may_assign fixed x && b) (no_value (chain_view (out-Expression x).receiver) (seen_cascade (out-Expression x).cascade) other) ∙ none (may_assign fixed x)
    where
      none : (b : Bool) → (b && false) ≡ false
      none b = grind arith

  pub plain_allowed : (x : Written) → may_assign fixed x ≡ true → (out-Expression x).cascade ≡ None → allowed fixed (expression_view x) ≡ allowed fixed (chain_view (out-Expression x).receiver)
  plain_allowed x well none = value x well ∙ ap (λ k. allowed fixed (cascaded (chain_view (out-Expression x).receiver) (seen_cascade k))) none

  -- behind a receiver that is allowed
  pub cascade_allowed : (x : Written) (m : Sent) (fs : Vec (Span × Sent) Global) → may_assign fixed x ≡ true → (out-Expression x).cascade ≡ Some (m, fs) → allowed fixed (chain_view (out-Expression x).receiver) ≡ true → allowed fixed (expression_view x) ≡ (is_well_placed (cascade (chain_view (out-Expression x).receiver) (message_view m) (further_of (seen_further fs.items))) && message_allowed fixed (message_view m) && further_allowed fixed (further_of (seen_further fs.items)))
  cascade_allowed x m fs well some passes = value x well ∙ ap (λ k. allowed fixed (cascaded (chain_view (out-Expression x).receiver) (seen_cascade k))) some ∙ without (is_well_placed (cascade (chain_view (out-Expression x).receiver) (message_view m) (further_of (seen_further fs.items)))) (allowed fixed (chain_view (out-Expression x).receiver)) (message_allowed fixed (message_view m)) (further_allowed fixed (further_of (seen_further fs.items))) passes
    where
      without : (s a n f : Bool) → a ≡ true → ((s && true) && a && n && f) ≡ (s && n && f)
      without s a n f q = grind arith

  -- ---- statements

  last_row : (caret : Option Span) (e : Expression) (period : Option Span) → statements_allowed fixed (last_of caret e period) ≡ allowed fixed e
  last_row None e period = refl
  last_row (Some c) e period = refl

  regroup : (a b c : Bool) → (a && (b && c)) ≡ ((a && b) && c)
  regroup true b c = refl
  regroup false b c = refl

  rows : (before : List (Written × Span)) (ss : Statements) → statements_allowed fixed (thens (seen_sentences before) ss) ≡ (list_all (λ s. allowed fixed (expression_view s.0)) before && statements_allowed fixed ss)
  rows [] ss = refl
  rows (s ∷ before) ss = ap (λ b. allowed fixed (expression_view s.0) && b) (rows before ss) ∙ regroup (allowed fixed (expression_view s.0)) (list_all (λ s. allowed fixed (expression_view s.0)) before) (statements_allowed fixed ss)

  pub statements_rows : (s : Row) → statements_allowed fixed (statements_view s) ≡ (list_all (λ x. allowed fixed (expression_view x.0)) (out-Statements s).before.items && allowed fixed (expression_view (out-Statements s).last))
  statements_rows s =
      let r = out-Statements s in
      ap (statements_allowed fixed) (statements_out s) ∙ rows r.before.items (last_of r.caret (expression_view r.last) r.period) ∙ ap (λ (b : Bool). list_all (λ (x : Written × Span). allowed fixed (expression_view x.0)) r.before.items && b) (last_row r.caret (expression_view r.last) r.period)
