-- What an expression is by itself, by what a tree shows.
use Rattle.std.proofs.Common.{◌≡◌, ◌≢◌, Option, Bool, true, false, List, [], ◌∷◌, map, Some, None, refl, sym, ap, ◌∙◌}
use Rattle.std.specs.Prelude.{◌||◌, codes}
use Rattle.std.specs.List.{list_any}
use Rattle.std.specs.declared.vec.Vec.{Vec}
use Rattle.std.specs.Str.{bytes_eq}
use Rattle.std.specs.declared.alloc.Global.{Global}
use Rattle.st_reader.specs.declared.trees.Span.{Span}
use Rattle.st_reader.specs.declared.trees.Target.{Target}
use Rattle.st_reader.specs.declared.trees.Chain.{Chain, out-Chain}
use Rattle.st_reader.specs.declared.trees.Expression.{Expression as Written, out-Expression, roll-Expression, roll-out-Expression}
use Rattle.st_reader.specs.declared.trees.Statements.{Statements as Row, out-Statements, roll-out-Statements}
use Rattle.st_reader.specs.declared.trees.Message.{Message as Sent}
use Rattle.st_reader.specs.declared.rules.alone.Alone.{Alone as Sort}
use Rattle.st_reader.specs.declared.rules.alone.Alone.TheVariants.{Block, Super, Other}
use Rattle.st_reader.specs.Syntax.{Expression, Message, Statements, parenthesis, empty_block, block, send, cascade, name}
use Rattle.st_reader.specs.TreeViews.{sends, operand_view, message_view, chain_view, expression_view, statements_view, assigns, cascaded, thens, last_of, seen_cascade, seen_sentences}
use Rattle.st_reader.specs.Inlining.{is_block, is_loose}
use Rattle.st_reader.specs.WellFormed.{sentences}
use Rattle.st_reader.specs.ExpressionKinds.{expression_kind, name_alone}
use Rattle.st_reader.proofs.Seen.{chain_out, plain_is, cascade_is, statements_is}

abbrev pub is_block_alone : Sort → Bool
is_block_alone Block = true
is_block_alone Super = false
is_block_alone Other = false

abbrev pub is_loose_alone : Sort → Bool
is_loose_alone Block = true
is_loose_alone Super = true
is_loose_alone Other = false

sends_alone : (e : Expression) (m : Message) (ms : List Message) → expression_kind (sends e (m ∷ ms)) ≡ Other
sends_alone e m [] = refl
sends_alone e m (n ∷ ms) = sends_alone (send e m) n ms

pub chain_plain : (c : Chain) → (out-Chain c).messages.items ≡ [] → chain_view c ≡ operand_view (out-Chain c).operand
chain_plain c e = chain_out c ∙ ap (λ (l : List Sent). sends (operand_view (out-Chain c).operand) (map message_view l)) e

sent : (o : Expression) (ms : List Sent) → (ms ≢ []) → expression_kind (sends o (map message_view ms)) ≡ Other
sent o [] some = absurd (some refl)
sent o (m ∷ ms) some = sends_alone o (message_view m) (map message_view ms)

pub chain_sent : (c : Chain) → ((out-Chain c).messages.items ≢ []) → expression_kind (chain_view c) ≡ Other
chain_sent c some = ap expression_kind (chain_out c) ∙ sent (operand_view (out-Chain c).operand) (out-Chain c).messages.items some

pub block_alone : (e : Expression) → is_block e ≡ is_block_alone (expression_kind e)
block_alone (Expression.number value place minus) = refl
block_alone (Expression.symbol n) = refl
block_alone (name n) = named (bytes_eq n.text (codes "super"))
  where
    named : (b : Bool) → false ≡ is_block_alone (name_alone b)
    named true = refl
    named false = refl
block_alone (parenthesis opening e closing) = refl
block_alone (empty_block opening closing) = refl
block_alone (block opening ss closing) = refl
block_alone (send e m) = refl
block_alone (cascade e m ms) = refl
block_alone (Expression.assign n place e) = refl

pub loose_alone : (e : Expression) → is_loose e ≡ is_loose_alone (expression_kind e)
loose_alone (Expression.number value place minus) = refl
loose_alone (Expression.symbol n) = refl
loose_alone (name n) = named (bytes_eq n.text (codes "super"))
  where
    named : (b : Bool) → b ≡ is_loose_alone (name_alone b)
    named true = refl
    named false = refl
loose_alone (parenthesis opening e closing) = refl
loose_alone (empty_block opening closing) = refl
loose_alone (block opening ss closing) = refl
loose_alone (send e m) = refl
loose_alone (cascade e m ms) = refl
loose_alone (Expression.assign n place e) = refl

-- ---- expressions

shown : (t : List Target) (c : Chain) (k : Option (Sent × Vec (Span × Sent) Global)) → expression_view (roll-Expression (record { targets = t; receiver = c; cascade = k })) ≡ assigns t (cascaded (chain_view c) (seen_cascade k))
shown t c None = plain_is t c
shown t c (Some k) = cascade_is t c k.0 k.1

pub expression_out : (e : Written) → expression_view e ≡ assigns (out-Expression e).targets (cascaded (chain_view (out-Expression e).receiver) (seen_cascade (out-Expression e).cascade))
expression_out e = ap expression_view (sym (roll-out-Expression e)) ∙ shown (out-Expression e).targets (out-Expression e).receiver (out-Expression e).cascade

assigned : (ts : List Target) (e : Expression) → (ts ≢ []) → expression_kind (assigns ts e) ≡ Other
assigned [] e some = absurd (some refl)
assigned (t ∷ ts) e some = refl

pub expression_value : (e : Written) → (out-Expression e).targets ≡ [] → expression_view e ≡ cascaded (chain_view (out-Expression e).receiver) (seen_cascade (out-Expression e).cascade)
expression_value e none = expression_out e ∙ ap (λ (t : List Target). assigns t (cascaded (chain_view (out-Expression e).receiver) (seen_cascade (out-Expression e).cascade))) none

pub expression_assigns : (e : Written) → ((out-Expression e).targets ≢ []) → expression_kind (expression_view e) ≡ Other
expression_assigns e some = ap expression_kind (expression_out e) ∙ assigned (out-Expression e).targets (cascaded (chain_view (out-Expression e).receiver) (seen_cascade (out-Expression e).cascade)) some

-- ---- statements

pub statements_out : (s : Row) → statements_view s ≡ thens (seen_sentences (out-Statements s).before.items) (last_of (out-Statements s).caret (expression_view (out-Statements s).last) (out-Statements s).period)
statements_out s = ap statements_view (sym (roll-out-Statements s)) ∙ statements_is (out-Statements s)

one_sentence : (caret : Option Span) (e : Expression) (period : Option Span) → sentences (last_of caret e period) ≡ e ∷ []
one_sentence None e period = refl
one_sentence (Some c) e period = refl

one_loose : (b : Bool) → b || false ≡ b
one_loose true = refl
one_loose false = refl

or_right : (a b c : Bool) → a || (b || c) ≡ (a || b) || c
or_right true b c = refl
or_right false b c = refl

loose_rows : (before : List (Written × Span)) (ss : Statements) → list_any is_loose (sentences (thens (seen_sentences before) ss)) ≡ (list_any (λ s. is_loose (expression_view s.0)) before || list_any is_loose (sentences ss))
loose_rows [] ss = refl
loose_rows (s ∷ before) ss = ap (λ b. is_loose (expression_view s.0) || b) (loose_rows before ss) ∙ or_right (is_loose (expression_view s.0)) (list_any (λ s. is_loose (expression_view s.0)) before) (list_any is_loose (sentences ss))

pub loose_sentences : (s : Row) → list_any is_loose (sentences (statements_view s)) ≡ (list_any (λ s. is_loose (expression_view s.0)) (out-Statements s).before.items || is_loose (expression_view (out-Statements s).last))
loose_sentences s =
    let r = out-Statements s in
    let any = list_any (λ (x : Written × Span). is_loose (expression_view x.0)) r.before.items in
    ap (λ (ss : Statements). list_any is_loose (sentences ss)) (statements_out s) ∙ loose_rows r.before.items (last_of r.caret (expression_view r.last) r.period) ∙ ap (λ (es : List Expression). any || list_any is_loose es) (one_sentence r.caret (expression_view r.last) r.period) ∙ ap (λ (b : Bool). any || b) (one_loose (is_loose (expression_view r.last)))
