use Rattle.std.proofs.Common.{◌≡◌, Bool, true, false, List, map, refl, sym, ap, ◌∙◌, arith}
use Rattle.std.specs.Prelude.{◌&&◌}
use Rattle.std.proofs.lemmas.Bool.{and_left, and_right}
use Rattle.st_reader.specs.declared.trees.Span.{Span}
use Rattle.st_reader.specs.declared.trees.Message.{Message as Sent}
use Rattle.st_reader.specs.Syntax.{cascade}
use Rattle.st_reader.specs.TreeViews.{message_view, chain_view, sends, further_of, seen_further}
use Rattle.st_reader.specs.WellFormed.{message_allowed, further_allowed, is_well_placed}
use Rattle.st_reader.specs.Variables.{argument_texts}
use Rattle.st_reader.proofs.Allowed.{cascade_allowed, sending_fails}
use Rattle.st_reader.proofs.rules.+rules.Goals as goal
use Rattle.st_reader.proofs.rules.+rules.Goals.{messages_allowed-then-not-stands-via-then-not-stands, messages_allowed-then-not-stands-via-else-not-stands+then-not-message_allowed}

-- ---- a cascade: its place, its first message, and the further ones

none : (whole s n f : Bool) → whole ≡ (s && n && f) → s ≡ false → false ≡ whole
none whole s n f e p = grind arith

last : (whole s n f : Bool) → whole ≡ (s && n && f) → s ≡ true → n ≡ true → f ≡ whole
last whole s n f e p q = grind arith

first : (whole s n f : Bool) → whole ≡ (s && n && f) → s ≡ true → n ≡ false → n ≡ whole
first whole s n f e p q = grind arith

pub expression_allowed-returns-then-not-cascade_stands : goal.expression_allowed-returns-then-not-cascade_stands
expression_allowed-returns-then-not-cascade_stands t c =
    let r = chain_view c.args.expression.now.receiver in
    let whole = cascade_allowed (argument_texts c.args.pattern.now) c.args.expression.now c.in-Some.first c.in-Some.further (sym c.may_assign.ensures ∙ c.if-not-may_assign.false) c.in-Some.is (sym c.chain_allowed.ensures ∙ c.if-not-chain_allowed.false) in
    let test = c.cascade_stands.ensures ∙ ap (λ (l : List (Span × Sent)). is_well_placed (cascade r (message_view c.in-Some.first) (further_of (seen_further l)))) c.deref.ensures.value in
    none _ _ _ _ whole (sym test ∙ c.if-not-cascade_stands.true)

pub expression_allowed-returns-then-message_allowed : goal.expression_allowed-returns-then-message_allowed
expression_allowed-returns-then-message_allowed t c =
    let fixed = argument_texts c.args.pattern.now in
    let r = chain_view c.args.expression.now.receiver in
    let whole = cascade_allowed fixed c.args.expression.now c.in-Some.first c.in-Some.further (sym c.may_assign.ensures ∙ c.if-not-may_assign.false) c.in-Some.is (sym c.chain_allowed.ensures ∙ c.if-not-chain_allowed.false) in
    let test = c.cascade_stands.ensures ∙ ap (λ (l : List (Span × Sent)). is_well_placed (cascade r (message_view c.in-Some.first) (further_of (seen_further l)))) c.deref.ensures.value in
    let rest = c.further_allowed.ensures ∙ ap (λ (l : List (Span × Sent)). further_allowed fixed (further_of (seen_further l))) c.deref-then-message_allowed.ensures.value in
    rest ∙ last _ _ _ _ whole (sym test ∙ c.if-not-cascade_stands.false) (sym c.message_allowed.ensures ∙ c.if-message_allowed.true)

pub expression_allowed-returns-else-message_allowed : goal.expression_allowed-returns-else-message_allowed
expression_allowed-returns-else-message_allowed t c =
    let r = chain_view c.args.expression.now.receiver in
    let whole = cascade_allowed (argument_texts c.args.pattern.now) c.args.expression.now c.in-Some.first c.in-Some.further (sym c.may_assign.ensures ∙ c.if-not-may_assign.false) c.in-Some.is (sym c.chain_allowed.ensures ∙ c.if-not-chain_allowed.false) in
    let test = c.cascade_stands.ensures ∙ ap (λ (l : List (Span × Sent)). is_well_placed (cascade r (message_view c.in-Some.first) (further_of (seen_further l)))) c.deref.ensures.value in
    c.message_allowed.ensures ∙ first _ _ _ _ whole (sym test ∙ c.if-not-cascade_stands.false) (sym c.message_allowed.ensures ∙ c.if-message_allowed.false)

-- ---- messages to a receiver

pub messages_allowed-returns-then-not-stands : goal.messages_allowed-returns-then-not-stands
messages_allowed-returns-then-not-stands t c = λ e is passes.
    let fixed = argument_texts c.args.pattern.now in
    let l = c.loop-message in
    let m = c.message-item.result in
    let passed = message_allowed fixed (message_view m) in
    let one : (c.stands.result && passed) ≡ false =
    elim c.then-not-stands.branch [ messages_allowed-then-not-stands-via-then-not-stands w ↦ and_left c.stands.result passed w.if-not-stands.true | messages_allowed-then-not-stands-via-else-not-stands+then-not-message_allowed w ↦ and_right c.stands.result passed (sym w.message_allowed.ensures ∙ w.if-not-message_allowed.true) ] in
    sending_fails fixed l.receiver (sends e (map message_view c.args.messages.now)) c.args.messages.now l.message-index m c.stands.result passed c.loop-message-test.true c.message-item.is c.stands.ensures refl one (l.invariant e is passes)
