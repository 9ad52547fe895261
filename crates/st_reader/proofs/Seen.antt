-- What trees show, one level at a time.
use Rattle.std.proofs.Common.{◌≡◌, ◌≢◌, List, [], ◌∷◌, ◌++◌, map, Option, Some, None, refl, sym, ap, subst, ◌∙◌}
use Rattle.std.specs.Prelude.{option_map}
use Rattle.std.proofs.lemmas.List.{map-append}
use Rattle.std.specs.declared.vec.Vec.{Vec}
use Rattle.std.specs.declared.alloc.Global.{Global}
use Rattle.st_reader.specs.declared.trees.Span.{Span}
use Rattle.st_reader.specs.declared.trees.Name.{Name}
use Rattle.st_reader.specs.declared.trees.Target.{Target}
use Rattle.st_reader.specs.declared.trees.Operand.{Operand, fold-roll-Operand, fold_out-Operand, Operand-F, Block}
use Rattle.st_reader.specs.declared.trees.Chain.{Chain, out-Chain, roll-Chain, fold-roll-Chain, fold_out-Chain}
use Rattle.st_reader.specs.declared.trees.Expression.{roll-Expression, fold-roll-Expression}
use Rattle.st_reader.specs.declared.trees.Statements.{Statements as Row, roll-Statements, fold-roll-Statements}
use Rattle.st_reader.specs.declared.trees.Message.{Message as Sent, fold-roll-Message, Message-F, Unary, Binary}
use Rattle.st_reader.specs.declared.trees.Message.TheVariants.{rolls-Unary, rolls-Binary}
use Rattle.st_reader.specs.declared.trees.Operand.TheVariants.{rolls-Block}
use Rattle.std.specs.declared.boxed.Box.{Box}
use Rattle.st_reader.specs.Syntax.{Expression, Message, Statements, send, cascade, unary, binary, block}
use Rattle.st_reader.specs.TreeViews.{sends, assigns, further_of, thens, last_of, operand_view, message_view, chain_view, expression_view, statements_view, message_step, operand_step, chain_step, expression_step, statements_step, seen_further}
use Rattle.st_reader.specs.Parser.{with_further}

pub sends-append : (e : Expression) (ms : List Message) (m : Message) → sends e (ms ++ m ∷ []) ≡ send (sends e ms) m
sends-append e [] m = refl
sends-append e (n ∷ ms) m = sends-append (send e n) ms m

pub chain_is : (r : _) → chain_view (roll-Chain r) ≡ sends (operand_view r.operand) (map message_view r.messages.items)
chain_is r = fold-roll-Chain Message Expression Expression Expression Statements message_step operand_step chain_step expression_step statements_step r

pub chain_out : (c : Chain) → chain_view c ≡ sends (operand_view (out-Chain c).operand) (map message_view (out-Chain c).messages.items)
chain_out c = fold_out-Chain Message Expression Expression Expression Statements message_step operand_step chain_step expression_step statements_step c

pub plain_is : (t : List Target) (c : Chain) → expression_view (roll-Expression (record { targets = t; receiver = c; cascade = None })) ≡ assigns t (chain_view c)
plain_is t c = fold-roll-Expression Message Expression Expression Expression Statements message_step operand_step chain_step expression_step statements_step (record { targets = t; receiver = c; cascade = None })

pub cascade_is : (t : List Target) (c : Chain) (m : Sent) (fs : Vec (Span × Sent) Global) → expression_view (roll-Expression (record { targets = t; receiver = c; cascade = Some (m, fs) })) ≡ assigns t (cascade (chain_view c) (message_view m) (further_of (seen_further fs.items)))
cascade_is t c m fs = fold-roll-Expression Message Expression Expression Expression Statements message_step operand_step chain_step expression_step statements_step (record { targets = t; receiver = c; cascade = Some (m, fs) })

pub statements_is : (r : _) → statements_view (roll-Statements r) ≡ thens (map (λ s. (expression_view s.0, s.1)) r.before.items) (last_of r.caret (expression_view r.last) r.period)
statements_is r = fold-roll-Statements Message Expression Expression Expression Statements message_step operand_step chain_step expression_step statements_step r

-- an operand is no message that was sent
abbrev NoSend : Expression → Type 0
NoSend e = (f : Span × Message) (fs : List (Span × Message)) → with_further e (f ∷ fs) ≡ None

step_sends : (d : Operand-F Message Expression Expression Expression Statements) → NoSend (operand_step d)
step_sends (Operand-F.Number value span minus) f fs = refl
step_sends (Operand-F.Symbol n) f fs = refl
step_sends (Operand-F.Name n) f fs = refl
step_sends (Operand-F.Parenthesis opening inside closing) f fs = refl
step_sends (Operand-F.Block opening None closing) f fs = refl
step_sends (Operand-F.Block opening (Some inside) closing) f fs = refl

operand_sends : (o : Operand) → NoSend (operand_view o)
operand_sends o = subst NoSend (sym (fold_out-Operand Message Expression Expression Expression Statements message_step operand_step chain_step expression_step statements_step o)) (step_sends _)

-- one message more
pub push_is : (c : Chain) (m : Sent) (ms : Vec Sent Global) → ms.items ≡ (out-Chain c).messages.items ++ m ∷ [] → chain_view (roll-Chain (record { operand = (out-Chain c).operand; messages = ms })) ≡ send (chain_view c) (message_view m)
push_is c m ms e =
    let o : Expression = operand_view (out-Chain c).operand in
    chain_is _ ∙ ap (λ (l : List Sent). sends o (map message_view l)) e ∙ ap (sends o) (map-append message_view (out-Chain c).messages.items (m ∷ [])) ∙ sends-append o (map message_view (out-Chain c).messages.items) (message_view m) ∙ ap (λ (x : Expression). send x (message_view m)) (sym (chain_out c))

-- one message less
pub pop_is : (c : Chain) (m : Sent) (ms : Vec Sent Global) → (out-Chain c).messages.items ≡ ms.items ++ m ∷ [] → chain_view c ≡ send (chain_view (roll-Chain (record { operand = (out-Chain c).operand; messages = ms }))) (message_view m)
pop_is c m ms e =
    let o : Expression = operand_view (out-Chain c).operand in
    chain_out c ∙ ap (λ (l : List Sent). sends o (map message_view l)) e ∙ ap (sends o) (map-append message_view ms.items (m ∷ [])) ∙ sends-append o (map message_view ms.items) (message_view m) ∙ ap (λ (x : Expression). send x (message_view m)) (sym (chain_is _))

pub none_further : (t : List Target) (c : Chain) (fs : List (Span × Sent)) → (out-Chain c).messages.items ≡ [] → (fs ≢ []) → option_map (assigns t) (with_further (chain_view c) (seen_further fs)) ≡ None
none_further t c [] e some = absurd (some refl)
none_further t c (f ∷ fs) e some =
    let o : Expression = operand_view (out-Chain c).operand in
    let bare : chain_view c ≡ o = chain_out c ∙ ap (λ (l : List Sent). sends o (map message_view l)) e in
    ap (λ (x : Expression). option_map (assigns t) (with_further x (seen_further (f ∷ fs)))) bare ∙ ap (option_map (assigns t)) (operand_sends (out-Chain c).operand (f.0, message_view f.1) (seen_further fs))

pub further_is : (t : List Target) (c : Chain) (m : Sent) (ms : Vec Sent Global) (fs : Vec (Span × Sent) Global) → (out-Chain c).messages.items ≡ ms.items ++ m ∷ [] → (fs.items ≢ []) → option_map (assigns t) (with_further (chain_view c) (seen_further fs.items)) ≡ Some (expression_view (roll-Expression (record { targets = t; receiver = roll-Chain (record { operand = (out-Chain c).operand; messages = ms }); cascade = Some (m, fs) })))
further_is t c m ms fs e some = ap (λ (x : Expression). option_map (assigns t) (with_further x (seen_further fs.items))) (pop_is c m ms e) ∙ made fs.items some ∙ ap some_of (sym (cascade_is t (roll-Chain (record { operand = (out-Chain c).operand; messages = ms })) m fs))
  where
    some_of : Expression → Option Expression
    some_of x = Some x

    r : Expression
    r = chain_view (roll-Chain (record { operand = (out-Chain c).operand; messages = ms }))

    made : (l : List (Span × Sent)) → (l ≢ []) → option_map (assigns t) (with_further (send r (message_view m)) (seen_further l)) ≡ Some (assigns t (cascade r (message_view m) (further_of (seen_further l))))
    made [] other = absurd (other refl)
    made (f ∷ l) other = refl

pub chain_expression : (t : List Target) (c : Chain) (fs : List (Span × Sent)) → fs ≡ [] → option_map (assigns t) (with_further (chain_view c) (seen_further fs)) ≡ Some (expression_view (roll-Expression (record { targets = t; receiver = c; cascade = None })))
chain_expression t c fs e = ap (λ (l : List (Span × Sent)). option_map (assigns t) (with_further (chain_view c) (seen_further l))) e ∙ ap some_of (sym (plain_is t c))
  where
    some_of : Expression → Option Expression
    some_of x = Some x

pub unary_is : (n : Name) → message_view (Unary n) ≡ unary n
unary_is n = ap message_view (sym (rolls-Unary n)) ∙ fold-roll-Message Message Expression Expression Expression Statements message_step operand_step chain_step expression_step statements_step (Message-F.Unary n)

pub block_is : (opening closing : Span) (b : Box Row Global) → operand_view (Block opening (Some b) closing) ≡ block opening (statements_view b.value) closing
block_is opening closing b =
    ap operand_view (sym (rolls-Block opening (Some b) closing)) ∙ fold-roll-Operand Message Expression Expression Expression Statements message_step operand_step chain_step expression_step statements_step (Operand-F.Block opening (Some b) closing)

pub binary_is : (n : Name) (c : Chain) → message_view (Binary n c) ≡ binary n (chain_view c)
binary_is n c = ap message_view (sym (rolls-Binary n c)) ∙ fold-roll-Message Message Expression Expression Expression Statements message_step operand_step chain_step expression_step statements_step (Message-F.Binary n c)
