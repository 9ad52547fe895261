use Rattle.std.proofs.Common.{◌≡◌, ◌-◌, length, length-append, suc, Some, refl, sym, ap, ◌∙◌, arith}
use Rattle.std.specs.Prelude.{option_map}
use Rattle.std.proofs.lemmas.List.{map-append}
use Rattle.std.specs.declared.vec.Vec.{Vec}
use Rattle.std.specs.declared.alloc.Global.{Global}
use Rattle.st_reader.specs.declared.trees.Span.{Span}
use Rattle.st_reader.specs.declared.trees.Name.{Name}
use Rattle.st_reader.specs.declared.trees.Chain.{Chain}
use Rattle.st_reader.specs.declared.trees.Message.{Message as Sent}
use Rattle.st_reader.specs.TreeViews.{chain_view, message_view, expression_view, assigns, seen_parts, seen_further, seen_sentences}
use Rattle.st_reader.specs.Lexemes.{tokens_of, seen, name_at}
use Rattle.st_reader.specs.Parser.{term_of, binary_of, keyword_parts_of, message_of, further_messages_of, with_further, expression_of, statements_with, group_of, block_of}
use Rattle.st_reader.proofs.Shorter.{with_tokens, expression_of-shortens, group_of-keeps, block_of-keeps}
use Rattle.st_reader.proofs.Results.{gives_err}
use Rattle.st_reader.proofs.Operations.{operations_begin, operations_none, operations_fail, operations_step, operations_smaller, operations_done}
use Rattle.st_reader.proofs.Parts.{parts_full, parts_fail, parts_step, parts_smaller, parts_done}
use Rattle.st_reader.proofs.Further.{further_fail, further_step, further_smaller, further_done}
use Rattle.st_reader.proofs.Sentences.{caret_fail, caret_done, sentence_fail, sentence_last, sentence_end, sentence_step, sentence_smaller}
use Rattle.st_reader.proofs.Expressions.{expression_is, expression_chain, expression_parts, expression_further, expression_whole}
use Rattle.st_reader.proofs.parser.expressions.+read.Goals as goal

-- ---- binary messages

pub binary-returns-in_err-chain : goal.binary-returns-in_err-chain
binary-returns-in_err-chain t c =
    let g = group_of c.args.nesting in
    let b = block_of c.args.nesting in
    let ts = tokens_of c.args.source.now c.args.lexemes.now in
    gives_err _ (seen chain_view c.args.source.now) _ c.in_err-chain.field-0.0 (term_of g b ts) (binary_of g b ts) c.from_residual.ensures.1 (operations_none c.args.source.now g b ts) c.in_err-chain.ensures

pub binary-loop-operator-init : goal.binary-loop-operator-init
binary-loop-operator-init t c =
    let s = c.args.source.now in
    operations_begin s (group_of c.args.nesting) (block_of c.args.nesting) (tokens_of s c.args.lexemes.now) (chain_view c.in_ok-chain.chain) c.in_ok-chain.rest.now c.in_ok-chain.ensures

pub binary-returns-in_err-argument : goal.binary-returns-in_err-argument
binary-returns-in_err-argument t c =
    let s = c.args.source.now in
    let g = group_of c.args.nesting in
    let b = block_of c.args.nesting in
    let all = binary_of g b (tokens_of s c.args.lexemes.now) in
    let l = c.loop-operator in
    gives_err _ (seen chain_view c.args.source.now) _ c.in_err-argument.field-0.0 (term_of g b (tokens_of s c.in-Some.after.now)) all c.from_residual-in_err-argument.ensures.1 (operations_fail s g b all (chain_view l.chain) l.rest.now c.in-Some.operator c.in-Some.after.now c.in-Some.ensures.0 c.in-Some.ensures.1 l.invariant) c.in_err-argument.ensures

pub binary-loop-operator-smaller : goal.binary-loop-operator-smaller
binary-loop-operator-smaller t c =
    let n = c.args.nesting in
    operations_smaller c.args.source.now (group_of n) (block_of n) (group_of-keeps n) (block_of-keeps n) c.loop-operator.rest.now c.in-Some.operator c.in-Some.after.now (chain_view c.in_ok-argument.argument) c.in_ok-argument.behind.now c.in-Some.ensures.0 c.in_ok-argument.ensures

pub binary-loop-operator-preserved : goal.binary-loop-operator-preserved
binary-loop-operator-preserved t c =
    let s = c.args.source.now in
    let n = c.args.nesting in
    let l = c.loop-operator in
    operations_step s (group_of n) (block_of n) (group_of-keeps n) (block_of-keeps n) (binary_of (group_of n) (block_of n) (tokens_of s c.args.lexemes.now)) (chain_view l.chain) (chain_view c.in_ok-chain-2.chain) l.rest.now c.in-Some.operator c.in-Some.after.now (name_at s c.in-Some.operator.span) (chain_view c.in_ok-argument.argument) c.in_ok-argument.behind.now c.in-Some.ensures.0 c.in-Some.ensures.1 c.in_ok-argument.ensures refl c.in_ok-chain-2.ensures l.invariant

pub binary-returns : goal.binary-returns
binary-returns t c =
    let s = c.args.source.now in
    let n = c.args.nesting in
    operations_done s (group_of n) (block_of n) (binary_of (group_of n) (block_of n) (tokens_of s c.args.lexemes.now)) (chain_view c.loop-operator.chain) c.loop-operator.rest.now c.in_default.ensures c.loop-operator.invariant

-- ---- keywords with their arguments

pub parts-returns-then-len-ge-ARGUMENTS : goal.parts-returns-then-len-ge-ARGUMENTS
parts-returns-then-len-ge-ARGUMENTS t c =
    let s = c.args.source.now in
    let g = group_of c.args.nesting in
    let b = block_of c.args.nesting in
    let l = c.loop-keyword in
    parts_full s g b (keyword_parts_of g b 8 (tokens_of s c.args.lexemes.now)) (seen_parts l.parts.items) (8 - length l.parts.items) l.rest.now c.in-Some.keyword c.in-Some.after.now (omega arith) c.in-Some.ensures.0 c.in-Some.ensures.1 l.invariant.1

pub parts-returns-in_err-argument : goal.parts-returns-in_err-argument
parts-returns-in_err-argument t c =
    let s = c.args.source.now in
    let g = group_of c.args.nesting in
    let b = block_of c.args.nesting in
    let l = c.loop-keyword in
    let all = keyword_parts_of g b 8 (tokens_of s c.args.lexemes.now) in
    let one : 8 - length l.parts.items ≡ suc (7 - length l.parts.items) = omega arith in
    gives_err _ (seen chain_view c.args.source.now) _ c.in_err-argument.field-0.0 (binary_of g b (tokens_of s c.in-Some.after.now)) all c.from_residual.ensures.1 (parts_fail s g b all (seen_parts l.parts.items) (8 - length l.parts.items) (7 - length l.parts.items) l.rest.now c.in-Some.keyword c.in-Some.after.now one c.in-Some.ensures.0 c.in-Some.ensures.1 l.invariant.1) c.in_err-argument.ensures

pub parts-loop-keyword-smaller : goal.parts-loop-keyword-smaller
parts-loop-keyword-smaller t c =
    let n = c.args.nesting in
    parts_smaller c.args.source.now (group_of n) (block_of n) (group_of-keeps n) (block_of-keeps n) c.loop-keyword.rest.now c.in-Some.keyword c.in-Some.after.now (chain_view c.in_ok-argument.argument) c.in_ok-argument.behind.now c.in-Some.ensures.0 c.in_ok-argument.ensures

pub parts-loop-keyword-preserved : goal.parts-loop-keyword-preserved
parts-loop-keyword-preserved t c =
    let s = c.args.source.now in
    let g = group_of c.args.nesting in
    let b = block_of c.args.nesting in
    let l = c.loop-keyword in
    let long : length c.push.new.self.items ≡ suc (length l.parts.items) = ap length c.in-Ok.ensures.items ∙ length-append l.parts.items _ ∙ omega arith in
    let one : 8 - length l.parts.items ≡ suc (8 - length c.push.new.self.items) = omega (arith, long) in
    (omega (arith, long), parts_step s g b (keyword_parts_of g b 8 (tokens_of s c.args.lexemes.now)) (seen_parts l.parts.items) (seen_parts c.push.new.self.items) (8 - length l.parts.items) (8 - length c.push.new.self.items) l.rest.now c.in-Some.keyword c.in-Some.after.now c.in_ok-keyword.keyword (chain_view c.in_ok-argument.argument) c.in_ok-argument.behind.now one c.in-Some.ensures.0 c.in-Some.ensures.1 c.in_ok-argument.ensures c.in_ok-keyword.ensures (ap seen_parts c.in-Ok.ensures.items ∙ map-append _ l.parts.items _) l.invariant.1)

pub parts-returns : goal.parts-returns
parts-returns t c =
    let s = c.args.source.now in
    let g = group_of c.args.nesting in
    let b = block_of c.args.nesting in
    let l = c.loop-keyword in
    parts_done s g b (keyword_parts_of g b 8 (tokens_of s c.args.lexemes.now)) (seen_parts l.parts.items) (8 - length l.parts.items) l.rest.now c.in_default.ensures l.invariant.1

-- ---- messages behind semicolons

pub further-returns-in_err-message : goal.further-returns-in_err-message
further-returns-in_err-message t c =
    let s = c.args.source.now in
    let g = group_of c.args.nesting in
    let b = block_of c.args.nesting in
    let l = c.loop-semicolon in
    let ts = tokens_of s c.args.lexemes.now in
    let all = further_messages_of g b (length ts) ts in
    gives_err _ (seen message_view c.args.source.now) _ c.in_err-message.field-0.0 (message_of g b (tokens_of s c.in-Some.after.now)) all c.from_residual.ensures.1 (further_fail s g b all (seen_further l.further.items) l.rest.now c.in-Some.semicolon c.in-Some.after.now c.in-Some.ensures.0 c.in-Some.ensures.1 l.invariant) c.in_err-message.ensures

pub further-loop-semicolon-smaller : goal.further-loop-semicolon-smaller
further-loop-semicolon-smaller t c =
    let n = c.args.nesting in
    further_smaller c.args.source.now (group_of n) (block_of n) (group_of-keeps n) (block_of-keeps n) c.loop-semicolon.rest.now c.in-Some.semicolon c.in-Some.after.now (message_view c.in_ok-message.message) c.in_ok-message.behind.now c.in-Some.ensures.0 c.in_ok-message.ensures

pub further-loop-semicolon-preserved : goal.further-loop-semicolon-preserved
further-loop-semicolon-preserved t c =
    let s = c.args.source.now in
    let n = c.args.nesting in
    let l = c.loop-semicolon in
    let ts = tokens_of s c.args.lexemes.now in
    further_step s (group_of n) (block_of n) (group_of-keeps n) (block_of-keeps n) (further_messages_of (group_of n) (block_of n) (length ts) ts) (seen_further l.further.items) (seen_further c.push.new.self.items) l.rest.now c.in-Some.semicolon c.in-Some.after.now (message_view c.in_ok-message.message) c.in_ok-message.behind.now c.in-Some.ensures.0 c.in-Some.ensures.1 c.in_ok-message.ensures (ap seen_further c.in-Ok.ensures.items ∙ map-append _ l.further.items _) l.invariant

pub further-returns : goal.further-returns
further-returns t c =
    let s = c.args.source.now in
    let g = group_of c.args.nesting in
    let b = block_of c.args.nesting in
    let l = c.loop-semicolon in
    let ts = tokens_of s c.args.lexemes.now in
    further_done s g b (further_messages_of g b (length ts) ts) (seen_further l.further.items) l.rest.now c.in_default.ensures l.invariant

-- ---- an expression

pub expression-returns-in_err-chain : goal.expression-returns-in_err-chain
expression-returns-in_err-chain t c =
    let s = c.args.source.now in
    let g = group_of c.args.nesting in
    let b = block_of c.args.nesting in
    let ts = tokens_of s c.args.lexemes.now in
    let rest = tokens_of s c.in_ok-targets.rest.now in
    gives_err _ (seen chain_view c.args.source.now) _ c.in_err-chain.field-0.0 (binary_of g b rest) (expression_of c.args.nesting ts) c.from_residual-in_err-chain.ensures.1 (λ none. expression_is c.args.nesting ts ∙ expression_chain g b ts rest c.in_ok-targets.targets c.in_ok-targets.ensures none) c.in_err-chain.ensures

pub expression-returns-in_err-parts : goal.expression-returns-in_err-parts
expression-returns-in_err-parts t c =
    let s = c.args.source.now in
    let g = group_of c.args.nesting in
    let b = block_of c.args.nesting in
    let ts = tokens_of s c.args.lexemes.now in
    let rest = tokens_of s c.in_ok-targets.rest.now in
    let after = tokens_of s c.in_ok-chain.rest.now in
    gives_err _ (seen (λ (v : Vec (Name × Chain) Global). seen_parts v.items) c.args.source.now) _ c.in_err-parts.field-0.0 (keyword_parts_of g b 8 after) (expression_of c.args.nesting ts) c.from_residual-in_err-parts.ensures.1 (λ none. expression_is c.args.nesting ts ∙ expression_parts g b ts rest after c.in_ok-targets.targets (chain_view c.in_ok-chain.chain) c.in_ok-targets.ensures c.in_ok-chain.ensures none) c.in_err-parts.ensures

pub expression-returns-in_err-further : goal.expression-returns-in_err-further
expression-returns-in_err-further t c =
    let s = c.args.source.now in
    let g = group_of c.args.nesting in
    let b = block_of c.args.nesting in
    let ts = tokens_of s c.args.lexemes.now in
    let rest = tokens_of s c.in_ok-targets.rest.now in
    let after = tokens_of s c.in_ok-chain.rest.now in
    let more = tokens_of s c.in_ok-parts.rest.now in
    gives_err _ (seen (λ (v : Vec (Span × Sent) Global). seen_further v.items) c.args.source.now) _ c.in_err-further.field-0.0 (further_messages_of g b (length more) more) (expression_of c.args.nesting ts) c.from_residual-in_err-further.ensures.1 (λ none. expression_is c.args.nesting ts ∙ expression_further g b ts rest after more c.in_ok-targets.targets (chain_view c.in_ok-chain.chain) (chain_view c.in_ok-receiver.receiver) (seen_parts c.in_ok-parts.parts.items) c.in_ok-targets.ensures c.in_ok-chain.ensures c.in_ok-parts.ensures c.in_ok-receiver.ensures none) c.in_err-further.ensures

pub expression-returns-in_err-with_further : goal.expression-returns-in_err-with_further
expression-returns-in_err-with_further t c =
    let s = c.args.source.now in
    let g = group_of c.args.nesting in
    let b = block_of c.args.nesting in
    let ts = tokens_of s c.args.lexemes.now in
    let rest = tokens_of s c.in_ok-targets.rest.now in
    let after = tokens_of s c.in_ok-chain.rest.now in
    let more = tokens_of s c.in_ok-parts.rest.now in
    let end = tokens_of s c.in_ok-further.rest.now in
    let made = option_map (assigns c.in_ok-targets.targets) (with_further (chain_view c.in_ok-receiver.receiver) (seen_further c.in_ok-further.further.items)) in
    gives_err _ expression_view _ c.in_err-with_further.field-0.0 made (expression_of c.args.nesting ts) c.from_residual-in_err-with_further.ensures.1 (λ none. expression_is c.args.nesting ts ∙ expression_whole g b ts rest after more end c.in_ok-targets.targets (chain_view c.in_ok-chain.chain) (chain_view c.in_ok-receiver.receiver) (seen_parts c.in_ok-parts.parts.items) (seen_further c.in_ok-further.further.items) c.in_ok-targets.ensures c.in_ok-chain.ensures c.in_ok-parts.ensures c.in_ok-receiver.ensures c.in_ok-further.ensures ∙ ap (option_map (with_tokens end)) none) c.in_err-with_further.ensures.gives

pub expression-returns : goal.expression-returns
expression-returns t c =
    let s = c.args.source.now in
    let g = group_of c.args.nesting in
    let b = block_of c.args.nesting in
    let ts = tokens_of s c.args.lexemes.now in
    let rest = tokens_of s c.in_ok-targets.rest.now in
    let after = tokens_of s c.in_ok-chain.rest.now in
    let more = tokens_of s c.in_ok-parts.rest.now in
    let end = tokens_of s c.in_ok-further.rest.now in
    expression_is c.args.nesting ts ∙ expression_whole g b ts rest after more end c.in_ok-targets.targets (chain_view c.in_ok-chain.chain) (chain_view c.in_ok-receiver.receiver) (seen_parts c.in_ok-parts.parts.items) (seen_further c.in_ok-further.further.items) c.in_ok-targets.ensures c.in_ok-chain.ensures c.in_ok-parts.ensures c.in_ok-receiver.ensures c.in_ok-further.ensures ∙ ap (option_map (with_tokens end)) c.in_ok-with_further.ensures.gives

-- ---- statements

pub statements-returns-in_err-last : goal.statements-returns-in_err-last
statements-returns-in_err-last t c =
    let s = c.args.source.now in
    let p = expression_of c.args.nesting in
    let l = c.loop-caret in
    let ts = tokens_of s c.args.lexemes.now in
    let all = statements_with p (length ts) ts in
    gives_err _ (seen expression_view c.args.source.now) _ c.in_err-last.field-0.0 (p (tokens_of s c.in-Some.after.now)) all c.from_residual.ensures.1 (caret_fail s p all (seen_sentences l.before.items) l.rest.now c.in-Some.caret c.in-Some.after.now c.in-Some.ensures.0 c.in-Some.ensures.1 l.invariant) c.in_err-last.ensures

pub statements-returns-in-Some : goal.statements-returns-in-Some
statements-returns-in-Some t c =
    let s = c.args.source.now in
    let p = expression_of c.args.nesting in
    let l = c.loop-caret in
    let ts = tokens_of s c.args.lexemes.now in
    caret_done s p (statements_with p (length ts) ts) (seen_sentences l.before.items) l.rest.now c.in-Some.caret c.in-Some.after.now (expression_view c.in_ok-last.last) (tokens_of s c.in_ok-last.behind.now) c.in-Some.ensures.0 c.in-Some.ensures.1 l.invariant c.in_ok-last.ensures ∙ ap (λ r. Some r) (sym (c.answered.ensures s))

pub statements-returns-in_err-sentence : goal.statements-returns-in_err-sentence
statements-returns-in_err-sentence t c =
    let s = c.args.source.now in
    let p = expression_of c.args.nesting in
    let l = c.loop-caret in
    let ts = tokens_of s c.args.lexemes.now in
    let all = statements_with p (length ts) ts in
    gives_err _ (seen expression_view c.args.source.now) _ c.in_err-sentence.field-0.0 (p (tokens_of s l.rest.now)) all c.from_residual-in_err-sentence.ensures.1 (sentence_fail s p all (seen_sentences l.before.items) l.rest.now c.in_default.ensures l.invariant) c.in_err-sentence.ensures

pub statements-returns-in_default-next : goal.statements-returns-in_default-next
statements-returns-in_default-next t c =
    let s = c.args.source.now in
    let n = c.args.nesting in
    let l = c.loop-caret in
    let ts = tokens_of s c.args.lexemes.now in
    let end = tokens_of s c.in_ok-sentence.after.now in
    sentence_last s (expression_of n) (expression_of-shortens n) (statements_with (expression_of n) (length ts) ts) (seen_sentences l.before.items) l.rest.now c.in_ok-sentence.after.now (expression_view c.in_ok-sentence.sentence) c.in_default.ensures l.invariant c.in_ok-sentence.ensures c.in_default-next.ensures ∙ ap (λ r. Some (r, end)) (sym c.unanswered.ensures)

pub statements-returns-then-is_end : goal.statements-returns-then-is_end
statements-returns-then-is_end t c =
    let s = c.args.source.now in
    let n = c.args.nesting in
    let l = c.loop-caret in
    let ts = tokens_of s c.args.lexemes.now in
    let end = tokens_of s c.in-Some-next.behind.now in
    sentence_end s (expression_of n) (expression_of-shortens n) (statements_with (expression_of n) (length ts) ts) (seen_sentences l.before.items) l.rest.now c.in_ok-sentence.after.now (expression_view c.in_ok-sentence.sentence) c.in-Some-next.period c.in-Some-next.behind.now c.in_default.ensures l.invariant c.in_ok-sentence.ensures c.in-Some-next.ensures.0 c.in-Some-next.ensures.1 (sym (c.is_end.ensures s) ∙ c.if-is_end.true) ∙ ap (λ r. Some (r, end)) (sym c.unanswered-then-is_end.ensures)

pub statements-loop-caret-smaller : goal.statements-loop-caret-smaller
statements-loop-caret-smaller t c =
    let n = c.args.nesting in
    sentence_smaller c.args.source.now (expression_of n) (expression_of-shortens n) c.loop-caret.rest.now c.in_ok-sentence.after.now (expression_view c.in_ok-sentence.sentence) c.in-Some-next.period c.in-Some-next.behind.now c.in_ok-sentence.ensures c.in-Some-next.ensures.0

pub statements-loop-caret-preserved : goal.statements-loop-caret-preserved
statements-loop-caret-preserved t c =
    let s = c.args.source.now in
    let n = c.args.nesting in
    let l = c.loop-caret in
    let ts = tokens_of s c.args.lexemes.now in
    sentence_step s (expression_of n) (expression_of-shortens n) (statements_with (expression_of n) (length ts) ts) (seen_sentences l.before.items) (seen_sentences c.push.new.self.items) l.rest.now c.in_ok-sentence.after.now (expression_view c.in_ok-sentence.sentence) c.in-Some-next.period c.in-Some-next.behind.now c.in_default.ensures l.invariant c.in_ok-sentence.ensures c.in-Some-next.ensures.0 c.in-Some-next.ensures.1 (sym (c.is_end.ensures s) ∙ c.if-is_end.false) (ap seen_sentences c.in-Ok.ensures.items ∙ map-append _ l.before.items _)
