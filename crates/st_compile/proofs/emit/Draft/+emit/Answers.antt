use Rattle.std.proofs.Common.{◌+◌, ◌++◌, ◌∷◌, [], None, Some, length, map, refl, sym, ap, ◌∙◌, arith}
use Rattle.std.specs.Prelude.{slice_set}
use Rattle.std.proofs.lemmas.List.{length-map}
use Rattle.std.proofs.lemmas.Result.{on_ok_weaker}
use Rattle.st_reader.specs.declared.trees.Statements.{out-Statements}
use Rattle.st_reader.specs.TreeViews.{chain_view, expression_view}
use Rattle.st_compile.specs.DraftCode.{Word, line, return}
use Rattle.st_compile.specs.Equations.{code}
use Rattle.st_compile.specs.DraftViews.{line_of}
use Rattle.st_compile.specs.DraftGrowth.{branch_word, arm_code, goes_up}
use Rattle.st_compile.proofs.Lines.{patch_either, patch_loop}
use Rattle.st_compile.proofs.EmittingRows.{further_step}
use Rattle.st_compile.proofs.EmittingTrees.{behind, sent_keywords, inlined_many, expression_code, statements_code}
use Rattle.st_compile.proofs.emit.Draft.+emit.Goals as goal

pub either-returns-clause-code : goal.either-returns-clause-code
either-returns-clause-code t c =
    let d = c.args.depth in
    let last = map line_of c.arm-2.new.self.lines.items in
    patch_either (branch_word c.args.branch) d (map line_of c.args.self.now.lines.items) (arm_code d c.args.first) (arm_code d c.args.other) (map line_of c.put.new.self.lines.items) (map line_of c.arm.new.self.lines.items) (map line_of c.put-2.new.self.lines.items) last (map line_of c.patch.new.self.lines.items) (map line_of c.patch-2.new.self.lines.items) _ _ c.len-fork.result c.len-end.result c.len.result
    (c.len-fork.ensures ∙ c.args.self.now.lines.ok.0 ∙ sym (length-map c.args.self.now.lines.items line_of))
    c.in_ok-put.ensures.code
    c.in_ok-arm.ensures.code
    (c.len-end.ensures ∙ c.arm.new.self.lines.ok.0 ∙ sym (length-map c.arm.new.self.lines.items line_of))
    c.in_ok-put-2.ensures.code
    c.in_ok-arm-2.ensures.code
    (c.len.ensures ∙ c.arm-2.new.self.lines.ok.0 ∙ sym (length-map c.arm-2.new.self.lines.items line_of))
    (c.patch.ensures.code ∙ ap (λ (w : Word). slice_set last c.len-fork.result (line (d + 1) w)) c.over-2.ensures)
    c.patch-2.ensures.code

pub repeated-returns-clause-code : goal.repeated-returns-clause-code
repeated-returns-clause-code t c front r begun was =
    let d = c.args.depth in
    let last = map line_of c.put-4.new.self.lines.items in
    patch_loop (branch_word c.args.branch) d front r (code d (chain_view c.args.body.now)) (map line_of c.args.self.now.lines.items) (map line_of c.put.new.self.lines.items) (map line_of c.chain.new.self.lines.items) (map line_of c.put-2.new.self.lines.items) (map line_of c.put-3.new.self.lines.items) last (map line_of c.patch.new.self.lines.items) _ c.args.start c.len-fork.result c.len-end.result
    begun
    was
    (c.len-fork.ensures ∙ c.args.self.now.lines.ok.0 ∙ sym (length-map c.args.self.now.lines.items line_of))
    c.in_ok-put.ensures.code
    c.in_ok-chain.ensures.code
    c.in_ok-put-2.ensures.code
    (c.len-end.ensures ∙ c.put-2.new.self.lines.ok.0 ∙ sym (length-map c.put-2.new.self.lines.items line_of))
    c.in_ok-put-3.ensures.code
    c.in_ok-put-4.ensures.code
    (c.patch.ensures.code ∙ ap (λ (w : Word). slice_set last c.len-fork.result (line (d + 1) w)) c.over-2.ensures)

pub further-loop-message-preserved : goal.further-loop-message-preserved
further-loop-message-preserved t c =
    let l = c.loop-message in
    record {
      code = further_step c.args.depth _ (map line_of l.self.lines.items) _ c.in-Some.before.now c.in-Some.last.now l.message-index c.message-item.result (omega arith) c.message-item.is c.in_ok-kept.ensures.code l.invariant.code;
      longer = omega (arith, l.invariant.longer, c.in_ok-kept.ensures.longer);
    }

pub inlined-returns-in_default-as_slice-2-clause-code : goal.inlined-returns-in_default-as_slice-2-clause-code
inlined-returns-in_default-as_slice-2-clause-code t c front r begun was =
    was ∙ ap (λ (ls : _). front ++ ls) (sym (inlined_many c.args.depth r c.args.message.now c.in-Keyword.parts c.as_slice.result.now c.in-Keyword.is c.as_slice.ensures.value (omega arith)))

pub sent-returns-in_ok-arguments-in-Keyword-clause-code : goal.sent-returns-in_ok-arguments-in-Keyword-clause-code
sent-returns-in_ok-arguments-in-Keyword-clause-code t c =
    let qs = c.as_slice-parts.result.now in
    let old = map line_of c.arguments.new.self.lines.items in
    on_ok_weaker c.put-in-Keyword.result (λ e. sent_keywords (goes_up c.args.receiver) c.args.depth c.args.message.now c.in-Keyword.parts qs (map line_of c.args.self.now.lines.items) old (map line_of c.put-in-Keyword.new.self.lines.items) c.in-Keyword.is c.as_slice-parts.ensures.value c.in_ok-arguments-in-Keyword.ensures.code (e ∙ ap (λ (w : Word). old ++ line (c.args.depth + length qs) w ∷ []) c.sent-in-Keyword.ensures)) c.put-in-Keyword.ensures.code

pub statements-returns-in-None-clause-code : goal.statements-returns-in-None-clause-code
statements-returns-in-None-clause-code t c =
    statements_code c.args.depth c.args.statements.now c.as_slice.result.now None (map line_of c.args.self.now.lines.items) (map line_of c.dropped.new.self.lines.items) (map line_of c.expression.new.self.lines.items) _ c.as_slice.ensures.value c.in-None.is c.in_ok-dropped.ensures.code refl c.in_ok-expression.ensures.code

pub statements-returns-in-Some-clause-code : goal.statements-returns-in-Some-clause-code
statements-returns-in-Some-clause-code t c =
    let d = c.args.depth in
    let value = code d (expression_view (out-Statements c.args.statements.now).last) in
    let dropped = map line_of c.dropped.new.self.lines.items in
    on_ok_weaker c.put.result (λ e. statements_code d c.args.statements.now c.as_slice.result.now (Some c.in-Some.field-0) (map line_of c.args.self.now.lines.items) dropped (map line_of c.put.new.self.lines.items) _ c.as_slice.ensures.value c.in-Some.is c.in_ok-dropped.ensures.code refl (behind dropped value (line (d + 1) return ∷ []) (map line_of c.expression.new.self.lines.items) (map line_of c.put.new.self.lines.items) c.in_ok-expression.ensures.code e)) c.put.ensures.code

pub expression-returns-clause-code : goal.expression-returns-clause-code
expression-returns-clause-code t c =
    on_ok_weaker c.stores.result (λ e. expression_code c.args.depth c.args.expression.now c.as_slice.result.now (map line_of c.args.self.now.lines.items) (map line_of c.value.new.self.lines.items) (map line_of c.stores.new.self.lines.items) c.as_slice.ensures c.in_ok-value.ensures.code e) c.stores.ensures.code
