use Rattle.std.proofs.Common.{◌≡◌, ◌∙◌, ◌+◌, true, [], ◌∷◌, ◌++◌, take, sym, subst, arith}
use Rattle.std.proofs.lemmas.Result.{err_from_is_err_and}
use Rattle.st_compile.specs.declared.words.Line.{Line as DraftedLine}
use Rattle.st_compile.specs.DraftViews.{line_of, word_of}
use Rattle.st_compile.specs.Scopes.{scope_seen}
use Rattle.st_compile.specs.Encodable.{is_near, word_fits}
use Rattle.st_compile.specs.CompileRules.{is_known}
use Rattle.st_compile.proofs.Mapped.{all-at, refused_at, names_step, code_more, first-taken, taken_more}
use Rattle.st_compile.proofs.resolve.code_of.Goals as goal

pub instruction-requires-clause-known : goal.instruction-requires-clause-known
instruction-requires-clause-known c = subst (λ (y : DraftedLine). is_known (scope_seen c.args.scope.now) (word_of y.word) ≡ true) (sym c.line-item.is) (all-at line_of (is_known (scope_seen c.args.scope.now)) c.args.lines.now c.loop-line.line-index c.line-item.result c.requires.ready.known (omega arith))

pub instruction-requires-clause-fits : goal.instruction-requires-clause-fits
instruction-requires-clause-fits c = subst (λ (y : DraftedLine). word_fits (word_of y.word) ≡ true) (sym c.line-item.is) (all-at line_of word_fits c.args.lines.now c.loop-line.line-index c.line-item.result c.requires.ready.fits (omega arith))

pub instruction-requires-clause-near : goal.instruction-requires-clause-near
instruction-requires-clause-near c = subst (λ (y : DraftedLine). is_near (word_of y.word) ≡ true) (sym c.line-item.is) (all-at line_of is_near c.args.lines.now c.loop-line.line-index c.line-item.result c.requires.ready.near (omega arith))

pub returns-in_err-instruction-clause-answers : goal.returns-in_err-instruction-clause-answers
returns-in_err-instruction-clause-answers c =
    let items = c.args.lines.now in
    let k = c.loop-line.line-index in
    let x = c.line-item.result in
    let t : take (k + 1) items ≡ take k items ++ x ∷ [] = taken_more items k x c.line-item.is (omega arith) in
    let p = err_from_is_err_and c.from_residual.result c.from_residual.ensures.1 in
    rw (p.1, p.2) (refused_at line_of c.args.names.now c.loop-line.names items k x c.in_err-instruction.field-0.0 t c.loop-line.invariant.names c.in_err-instruction.ensures.answers)

pub returns-in_err-instruction-clause-some : goal.returns-in_err-instruction-clause-some
returns-in_err-instruction-clause-some c = first-taken line_of c.args.names.now c.instruction.new.names c.args.lines.now c.loop-line.line-index (c.in_err-instruction.ensures.unchanged ∙ c.loop-line.invariant.names)

pub returns-in_default-clause-some : goal.returns-in_default-clause-some
returns-in_default-clause-some c =
    let items = c.args.lines.now in
    let k = c.loop-line.line-index in
    let x = c.line-item.result in
    let t : take (k + 1) items ≡ take k items ++ x ∷ [] = taken_more items k x c.line-item.is (omega arith) in
    first-taken line_of c.args.names.now c.instruction.new.names items (k + 1) (names_step line_of c.args.names.now c.loop-line.names c.instruction.new.names (take k items) (take (k + 1) items) x t c.loop-line.invariant.names c.in_ok-instruction.ensures.names)

pub loop-line-preserved : goal.loop-line-preserved
loop-line-preserved c =
    let items = c.args.lines.now in
    let k = c.loop-line.line-index in
    let x = c.line-item.result in
    let t : take (k + 1) items ≡ take k items ++ x ∷ [] = taken_more items k x c.line-item.is (omega arith) in
    record {
      code = code_more line_of (scope_seen c.args.scope.now) c.loop-line.names c.instruction.new.names (take k items) (take (k + 1) items) x c.in_ok-instruction.instruction c.loop-line.code.items c.push.new.self.items t c.loop-line.invariant.code c.in_ok-instruction.ensures.names c.in_ok-instruction.ensures.answers.1 c.in-Ok.ensures.items;
      names = names_step line_of c.args.names.now c.loop-line.names c.instruction.new.names (take k items) (take (k + 1) items) x t c.loop-line.invariant.names c.in_ok-instruction.ensures.names;
      few = c.known-in-loop-line.ensures.few;
    }
