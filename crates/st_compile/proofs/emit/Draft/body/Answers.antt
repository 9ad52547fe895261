use Rattle.std.proofs.Common.{◌∷◌, [], None, Some, map, refl}
use Rattle.std.proofs.lemmas.Result.{on_ok_weaker}
use Rattle.st_reader.specs.declared.trees.Statements.{out-Statements}
use Rattle.st_reader.specs.TreeViews.{expression_view}
use Rattle.st_compile.specs.DraftCode.{line, drop, receiver, return}
use Rattle.st_compile.specs.Equations.{code}
use Rattle.st_compile.specs.DraftViews.{line_of}
use Rattle.st_compile.proofs.EmittingTrees.{behind, body_is}
use Rattle.st_compile.proofs.emit.Draft.body.Goals as goal

pub returns-in-Some : goal.returns-in-Some
returns-in-Some c =
    let value = code 0 (expression_view (out-Statements c.args.statements.now).last) in
    let dropped = map line_of c.dropped.new.self.lines.items in
    let all = map line_of c.put-in-Some.new.self.lines.items in
    on_ok_weaker c.put-in-Some.result (λ e. body_is c.args.statements.now c.as_slice.result.now (Some c.in-Some.field-0) (map line_of c.args.self.now.lines.items) dropped all _ c.as_slice.ensures.value c.in-Some.is c.in_ok-dropped.ensures.code refl (behind dropped value (line 1 return ∷ []) (map line_of c.expression.new.self.lines.items) all c.in_ok-expression.ensures.code e)) c.put-in-Some.ensures.code

pub returns-in_ok-put-in-None : goal.returns-in_ok-put-in-None
returns-in_ok-put-in-None c =
    let value = code 0 (expression_view (out-Statements c.args.statements.now).last) in
    let dropped = map line_of c.dropped.new.self.lines.items in
    let valued = map line_of c.expression.new.self.lines.items in
    let all = map line_of c.answer_receiver.new.self.lines.items in
    let answered = line 0 receiver ∷ line 1 return ∷ [] in
    on_ok_weaker c.answer_receiver.result (λ e. body_is c.args.statements.now c.as_slice.result.now None (map line_of c.args.self.now.lines.items) dropped all _ c.as_slice.ensures.value c.in-None.is c.in_ok-dropped.ensures.code refl (behind dropped value (line 1 drop ∷ answered) valued all c.in_ok-expression.ensures.code (behind valued (line 1 drop ∷ []) answered (map line_of c.put.new.self.lines.items) all c.in_ok-put-in-None.ensures.code e))) c.answer_receiver.ensures
