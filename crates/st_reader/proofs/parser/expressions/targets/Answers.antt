use Rattle.std.proofs.Common.{◌≡◌, sym, ap, ◌∙◌, ◌++◌, ◌∷◌, [], List}
use Rattle.st_reader.specs.declared.trees.Span.{Span}
use Rattle.st_reader.specs.declared.trees.Target.{Target}
use Rattle.st_reader.specs.Lexemes.{tokens_of}
use Rattle.st_reader.proofs.Loops.{targets_step, targets_done}
use Rattle.st_reader.proofs.parser.expressions.targets.Goals as goal

pub loop-variable-preserved : goal.loop-variable-preserved
loop-variable-preserved c =
    let t = c.in-Some.ensures in
    let pushed : c.push.new.self.items ≡ c.loop-variable.targets.items ++ (record { name = c.in_ok-name.name; assign = t.0.span }) ∷ [] = c.in-Ok.ensures.items ∙ ap (λ (p : Span). c.loop-variable.targets.items ++ (record { name = c.in_ok-name.name; assign = p }) ∷ []) (sym t.4) in
    targets_step c.args.source.now c.args.lexemes.now c.loop-variable.rest.now c.loop-variable.targets.items c.push.new.self.items c.in-Some.variable t.0 c.in-Some.after.now c.in_ok-name.name t.1 t.2 t.3 c.in_ok-name.ensures pushed c.loop-variable.invariant

pub returns : goal.returns
returns c =
    let s = c.args.source.now in
    targets_done s c.args.lexemes.now c.loop-variable.rest.now c.loop-variable.targets.items c.in_default.ensures c.loop-variable.invariant ∙ ap (λ (l : List Target). (l, tokens_of s c.loop-variable.rest.now)) (sym c.from_vec.ensures)
