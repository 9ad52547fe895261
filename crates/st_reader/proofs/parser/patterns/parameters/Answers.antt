use Rattle.std.proofs.Common.{◌≡◌, ◌-◌, suc, length, length-append, ap, ◌∙◌, arith}
use Rattle.st_reader.specs.declared.trees.Name.{Name}
use Rattle.st_reader.specs.Lexemes.{tokens_of, seen}
use Rattle.st_reader.specs.Parser.{parameter_of, parameters_of}
use Rattle.st_reader.proofs.Patterns.{parameters_step, parameters_fail, parameters_full, parameters_done}
use Rattle.st_reader.proofs.Results.{gives_err}
use Rattle.st_reader.proofs.parser.patterns.parameters.Goals as goal

pub returns-then-len-ge-ARGUMENTS : goal.returns-then-len-ge-ARGUMENTS
returns-then-len-ge-ARGUMENTS c =
    let s = c.args.source.now in
    let l = c.loop-keyword in
    parameters_full s (parameters_of 8 (tokens_of s c.args.lexemes.now)) l.parameters.items (8 - length l.parameters.items) l.rest.now c.in-Some.keyword c.in-Some.after.now (omega arith) c.in-Some.ensures.0 c.in-Some.ensures.1 l.invariant.1

pub returns-in_err-argument : goal.returns-in_err-argument
returns-in_err-argument c =
    let s = c.args.source.now in
    let l = c.loop-keyword in
    let one : 8 - length l.parameters.items ≡ suc (7 - length l.parameters.items) = omega arith in
    let none = parameters_fail s (parameters_of 8 (tokens_of s c.args.lexemes.now)) l.parameters.items (8 - length l.parameters.items) (7 - length l.parameters.items) l.rest.now c.in-Some.keyword c.in-Some.after.now one c.in-Some.ensures.0 c.in-Some.ensures.1 l.invariant.1 in
    gives_err _ (seen (λ (n : Name). n) s) _ c.in_err-argument.field-0.0 (parameter_of (tokens_of s c.in-Some.after.now)) (parameters_of 8 (tokens_of s c.args.lexemes.now)) c.from_residual.ensures.1 none c.in_err-argument.ensures

pub loop-keyword-preserved : goal.loop-keyword-preserved
loop-keyword-preserved c =
    let s = c.args.source.now in
    let l = c.loop-keyword in
    let long : length c.push.new.self.items ≡ suc (length l.parameters.items) = ap length c.in-Ok.ensures.items ∙ length-append l.parameters.items _ ∙ omega arith in
    let one : 8 - length l.parameters.items ≡ suc (8 - length c.push.new.self.items) = omega (arith, long) in
    (omega (arith, long), parameters_step s (parameters_of 8 (tokens_of s c.args.lexemes.now)) l.parameters.items c.push.new.self.items (8 - length l.parameters.items) (8 - length c.push.new.self.items) l.rest.now c.in-Some.keyword c.in-Some.after.now c.in_ok-keyword.keyword c.in_ok-argument.argument c.in_ok-argument.behind.now one c.in-Some.ensures.0 c.in-Some.ensures.1 c.in_ok-argument.ensures c.in_ok-keyword.ensures c.in-Ok.ensures.items l.invariant.1)

pub returns : goal.returns
returns c =
    let s = c.args.source.now in
    let l = c.loop-keyword in
    let done = parameters_done s (parameters_of 8 (tokens_of s c.args.lexemes.now)) l.parameters.items (8 - length l.parameters.items) l.rest.now c.in_default.ensures l.invariant.1 in
    rw c.from_vec.ensures done
