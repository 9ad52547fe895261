use Rattle.std.proofs.Common.{rules, length}
use Rattle.st_reader.specs.Variables.{arguments_of}
use Rattle.st_compile.specs.Scopes.{pattern_selector}
use Rattle.st_compile.proofs.Arities.{selector_of_number}
use Rattle.st_compile.proofs.Compiled.{IsMade, made_of, ready_code}
use Rattle.st_compile.proofs.Spelled.{spelled_pattern}
use Rattle.st_compile.proofs.compile.compile.Goals as goal
use Rattle.st_compile.proofs.compile.compile.Goals.{In_ok-selector}

pub resolve-requires-clause-selector : goal.resolve-requires-clause-selector
resolve-requires-clause-selector c =
    let t = c.args.tree.now in
    let p = t.syntax.pattern in
    rw c.pattern.ensures
    (selector_of_number (pattern_selector p) (length (arguments_of p)) (spelled_pattern t.syntax t.source c.known.ensures))

pub resolve-requires-clause-ready : goal.resolve-requires-clause-ready
resolve-requires-clause-ready c =
    let t = c.args.tree.now in
    let r = c.in_ok-scope.ensures.answers in
    rw (r.1.0, c.as_slice-lines.ensures.value, r.1.1)
    (ready_code c.args.version.now c.args.class t.syntax t.source c.known.ensures r.0)

made : (c : In_ok-selector) →
    IsMade c.resolve.new.names c.args.version.now c.args.class c.args.tree.now.syntax c.args.tree.now.source c.in_ok-selector.selector c.in_ok-selector.code.items
made c =
    let t = c.args.tree.now in
    let r = c.in_ok-scope.ensures.answers in
    let s = c.in_ok-selector.ensures.answers.1 in
    let number = rw c.pattern.ensures at s.0 in
    let code = rw (r.1.0, c.as_slice-lines.ensures.value, r.1.1) at s.1 in
    made_of c.args.version.now c.args.class t.syntax t.source c.known.ensures r.0 c.resolve.new.names c.in_ok-selector.selector c.in_ok-selector.code.items number code

pub parts_of-requires-clause-short : goal.parts_of-requires-clause-short
parts_of-requires-clause-short c = (made (goal.at.parts_of-requires-clause-short c).In_ok-selector).sound.short

pub new-requires : goal.new-requires
new-requires c = rw c.in_ok-parts.ensures ((made (goal.at.new-requires c).In_ok-selector).sound)

pub returns-clause-answers : goal.returns-clause-answers
returns-clause-answers c = (search rules, rw (c.new.ensures, c.in_ok-parts.ensures) ((made (goal.at.returns-clause-answers c).In_ok-selector).compiled))
