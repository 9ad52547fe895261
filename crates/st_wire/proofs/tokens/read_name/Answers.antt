use Rattle.std.proofs.Common.{◌≡◌, Some, codes, rules, sym, ap, ◌∙◌}
use Rattle.serde_json.specs.Data.{number, string, unsigned}
use Rattle.st_wire.specs.declared.commands.Argument.TheVariants.{Symbol, Class, Actor}
use Rattle.st_wire.proofs.Fronts.{ref_named, sym_named, class_named}
use Rattle.st_wire.proofs.tokens.read_name.Goals as goal

pub returns-in_ok-actor_of-in-ref-clause-read : goal.returns-in_ok-actor_of-in-ref-clause-read
returns-in_ok-actor_of-in-ref-clause-read c =
    let n = c.in_ok-number-in-ref.number in
    let is : c.args.key.now ≡ codes "ref" = search rules in
    let a = c.in_ok-actor_of-in-ref.ensures in
    (number (unsigned n), c.in_ok-number-in-ref.ensures.read 124, ref_named c.args.key.now n is a.1 ∙ ap (λ x. Some (Actor x)) (sym a.0))

pub returns-in_ok-copied-in-sym-clause-read : goal.returns-in_ok-copied-in-sym-clause-read
returns-in_ok-copied-in-sym-clause-read c =
    let text = c.in_ok-text-in-sym.text.now in
    let is : c.args.key.now ≡ codes "sym" = search rules in
    (string text, c.in_ok-text-in-sym.ensures.read 124, sym_named c.args.key.now text is ∙ ap (λ t. Some (Symbol t)) (sym c.in_ok-copied-in-sym.ensures))

pub returns-in_ok-copied-in-class-clause-read : goal.returns-in_ok-copied-in-class-clause-read
returns-in_ok-copied-in-class-clause-read c =
    let text = c.in_ok-text-in-class.text.now in
    let is : c.args.key.now ≡ codes "class" = search rules in
    (string text, c.in_ok-text-in-class.ensures.read 124, class_named c.args.key.now text is ∙ ap (λ t. Some (Class t)) (sym c.in_ok-copied-in-class.ensures))
