use Rattle.std.proofs.Common.{inr, sym, refl, subst, ◌∙◌, ℕ, List}
use Rattle.st_compile.proofs.Interning.{grows-interned}
use Rattle.st_image.specs.Loading.{HoldsLoader}
use Rattle.st_image.proofs.LoadedNames.{name_err, name_added, name_found, none_found, grown_holds}
use Rattle.st_image.proofs.loader.Loader.name.Goals as goal

pub returns-then-is_some : goal.returns-then-is_some
returns-then-is_some c = (refl, inr (refl, name_found c.args.self.now c.self.inside.names c.self.inside.version c.args.text.now c.find.result c.self.view_is c.find.ensures (sym c.is_some.ensures ∙ c.if-is_some.true)))

pub returns-in-Err : goal.returns-in-Err
returns-in-Err c = rw c.refused_name.ensures (name_err c.args.self.now c.self.inside.names c.intern.new.self c.self.inside.version c.args.text.now c.in-Err.refusal c.self.view_is c.in-Err.ensures.unchanged c.in-Err.ensures.answers)

pub returns : goal.returns
returns c =
    let absent = none_found c.self.inside.names c.args.text.now c.find.result c.find.ensures (sym c.is_some.ensures ∙ c.if-is_some.false) in
    name_added c.args.self.now c.self.inside.names c.intern.new.self c.self.inside.version c.args.text.now c.self.view_is absent c.in_default.ensures.answers.0 c.in_default.ensures.names

pub invariant_of-self : goal.invariant_of-self
invariant_of-self c = subst (λ (ns : List (List ℕ)). HoldsLoader ns c.self.inside.version) (sym c.in-Err.ensures.unchanged) c.self.invariant

pub invariant_of-self-2 : goal.invariant_of-self-2
invariant_of-self-2 c =
    let g = grows-interned c.self.inside.names c.args.text.now in
    grown_holds c.self.inside.names c.intern.new.self c.self.inside.version (g.0, c.in_default.ensures.names ∙ g.1) c.self.invariant
