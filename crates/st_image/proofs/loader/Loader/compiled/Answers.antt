use Rattle.std.proofs.Common.{◌≡◌, ap, ◌∙◌, refl, subst}
use Rattle.st_classes.specs.Refusals.{Answers, first_of}
use Rattle.st_compile.specs.CompiledMethod.{IsCompiled}
use Rattle.st_compile.specs.CompileRules.{code_rules, method_rules}
use Rattle.st_compile.proofs.Interning.{first-grows}
use Rattle.st_compile.specs.NeededNames.{InternsFirst, needed_texts}
use Rattle.st_image.specs.Loading.{LoaderView}
use Rattle.st_image.proofs.LoadedNames.{grown_holds}
use Rattle.st_image.proofs.loader.Loader.compiled.Goals as goal

pub invariant_of-self : goal.invariant_of-self
invariant_of-self c = grown_holds c.self.inside.names c.compile.new.names c.self.inside.version (first-grows c.self.inside.names (needed_texts c.args.tree.now.syntax) c.compile.new.names c.compile.ensures.some) c.self.invariant

pub returns-clause-answers : goal.returns-clause-answers
returns-clause-answers c =
    subst (λ (v : LoaderView). Answers (first_of (method_rules v.names v.edits c.args.class c.args.tree.now.syntax)) c.compile.result (λ m. IsCompiled c.compile.new.names v.edits c.args.class c.args.tree.now.syntax c.args.tree.now.source m)) c.self.view_is c.compile.ensures.answers

pub returns-clause-some : goal.returns-clause-some
returns-clause-some c = subst (λ (v : LoaderView). InternsFirst v.names (needed_texts c.args.tree.now.syntax) c.compile.new.names) c.self.view_is c.compile.ensures.some

pub returns-clause-only : goal.returns-clause-only
returns-clause-only c = rw (← c.self.view_is) refl

pub returns-clause-untouched : goal.returns-clause-untouched
returns-clause-untouched c =
    λ d h.
    let e : c.compile.new.names ≡ c.self.inside.names = c.compile.ensures.untouched d (ap (λ (v : LoaderView). first_of (code_rules v.edits c.args.class c.args.tree.now.syntax)) c.self.view_is ∙ h) in
    rw (e, ← c.self.view_is) refl
