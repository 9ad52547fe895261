use Rattle.std.proofs.Common.{◌≡◌, ◌++◌, List, ℕ, ap, sym, ◌∙◌, subst, refl}
use Rattle.st_classes.specs.declared.edits.Edit.{Edit}
use Rattle.st_classes.specs.Refusals.{first_of, Answers}
use Rattle.st_compile.specs.NeededNames.{InternsFirst, needed_texts}
use Rattle.st_compile.specs.CompileRules.{code_rules, method_rules}
use Rattle.st_compile.specs.CompiledMethod.{IsCompiled}
use Rattle.st_compile.proofs.Interning.{Grows, first-grows}
use Rattle.st_image.specs.Images.{ImageView, world}
use Rattle.st_image.proofs.CompiledEdits.{all_grown}
use Rattle.st_image.proofs.Naming.{IsRenamed, more_kept, renamed}
use Rattle.st_image.specs.Failures.{failures_kept}
use Rattle.st_image.proofs.image.Image.compiled.Goals as goal

pub invariant_of-self : goal.invariant_of-self
invariant_of-self g c =
    let i = c.self.inside in
    let g : Grows i.names c.compile.new.names = first-grows i.names (needed_texts c.args.tree.now.syntax) c.compile.new.names c.compile.ensures.some in
    let r : IsRenamed i.base i.names c.compile.new.names i.token i.actors.list i.history.items i.edits_made i.settings = renamed i.base i.names c.compile.new.names (i.names ++ g.0) i.token i.actors.list i.history.items i.edits_made i.settings g.1 (more_kept i.base i.names g.0 i.token i.actors.list i.history.items i.edits_made i.settings c.self.invariant.image) in
    record { image = r.image; numbers_of_clients = c.self.invariant.numbers_of_clients; sends = r.sends i.tallies c.self.invariant.sends; counts = c.self.invariant.counts; totals = c.self.invariant.totals; compiled = all_grown i.names c.compile.new.names i.token g c.self.invariant.compiled; before = c.self.invariant.before; failures = c.self.invariant.failures ∙ ap failures_kept (sym (r.failures i.earlier.steps)) }

pub returns-clause-answers : goal.returns-clause-answers
returns-clause-answers g c =
    let i = c.self.inside in
    let es : c.shown.result.now ≡ (world c.args.self.now).edits = c.shown.ensures ∙ c.self.invariant.image.shows.edits_are ∙ ap (λ (v : ImageView). (world v).edits) c.self.view_is in
    let ns : i.names ≡ c.args.self.now.names = ap (λ (v : ImageView). v.names) c.self.view_is in
    subst (λ (edits : List Edit). Answers (first_of (method_rules c.args.self.now.names edits c.args.class c.args.tree.now.syntax)) c.compile.result (λ m. IsCompiled c.compile.new.names edits c.args.class c.args.tree.now.syntax c.args.tree.now.source m)) es
    (subst (λ (names : List (List ℕ)). Answers (first_of (method_rules names c.shown.result.now c.args.class c.args.tree.now.syntax)) c.compile.result (λ m. IsCompiled c.compile.new.names c.shown.result.now c.args.class c.args.tree.now.syntax c.args.tree.now.source m)) ns c.compile.ensures.answers)

pub returns-clause-some : goal.returns-clause-some
returns-clause-some g c = subst (λ (v : ImageView). InternsFirst v.names (needed_texts c.args.tree.now.syntax) c.compile.new.names) c.self.view_is c.compile.ensures.some

pub returns-clause-only : goal.returns-clause-only
returns-clause-only g c = rw (← c.self.view_is) refl

pub returns-clause-untouched : goal.returns-clause-untouched
returns-clause-untouched g c =
    let i = c.self.inside in
    let es : c.shown.result.now ≡ (world c.args.self.now).edits = c.shown.ensures ∙ c.self.invariant.image.shows.edits_are ∙ ap (λ (v : ImageView). (world v).edits) c.self.view_is in
    λ d h.
    let e : c.compile.new.names ≡ i.names = c.compile.ensures.untouched d (ap (λ (edits : List Edit). first_of (code_rules edits c.args.class c.args.tree.now.syntax)) es ∙ h) in
    rw (e, ← c.self.view_is) refl

pub returns-clause-world : goal.returns-clause-world
returns-clause-world g c =
    let i = c.self.inside in
    let g : Grows i.names c.compile.new.names = first-grows i.names (needed_texts c.args.tree.now.syntax) c.compile.new.names c.compile.ensures.some in
    let r : IsRenamed i.base i.names c.compile.new.names i.token i.actors.list i.history.items i.edits_made i.settings = renamed i.base i.names c.compile.new.names (i.names ++ g.0) i.token i.actors.list i.history.items i.edits_made i.settings g.1 (more_kept i.base i.names g.0 i.token i.actors.list i.history.items i.edits_made i.settings c.self.invariant.image) in
    r.world ∙ ap (λ (v : ImageView). world v) c.self.view_is
