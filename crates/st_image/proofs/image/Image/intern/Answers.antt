use Rattle.std.proofs.Common.{ap, sym, ◌∙◌}
use Rattle.st_image.specs.Images.{ImageView, world}
use Rattle.st_image.proofs.CompiledEdits.{all_interned}
use Rattle.st_image.proofs.Naming.{IsRenamed, interned_kept}
use Rattle.st_image.specs.Failures.{failures_kept}
use Rattle.st_image.proofs.image.Image.intern.Goals as goal

pub invariant_of-self : goal.invariant_of-self
invariant_of-self g c =
    let i = c.self.inside in
    let r : IsRenamed i.base i.names c.intern.new.self i.token i.actors.list i.history.items i.edits_made i.settings = interned_kept c.intern.result i.base i.names c.intern.new.self c.args.text.now i.token i.actors.list i.history.items i.edits_made i.settings c.self.invariant.image c.intern.ensures.names c.intern.ensures.unchanged in
    record { image = r.image; numbers_of_clients = c.self.invariant.numbers_of_clients; sends = r.sends i.tallies c.self.invariant.sends; counts = c.self.invariant.counts; totals = c.self.invariant.totals; compiled = all_interned c.intern.result i.names c.intern.new.self c.args.text.now i.token c.self.invariant.compiled c.intern.ensures.names c.intern.ensures.unchanged; before = c.self.invariant.before; failures = c.self.invariant.failures ∙ ap failures_kept (sym (r.failures i.earlier.steps)) }

pub returns-clause-world : goal.returns-clause-world
returns-clause-world g c =
    let i = c.self.inside in
    let r : IsRenamed i.base i.names c.intern.new.self i.token i.actors.list i.history.items i.edits_made i.settings = interned_kept c.intern.result i.base i.names c.intern.new.self c.args.text.now i.token i.actors.list i.history.items i.edits_made i.settings c.self.invariant.image c.intern.ensures.names c.intern.ensures.unchanged in
    r.world ∙ ap (λ (v : ImageView). world v) c.self.view_is
