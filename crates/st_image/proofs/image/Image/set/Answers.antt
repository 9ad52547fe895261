use Rattle.std.proofs.Common.{◌≡◌, [], sym, subst}
use Rattle.st_image.specs.Images.{ImageView}
use Rattle.st_image.proofs.Beginning.{set_is, settings_are}
use Rattle.st_image.proofs.Sends.{sends_none}
use Rattle.st_image.proofs.Failing.{failures_none}
use Rattle.st_image.proofs.image.Image.set.Goals as goal

pub invariant_of-self : goal.invariant_of-self
invariant_of-self g c =
    let i = c.self.inside in
    let none : i.history.items ≡ [] = subst (λ (v : ImageView). v.history ≡ []) (sym c.self.view_is) c.requires in
    record { image = set_is i.base i.names i.token i.actors.list i.history.items i.edits_made i.settings c.args.settings c.self.invariant.image none (settings_are c.args.settings (sym c.in_default.ensures)); numbers_of_clients = c.self.invariant.numbers_of_clients; sends = sends_none i.names i.base i.history.items i.settings c.args.settings i.tallies none c.self.invariant.sends; counts = c.self.invariant.counts; totals = c.self.invariant.totals; compiled = c.self.invariant.compiled; before = c.self.invariant.before; failures = failures_none i.names i.base i.history.items i.settings c.args.settings i.earlier.steps i.failures none c.self.invariant.failures }
