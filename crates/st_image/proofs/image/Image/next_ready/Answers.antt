use Rattle.std.proofs.Common.{subst, ◌≡◌, sym, ap, ◌∙◌}
use Rattle.st_image.specs.Images.{ImageView, world}
use Rattle.st_image.specs.ClaimsOut.{trimmed}
use Rattle.st_image.specs.ActorViews.{IsNextFree, Shows}
use Rattle.st_image.proofs.CountingOut.{free_is, next_free}
use Rattle.st_image.proofs.image.Image.next_ready.Goals as goal

pub returns-clause-some : goal.returns-clause-some
returns-clause-some g c =
    let i = c.self.inside in
    let out : c.args.self.now.standing.claims_out ≡ trimmed i.actors.out = sym (ap (λ (v : ImageView). v.standing.claims_out) c.self.view_is) in
    let shows : Shows i.token i.actors.list (world c.args.self.now) = subst (λ (v : ImageView). Shows i.token i.actors.list (world v)) c.self.view_is c.self.invariant.image.shows in
    next_free i.token i.actors c.args.self.now c.in-Some.actor shows out (subst (λ (v : ImageView). IsNextFree i.actors v.standing.next_from c.in-Some.actor) c.self.view_is c.in-Some.ensures.some)

pub returns-in_default-clause-none : goal.returns-in_default-clause-none
returns-in_default-clause-none g c = λ a.
    let i = c.self.inside in
    let out : c.args.self.now.standing.claims_out ≡ trimmed i.actors.out = sym (ap (λ (v : ImageView). v.standing.claims_out) c.self.view_is) in
    let shows : Shows i.token i.actors.list (world c.args.self.now) = subst (λ (v : ImageView). Shows i.token i.actors.list (world v)) c.self.view_is c.self.invariant.image.shows in
    sym (free_is i.token i.actors c.args.self.now a shows out) ∙ c.in_default.ensures.none a
