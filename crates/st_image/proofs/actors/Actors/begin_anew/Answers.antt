use Rattle.std.proofs.Common.{List, sym, subst}
use Rattle.st_image.specs.ActorViews.{ActorView, AreActors}
use Rattle.st_image.proofs.Renewal.{free_anew}
use Rattle.st_image.proofs.actors.Actors.begin_anew.Goals as goal

pub invariant_of-self : goal.invariant_of-self
invariant_of-self g c =
    let i = c.self.inside in
    subst (λ (ks : List ActorView). AreActors (record { list = ks; out = i.out.items }) i.free) (sym c.begin_each.ensures) (free_anew i.items.items i.out.items i.free c.self.invariant)
