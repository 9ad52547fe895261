use Rattle.std.proofs.Common.{ap, ◌∙◌}
use Rattle.st_classes.specs.declared.values.ActorId.{ActorId}
use Rattle.st_image.specs.ClaimsOut.{one_less}
use Rattle.st_image.specs.Worlds.{change_at}
use Rattle.st_image.proofs.Acts.{out_same}
use Rattle.st_image.proofs.CountingOut.{released}
use Rattle.st_image.proofs.image.Image.release.Goals as goal

pub returns : goal.returns
returns g c =
    let i = c.self.inside in
    rw (← c.self.view_is) (released i.base i.names i.history.items i.settings i.earlier i.next_from i.actors.out c.release.new.self.out i.tallies c.args.claim.actor (out_same _ _ c.release.ensures ∙ ap (λ (b : ActorId). change_at one_less b.0 i.actors.out) c.actor.ensures))
