use Rattle.std.proofs.Common.{ap, ◌∙◌}
use Rattle.st_classes.specs.declared.values.ActorId.{ActorId}
use Rattle.st_image.specs.ClaimsOut.{one_less}
use Rattle.st_image.specs.Worlds.{change_at}
use Rattle.st_image.proofs.Acts.{out_same}
use Rattle.st_image.proofs.CountingOut.{released, spent}
use Rattle.st_image.proofs.image.Image.refuse.Goals as goal

pub returns : goal.returns
returns g c =
    let i = c.self.inside in
    spent c.args.self.now c.args.claim c.args.refusal _ c.requires c.in_default.not-HistoryFull (rw (← c.self.view_is) (released i.base i.names i.history.items i.settings i.earlier i.next_from i.actors.out c.release.new.self.out i.tallies c.args.claim.actor (out_same _ _ c.release.ensures ∙ ap (λ (b : ActorId). change_at one_less b.0 i.actors.out) c.actor.ensures)))
