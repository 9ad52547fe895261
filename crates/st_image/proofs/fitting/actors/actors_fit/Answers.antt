use Rattle.std.proofs.Common.{arith, refl, subst}
use Rattle.std.proofs.lemmas.List.Elements.{All-more}
use Rattle.st_image.specs.WorldInvariant.{IsWorldActor}
use Rattle.st_image.specs.declared.actor_part.ActorPart.{ActorPart}
use Rattle.st_image.specs.Parts.{actor_of}
use Rattle.st_image.proofs.Alls.{all_passed}
use Rattle.st_image.proofs.fitting.actors.actors_fit.Goals as goal

pub actors-preserved : goal.actors-preserved
actors-preserved c =
    let P = λ (a : ActorPart). IsWorldActor c.args.names.now c.args.version.now c.args.count (actor_of a) in
    All-more P c.args.actors.now c.actors.place c.index-actors-place.result (omega arith) c.actors.invariant (subst P c.index-actors-place.is (c.actor_fits.ensures.0 c.if-not-actor_fits.false))

pub returns : goal.returns
returns c =
    let P = λ (a : ActorPart). IsWorldActor c.args.names.now c.args.version.now c.args.count (actor_of a) in
    (λ e. all_passed P c.args.actors.now c.actors.place (omega arith) c.actors.invariant, λ h. refl)
