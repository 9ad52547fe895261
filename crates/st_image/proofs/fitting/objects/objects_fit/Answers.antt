use Rattle.std.proofs.Common.{arith, refl, subst, length}
use Rattle.std.proofs.lemmas.List.Elements.{All-more}
use Rattle.st_turn.specs.BodyFits.{IsObject}
use Rattle.st_image.specs.WorldInvariant.{given}
use Rattle.st_image.proofs.Alls.{all_passed}
use Rattle.st_image.proofs.fitting.objects.objects_fit.Goals as goal

pub objects-preserved : goal.objects-preserved
objects-preserved c =
    let P = IsObject (given c.args.names.now c.args.actors) c.args.version.now (length c.args.objects.now) in
    All-more P c.args.objects.now c.objects.place c.index-objects-place.result (omega arith) c.objects.invariant (subst P c.index-objects-place.is (c.object_fits.ensures.0 c.if-not-object_fits.false))

pub returns : goal.returns
returns c =
    let P = IsObject (given c.args.names.now c.args.actors) c.args.version.now (length c.args.objects.now) in
    (λ e. all_passed P c.args.objects.now c.objects.place (omega arith) c.objects.invariant, λ h. refl)
