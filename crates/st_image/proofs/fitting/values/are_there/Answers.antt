use Rattle.std.proofs.Common.{pos, arith, refl, sym, ◌∙◌}
use Rattle.std.proofs.lemmas.List.Elements.{All-more}
use Rattle.st_classes.specs.declared.values.Value.TheVariants.{Int}
use Rattle.st_turn.specs.BodyFits.{IsThere}
use Rattle.st_image.specs.WorldInvariant.{given}
use Rattle.st_image.proofs.Alls.{all_passed}
use Rattle.st_image.proofs.fitting.values.are_there.Goals as goal

pub values-preserved : goal.values-preserved
values-preserved c =
    let P = IsThere (given c.args.names.now c.args.actors) c.args.version.now c.args.objects in
    All-more P c.args.values.now c.values.place (Int (pos 0)) (omega arith) c.values.invariant (sym c.is_there.ensures ∙ c.if-not-is_there.false)

pub returns : goal.returns
returns c =
    let P = IsThere (given c.args.names.now c.args.actors) c.args.version.now c.args.objects in
    (λ e. all_passed P c.args.values.now c.values.place (omega arith) c.values.invariant, λ h. refl)
