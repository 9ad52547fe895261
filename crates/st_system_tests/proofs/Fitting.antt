-- The bodies of an image fit its class table.
use Rattle.std.proofs.Common.{◌≡◌, List, Some, length, slice_get, subst, sym}
use Rattle.std.specs.Option.{option_map}
use Rattle.std.proofs.lemmas.Option.{slice_get_within}
use Rattle.st_classes.specs.declared.values.ActorId.{ActorId}
use Rattle.st_classes.specs.declared.edits.Edit.{Edit}
use Rattle.st_turn.specs.declared.body.Body.{Body}
use Rattle.st_turn.specs.BodyFits.{FitsSome}
use Rattle.st_image.specs.Images.{ImageView, constants, world}
use Rattle.st_image.specs.WorldInvariant.{IsLawful, given}
use Rattle.st_image.specs.Worlds.{WorldActor}
use Rattle.st_image.proofs.Keeping.{being_at}
use Rattle.st_image.proofs.Lasting.{kernel_known}
use Rattle.st_image.proofs.Stepping.{mapped}

-- a body that an actor of an image has fits the image's class table
pub fits_there : (i : ImageView) (a : ActorId) (b : Body) → IsLawful i → option_map (λ (w : WorldActor). w.body) (slice_get (world i).actors a.0) ≡ Some b → FitsSome (world i).edits a b
fits_there i a b l at =
    let p = mapped (λ (w : WorldActor). w.body) (slice_get (world i).actors a.0) b at in
    let fits : FitsSome (world i).edits a p.0.body = (given i.names (length (world i).actors), l.standing.suited, kernel_known i.names l.standing.constants.kernel, slice_get_within (world i).actors a.0 p.0 p.1, (being_at (constants i) (world i) a.0 p.0 l.standing p.1).fits) in
    subst (λ (c : Body). FitsSome (world i).edits a c) p.2 fits

-- the same of what equals it
pub fits_as : (es fs : List Edit) (a o : ActorId) (b c : Body) → fs ≡ es → o ≡ a → c ≡ b → FitsSome es a b → FitsSome fs o c
fits_as es fs a o b c e f g h =
    subst (λ (l : List Edit). FitsSome l o c) (sym e) (subst (λ (n : ActorId). FitsSome es n c) (sym f) (subst (λ (x : Body). FitsSome es a x) (sym g) h))
