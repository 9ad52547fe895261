-- Nothing has happened in an image that a run begins with.
use Rattle.std.proofs.Common.{◌≡◌, [], Option, Some, None, Result, Ok, Err, IfOk, IfSome, sym, ap, subst}
use Rattle.st_classes.specs.declared.refusals.Refusal.{Refusal}
use Rattle.st_image.specs.Images.{ImageView}
use Rattle.actorimage.specs.Runs.{BeginsWith}

pub begins_anew : (found : Result (Option ImageView) Refusal) (first : Result ImageView Refusal) → IfOk found (λ f. IfSome f (λ i. i.history ≡ [])) → BeginsWith found first
    → IfOk first (λ i. i.history ≡ [])
begins_anew (Ok (Some i)) first h is = subst (λ (r : Result ImageView Refusal). IfOk r (λ j. j.history ≡ [])) (sym is) h
begins_anew (Ok None) (Ok i) h is = ap (λ (j : ImageView). j.history) is
begins_anew (Ok None) (Err e) h is = tt
begins_anew (Err e) first h is = subst (λ (r : Result ImageView Refusal). IfOk r (λ j. j.history ≡ [])) (sym is) tt
