-- The claim of a quantum: its checkout, and its commit or release.
use Rattle.std.proofs.Common.{◌≡◌, ℕ, List, Option, Some, None, Result, Ok, Err, sym, ap, subst, ◌∙◌}
use Rattle.std.specs.Option.{IfSome}
use Rattle.st_classes.specs.declared.values.ActorId.{ActorId}
use Rattle.st_classes.specs.declared.edits.Edit.{Edit}
use Rattle.st_classes.specs.declared.refusals.Refusal.{Refusal}
use Rattle.st_classes.specs.EditLists.{Begins}
use Rattle.st_guard.specs.Moves.{CachesView}
use Rattle.st_turn.specs.Claims.{ClaimView}
use Rattle.st_image.specs.Images.{ImageView, world}
use Rattle.st_image.specs.WorldInvariant.{IsLawful}
use Rattle.st_image.specs.Commits.{HasCheckedOut, ReleasesBack, Settles, items_of}
use Rattle.st_image.proofs.CallsGoOn.{checkout_goes, out_goes, refuse_goes}
use Rattle.st_image.proofs.Following.{checked_out_edits, kept_of_claim}
use Rattle.st_image.proofs.GrowingEdits.{GoesOn, edits_grow, goes_both, goes_from}
use Rattle.st_script.specs.Runners.{GuardView, KeepsFirst}

-- ---- what goes on

back_goes : (i : ImageView) (back : Option ClaimView) (j : ImageView) → ReleasesBack i back j → GoesOn i j
back_goes i None j h = goes_from i j h
back_goes i (Some c) j h = out_goes i j h.image

settles_goes : (i : ImageView) (c : ClaimView) (r : Result ℕ Refusal) (j : ImageView) → Settles i c r j → GoesOn i j
settles_goes i c (Ok n) j h = record {
  base = ap (λ (k : ImageView). k.base) h.image;
  items = items_of c;
  history = ap (λ (k : ImageView). k.history) h.image;
}
settles_goes i c (Err e) j h = goes_both i h.1 j (refuse_goes i c e h.0 h.1 h.2) (back_goes h.1 h.0 j h.3)

-- ---- the edits of a claim

-- what the worker keeps after it begins the edits of the image
pub settled_keeps : (i k j : ImageView) (a : ActorId) (c d : ClaimView) (r : Result ℕ Refusal) (w : CachesView GuardView) → IsLawful i → IsLawful j → HasCheckedOut i a c k → IfSome w.kept (λ es. es ≡ c.edits) → Settles k d r j → KeepsFirst j w
settled_keeps i k j a c d r w l m out kept settled =
    let grown = edits_grow i j l m (goes_both i k j (checkout_goes i k a c out) (settles_goes k d r j settled)) in
    kept_of_claim w c.edits (world j).edits kept (subst (λ (es : List Edit). Begins es (world j).edits) (sym (checked_out_edits i k a c out)) grown)
