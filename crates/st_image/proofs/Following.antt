-- What fits an image fits one that it goes on in: claims, and the edits that caches keep.
use Rattle.std.proofs.Common.{List, Option, Some, None, [], ◌++◌, ◌≡◌, ap, sym, subst, ◌∙◌, append_assoc, append-nil}
use Rattle.std.specs.Option.{IfSome}
use Rattle.st_classes.specs.declared.edits.Edit.{Edit}
use Rattle.st_classes.specs.declared.values.ActorId.{ActorId}
use Rattle.st_classes.specs.EditLists.{Begins}
use Rattle.st_guard.specs.Moves.{CachesView}
use Rattle.st_turn.specs.Claims.{BeganAs, ClaimView}
use Rattle.st_image.specs.Commits.{HasCheckedOut}
use Rattle.st_image.specs.GoingOn.{FitsClaim, GoesOnIn}
use Rattle.st_image.specs.Images.{ImageView, world}
use Rattle.st_image.specs.KeptEdits.{KeepsBeginning}
use Rattle.st_image.proofs.KnownBodies.{knows_as, knows_later}

-- ---- lists of edits

pub begins_same : (es : List Edit) → Begins es es
begins_same es = ([], sym (append-nil es))

pub begins_by : (es fs : List Edit) → fs ≡ es → Begins fs es
begins_by es fs h = subst (λ (gs : List Edit). Begins gs es) (sym h) (begins_same es)

pub begins_then : (es fs gs : List Edit) → Begins es fs → Begins fs gs → Begins es gs
begins_then es fs gs (more, h) (rest, k) = (more ++ rest, k ∙ ap (λ (l : List Edit). l ++ rest) h ∙ append_assoc es more rest)

-- ---- claims

pub fits_claim_later : (i j : ImageView) (c : ClaimView) → GoesOnIn i j → FitsClaim i c → FitsClaim j c
fits_claim_later i j c on h = record {
  edits = begins_then c.edits (world i).edits (world j).edits h.edits on.edits;
  body = knows_later i j c on.bodies h.body;
}

-- a claim that began as another fits what that fits
pub fits_claim_as : (i : ImageView) (c d : ClaimView) → BeganAs c d → FitsClaim i c → FitsClaim i d
fits_claim_as i c d b h = record {
  edits = subst (λ (es : List Edit). Begins es (world i).edits) (sym b.edits) h.edits;
  body = knows_as i c d b h.body;
}

-- ---- the edits that caches keep

kept_on : (o : Option (List Edit)) (fs gs : List Edit) → Begins fs gs → IfSome o (λ k. Begins k fs) → IfSome o (λ k. Begins k gs)
kept_on None fs gs b h = tt
kept_on (Some k) fs gs b h = begins_then k fs gs h b

pub kept_later : {G : Type 0} (v : CachesView G) (fs gs : List Edit) → Begins fs gs → KeepsBeginning fs v → KeepsBeginning gs v
kept_later {G} v fs gs b h = kept_on v.kept fs gs b h

-- caches that keep no list can follow any
pub kept_none : {G : Type 0} (v : CachesView G) (es : List Edit) → v.kept ≡ None → KeepsBeginning es v
kept_none {G} v es none = subst (λ (o : Option (List Edit)). IfSome o (λ k. Begins k es)) (sym none) tt

-- caches that kept the edits of a claim keep a beginning of what these begin
pub kept_of_claim : {G : Type 0} (v : CachesView G) (es fs : List Edit) → IfSome v.kept (λ k. k ≡ es) → Begins es fs → KeepsBeginning fs v
kept_of_claim {G} v es fs h b = one v.kept h
  where
    one : (o : Option (List Edit)) → IfSome o (λ k. k ≡ es) → IfSome o (λ k. Begins k fs)
    one None g = tt
    one (Some k) g = subst (λ (l : List Edit). Begins l fs) (sym g) b

-- a claim that was checked out has the edits of the image before
pub checked_out_edits : (i j : ImageView) (a : ActorId) (c : ClaimView) → HasCheckedOut i a c j → c.edits ≡ (world i).edits
checked_out_edits i j a c h = ap (λ (d : ClaimView). d.edits) h.claim

-- caches that could follow the image can follow the claim
pub kept_claim : {G : Type 0} (i j : ImageView) (a : ActorId) (c : ClaimView) (v : CachesView G) → HasCheckedOut i a c j → KeepsBeginning (world i).edits v → IfSome v.kept (λ k. Begins k c.edits)
kept_claim {G} i j a c v out h = subst (λ (es : List Edit). IfSome v.kept (λ k. Begins k es)) (sym (checked_out_edits i j a c out)) h
