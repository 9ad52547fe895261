-- What is known of a claim and of a worker, from the images that were seen.
use Rattle.std.proofs.Common.{◌≡◌, List, [], Option, Some, None, sym, ◌∙◌, subst, append-nil, inr}
use Rattle.std.specs.Option.{IfSome}
use Rattle.st_classes.specs.declared.edits.Edit.{Edit}
use Rattle.st_classes.specs.EditLists.{Begins}
use Rattle.st_guard.specs.Moves.{CachesView}
use Rattle.st_turn.specs.Claims.{BeganAs, ClaimView}
use Rattle.st_image.specs.Images.{ImageView, world}
use Rattle.st_image.proofs.Following.{fits_claim_as, fits_claim_later, kept_later}
use Rattle.st_image.specs.GoingOn.{FitsClaim, GoesOnIn}
use Rattle.st_pool.specs.Seen.{Ends, Fits, Follows, MayFollow, Precedes}
use Rattle.st_calls.proofs.GoingThen.{goes_same}
use Rattle.st_pool.proofs.KnownPrefixes.{carries, follows_later, follows_leads}

-- a claim that was handed out fits the image later
pub claim_known : (o p : Option (List ImageView)) (c : ClaimView) (j : ImageView) → Precedes o p → IfSome o (λ l. Fits l c) → IfSome p (λ l. MayFollow l j) → FitsClaim j c
claim_known o p c j h fits may =
    let f : Fits h.begun c = subst (λ (x : Option (List ImageView)). IfSome x (λ l. Fits l c)) h.first_is fits in
    let m : MayFollow h.all j = subst (λ (x : Option (List ImageView)). IfSome x (λ l. MayFollow l j)) h.later_is may in
    fits_claim_later f.image j c (carries h.begun h.all f.image j h.along h.prefix f.ends (follows_leads h.begun h.all f.image j h.prefix f.ends m)) f.fits

-- what a worker's caches keep begins the edits of a claim that was handed out later
pub worker_known : {G : Type 0} (o p : Option (List ImageView)) (v : CachesView G) (c : ClaimView) → Precedes o p → IfSome o (λ l. Follows l v) → IfSome p (λ l. Fits l c) → IfSome v.kept (λ k. Begins k c.edits)
worker_known {G} o p v c h follows fits =
    let f : Follows h.begun v = subst (λ (x : Option (List ImageView)). IfSome x (λ l. Follows l v)) h.first_is follows in
    let g : Fits h.all c = subst (λ (x : Option (List ImageView)). IfSome x (λ l. Fits l c)) h.later_is fits in
    let on : GoesOnIn f.image g.image = carries h.begun h.all f.image g.image h.along h.prefix f.ends (g.image, g.ends, goes_same g.image) in
    subst (λ (es : List Edit). IfSome v.kept (λ k. Begins k es)) (sym g.edits) (kept_later v (world f.image).edits (world g.image).edits on.edits f.kept)

one_fits_as : (l : List ImageView) (c d : ClaimView) → BeganAs c d → Fits l c → Fits l d
one_fits_as l c d b f = record {
  image = f.image;
  ends = f.ends;
  fits = fits_claim_as f.image c d b f.fits;
  edits = b.edits ∙ f.edits;
}

-- a claim that took steps is still known
pub claim_after : (o : Option (List ImageView)) (c d : ClaimView) → BeganAs c d → IfSome o (λ l. Fits l c) → IfSome o (λ l. Fits l d)
claim_after None c d b h = tt
claim_after (Some l) c d b h = one_fits_as l c d b h

kept_by : (o : Option (List Edit)) (es fs : List Edit) → IfSome o (λ k. k ≡ es) → es ≡ fs → IfSome o (λ k. Begins k fs)
kept_by None es fs h e = tt
kept_by (Some k) es fs h e = ([], sym (h ∙ e) ∙ sym (append-nil k))

-- and a worker that ran it follows it
pub worker_after : {G : Type 0} (o : Option (List ImageView)) (d : ClaimView) (v : CachesView G) → IfSome v.kept (λ k. k ≡ d.edits) → IfSome o (λ l. Fits l d) → IfSome o (λ l. Follows l v)
worker_after {G} None d v kept h = tt
worker_after {G} (Some l) d v kept h = record { image = h.image; ends = h.ends; kept = kept_by v.kept d.edits (world h.image).edits kept h.edits }

-- the claim of a checkout is known by the image after it
pub claim_new : (o : Option (List ImageView)) (j : ImageView) (c : ClaimView) → FitsClaim j c → c.edits ≡ (world j).edits → IfSome o (λ l. Ends l j) → IfSome o (λ l. Fits l c)
claim_new None j c fits present h = tt
claim_new (Some l) j c fits present h = record { image = j; ends = h; fits = fits; edits = present }

-- the images that were seen lead to a later image
pub prefix_later : (o : Option (List ImageView)) (i j : ImageView) → GoesOnIn i j → IfSome o (λ l. MayFollow l i) → IfSome o (λ l. MayFollow l j)
prefix_later None i j g h = tt
prefix_later (Some l) i j g h = follows_later l i j g h

-- and to one that was just put behind them
pub prefix_ended : (o : Option (List ImageView)) (j : ImageView) → IfSome o (λ l. Ends l j) → IfSome o (λ l. MayFollow l j)
prefix_ended None j h = tt
prefix_ended (Some l) j h = inr (j, h, goes_same j)
