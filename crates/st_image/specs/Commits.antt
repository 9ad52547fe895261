-- Checkouts, commits and releases of claims.
use Rattle.std.specs.Prelude.{◌≡◌, ◌≢◌, ◌≤◌, ℕ, ◌+◌, ◌==◌, ◌&&◌, List, [], ◌∷◌, length, Bool, true, Option, Some, None, Result, Ok, Err, OnErr, nat_lt, if◌then◌else◌, slice_get, option_and_then}
use Rattle.std.specs.Option.{option_map}
use Rattle.st_classes.specs.declared.values.ActorId.{ActorId}
use Rattle.st_classes.specs.declared.keys.SiteId.{SiteId}
use Rattle.st_classes.specs.declared.edits.Edit.{Edit}
use Rattle.st_classes.specs.declared.refusals.Refusal.{Refusal}
use Rattle.st_classes.specs.declared.refusals.Refusal.TheVariants.{UnknownActor, NothingToDo, Stale, Changed, HistoryFull, NoMemory}
use Rattle.st_classes.specs.Refusals.{Rule, first_of}
use Rattle.st_turn.specs.declared.body.Body.{Body}
use Rattle.st_turn.specs.Idle.{is_idle}
use Rattle.st_turn.specs.Claims.{ClaimView}
use Rattle.st_turn.specs.Surviving.{SurvivesAt}
use Rattle.st_turn.specs.Steps.{Asked, asked, is_outer, step}
use Rattle.st_image.specs.declared.history.Item.{Item}
use Rattle.st_image.specs.declared.history.Item.TheVariants.{Begun, Ran}
use Rattle.st_image.specs.Worlds.{WorldActor, pending}
use Rattle.st_image.specs.Images.{ImageView, appended, no_room, too_many_steps, world}
use Rattle.st_image.specs.Calls.{AnswersExactly}
use Rattle.st_image.specs.Changes.{change_count, changes_in}
use Rattle.st_image.specs.ClaimsOut.{claims_of, one_less, one_more}
use Rattle.st_image.specs.Tallies.{SameTallies, Tallied}

-- the body of an actor, if it exists
abbrev pub body_at : ImageView → ActorId → Option Body
body_at i a = option_map (λ (b : WorldActor). b.body) (slice_get (world i).actors a.0)

-- how many claims of an actor are out
abbrev pub out_at : ImageView → ℕ → ℕ
out_at i a = claims_of i.standing.claims_out a

-- the number of claims out is changed for one actor, and stays for every other
abbrev pub CountsOut : (ℕ → ℕ) → ActorId → ImageView → ImageView → Type 0
CountsOut count a i j = (b : ℕ) → out_at j b ≡ (if b == a.0 then count (out_at i b) else out_at i b)

-- the image i, with the numbers of claims out that j has
abbrev pub with_out : ImageView → ImageView → ImageView
with_out i j = record i { standing = record i.standing { claims_out = j.standing.claims_out } }

-- how often the body of an actor was changed since the image was new or loaded
abbrev pub changed_at : ImageView → ℕ → ℕ
changed_at i a = change_count i.standing.earlier.changes a + changes_in i.history a

-- ---- checkout

-- the refusals of a checkout, in their order: an idle actor needs a message, and the history needs room for its beginning
abbrev pub checkout_rules : ImageView → Option WorldActor → List Rule
checkout_rules i None = (true, UnknownActor) ∷ []
checkout_rules i (Some b) =
    (is_idle b.body.phase && (length (pending b) == 0), NothingToDo)
    ∷ (is_idle b.body.phase && nat_lt i.most_items (length i.history + 1), HistoryFull)
    ∷ []

-- an actor is idle; so is one that does not exist
abbrev pub idle_at : Option WorldActor → Bool
idle_at None = true
idle_at (Some b) = is_idle b.body.phase

-- the image after a checkout, except for the claims out: an idle actor begins its next message
abbrev pub after_checkout : ImageView → ActorId → ImageView
after_checkout i a =
    let begun = if idle_at (slice_get (world i).actors a.0) then appended i (Begun a ∷ []) else i in
    record begun { standing = record begun.standing { next_from = a.0 + 1 } }

-- a claim with no steps on a body, with a stamp
abbrev pub new_claim : List Edit → ActorId → Body → ℕ → ClaimView
new_claim edits a b stamp =
    record { actor = a; edits = edits; before = b; after = b; steps = 0; sends = []; stamp = stamp }

-- the claim is on the actor's body after the checkout, at the present class table; its stamp is how often that body was changed
pub record HasCheckedOut (i : ImageView) (a : ActorId) (c : ClaimView) (j : ImageView) : Type 0 where
  pub body : Body
  pub there : body_at j a ≡ Some body
  pub claim : c ≡ new_claim (world i).edits a body (changed_at j a.0)
  pub image : j ≡ with_out (after_checkout i a) j
  pub counted : CountsOut one_more a i j

-- a claim is handed out; a refused checkout changes nothing
abbrev pub ChecksOut : ImageView → ActorId → Result ClaimView Refusal → ImageView → Type 0
ChecksOut i a result j = AnswersExactly (first_of (checkout_rules i (slice_get (world i).actors a.0))) result
    (λ c. HasCheckedOut i a c j)
    × OnErr result (j ≡ i)

-- ---- commit

-- the next step of a claim's actor is one that the image takes
abbrev pub stands_before_act : ClaimView → Bool
stands_before_act c = is_outer (step c.edits c.actor c.after)

-- the steps of a commit: those of the claim, and the image's step if it comes next
abbrev pub steps_of : ClaimView → ℕ
steps_of c = c.steps + (if stands_before_act c then 1 else 0)

-- what a commit adds to the history; nothing if there are no steps
abbrev pub items_of : ClaimView → List Item
items_of c = if steps_of c == 0 then [] else Ran c.actor (steps_of c) ∷ []

-- the site of the image's step, if it comes next
abbrev pub act_site : ClaimView → Option SiteId
act_site c =
    if stands_before_act c then option_and_then (λ (q : Asked). q.site) (asked c.edits c.after) else None

-- a claim survives if its edits are a prefix of the class table's, and no edit since touched a selector that its steps used
abbrev pub Survives : ImageView → ClaimView → Type 0
Survives i c = SurvivesAt (world i).edits c

-- the actor exists, and its body is the one with which the claim began
abbrev pub IsUnchanged : ImageView → ClaimView → Type 0
IsUnchanged i c = body_at i c.actor ≡ Some c.before

-- The stamp of a claim identifies the body with which it began: the actor's body was changed at least that often, and if no more often,
-- it is still that body.
pub record KnowsBody (i : ImageView) (c : ClaimView) : Type 0 where
  pub early : c.stamp ≤ changed_at i c.actor.0
  pub same : c.stamp ≡ changed_at i c.actor.0 → IsUnchanged i c

-- One image goes on in another: no actor's count of changes is less there, and a body whose count is the same is the same.
abbrev pub BodiesLast : ImageView → ImageView → Type 0
BodiesLast i j = (a : ActorId) → (changed_at i a.0 ≤ changed_at j a.0)
    × ((b : Body) → changed_at j a.0 ≡ changed_at i a.0 → body_at i a ≡ Some b → body_at j a ≡ Some b)

-- why a commit has no room, if so: in the history for what it adds, or in the count of steps
abbrev pub commit_room : ImageView → ClaimView → Option Refusal
commit_room i c = first_of (no_room i (length (items_of c)) ∷ too_many_steps i (steps_of c) ∷ [])

-- nothing refuses a commit
pub record CommitAllowed (i : ImageView) (c : ClaimView) : Type 0 where
  pub survives : Survives i c
  pub unchanged : IsUnchanged i c
  pub room : commit_room i c ≡ None

-- the steps are the actor's now, and each call site has counted the sends among them; the image's step counts as a walk
pub record HasCommitted (i : ImageView) (c : ClaimView) (n : ℕ) (j : ImageView) : Type 0 where
  pub allowed : CommitAllowed i c
  pub steps : n ≡ steps_of c
  pub image : j ≡ record (appended i (items_of c)) { standing = j.standing }
  pub next_from : j.standing.next_from ≡ i.standing.next_from
  pub earlier : j.standing.earlier ≡ i.standing.earlier
  pub counted : CountsOut one_less c.actor i j
  pub tallied : Tallied i.standing.tallies c.sends (act_site c) j.standing.tallies

-- nothing changes, except that a claim is no longer out
pub record IsReleased (i : ImageView) (a : ActorId) (j : ImageView) : Type 0 where
  pub image : j ≡ with_out i j
  pub counted : CountsOut one_less a i j

-- nothing changes, except that rows of tallies may have grown by empty ones
pub record IsAsBefore (i j : ImageView) : Type 0 where
  pub image : j ≡ record i { standing = record i.standing { tallies = j.standing.tallies } }
  pub tallies : SameTallies i.standing.tallies j.standing.tallies

-- Why a commit is refused, memory aside. First, the claim does not survive; the refusal has the present number of edits. Then, the
-- actor does not exist or has another body. Then, there is no room in the history or in the count of steps.
abbrev pub CommitRefused : ImageView → ClaimView → Refusal → Type 0
CommitRefused i c (Stale version) = (Survives i c → ⊥) × (version ≡ length (world i).edits)
CommitRefused i c Changed = Survives i c × (body_at i c.actor ≢ Some c.before)
CommitRefused i c HistoryFull = Survives i c × IsUnchanged i c × (commit_room i c ≡ Some HistoryFull)
CommitRefused i c e = ⊥

-- What a refused commit leaves: Stale and Changed spend the claim, HistoryFull and NoMemory hand it back as it was. Memory runs out only
-- if nothing else refuses the commit.
abbrev pub RefusesCommit : ImageView → ClaimView → Refusal → Option ClaimView → ImageView → Type 0
RefusesCommit i c (Stale version) back j = CommitRefused i c (Stale version) × (back ≡ None) × IsReleased i c.actor j
RefusesCommit i c Changed back j = CommitRefused i c Changed × (back ≡ None) × IsReleased i c.actor j
RefusesCommit i c HistoryFull back j = CommitRefused i c HistoryFull × (back ≡ Some c) × IsAsBefore i j
RefusesCommit i c NoMemory back j = CommitAllowed i c × (back ≡ Some c) × IsAsBefore i j
RefusesCommit i c e back j = ⊥

-- a claim is committed, or refused
abbrev pub Commits : ImageView → ClaimView → Result ℕ (Refusal × Option ClaimView) → ImageView → Type 0
Commits i c (Ok n) j = HasCommitted i c n j
Commits i c (Err refused) j = RefusesCommit i c refused.0 refused.1 j

-- a claim that was handed back is released
abbrev pub ReleasesBack : ImageView → Option ClaimView → ImageView → Type 0
ReleasesBack i None j = j ≡ i
ReleasesBack i (Some c) j = IsReleased i c.actor j

-- a claim is committed; or its commit is refused, and then it is released where it was handed back
abbrev pub Settles : ImageView → ClaimView → Result ℕ Refusal → ImageView → Type 0
Settles i c (Ok n) j = Commits i c (Ok n) j
Settles i c (Err e) j = (back : Option ClaimView) × (k : ImageView) × Commits i c (Err (e, back)) k × ReleasesBack k back j
