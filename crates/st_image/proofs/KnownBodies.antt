-- A claim's stamp tells its body: from the checkout on, and while the image goes on.
use Rattle.std.proofs.Common.{arith, ◌≡◌, ◌≤◌, ◌+◌, ◌++◌, ℕ, [], List, Option, Some, None, refl, ap, sym, ◌∙◌, subst, slice_get, append-nil, option_and_then}
use Rattle.std.specs.Option.{option_map}
use Rattle.st_classes.specs.declared.values.ActorId.{ActorId}
use Rattle.st_turn.specs.declared.body.Body.{Body}
use Rattle.st_turn.specs.Claims.{BeganAs, ClaimView}
use Rattle.st_image.specs.declared.history.Item.{Item}
use Rattle.st_image.specs.Worlds.{Constants, World, WorldActor}
use Rattle.st_image.specs.Replay.{replay}
use Rattle.st_image.specs.Images.{ImageView, constants, world}
use Rattle.st_image.specs.WorldInvariant.{IsLawful}
use Rattle.st_image.specs.Changes.{change_count, changes_in}
use Rattle.st_image.specs.EarlierCounts.{EarlierCounts}
use Rattle.st_image.specs.Commits.{BodiesLast, HasCheckedOut, KnowsBody, body_at, changed_at, new_claim}
use Rattle.st_image.proofs.BodyChanges.{body_stays, changes_append}
use Rattle.st_image.proofs.Replays.{replay_append}

-- ---- the claim of a checkout

new_knows : (i j : ImageView) (a : ActorId) (body : Body) → body_at j a ≡ Some body → KnowsBody j (new_claim (world i).edits a body (changed_at j a.0))
new_knows i j a body there = record { early = omega arith; same = λ e. there }

pub checked_out_knows : (i j : ImageView) (a : ActorId) (c : ClaimView) → HasCheckedOut i a c j → KnowsBody j c
checked_out_knows i j a c h = subst (KnowsBody j) (sym h.claim) (new_knows i j a h.body h.there)

-- ---- a claim that began as another

by_parts : (i : ImageView) (a b : ActorId) (body other : Body) (m n : ℕ) → b ≡ a → other ≡ body → n ≡ m
    → (m ≤ changed_at i a.0) → (m ≡ changed_at i a.0 → body_at i a ≡ Some body)
    → (n ≤ changed_at i b.0) × (n ≡ changed_at i b.0 → body_at i b ≡ Some other)
by_parts i a b body other m n e f g early same =
    let actor : (ActorId → Type 0) = λ (x : ActorId). (n ≤ changed_at i x.0) × (n ≡ changed_at i x.0 → body_at i x ≡ Some other) in
    subst actor (sym e) (omega (arith, g, early), λ h. same (sym g ∙ h) ∙ ap Some (sym f))

pub knows_as : (i : ImageView) (c d : ClaimView) → BeganAs c d → KnowsBody i c → KnowsBody i d
knows_as i c d b k =
    let both = by_parts i c.actor d.actor c.before d.before c.stamp d.stamp b.actor b.before b.stamp k.early k.same in
    record { early = both.0; same = both.1 }

-- ---- an image that goes on

-- what was counted before stays, and the history goes on
pub grown_by : (i j : ImageView) (items : List Item) (a : ℕ) → j.standing.earlier ≡ i.standing.earlier → j.history ≡ i.history ++ items → changed_at j a ≡ changed_at i a + changes_in items a
grown_by i j items a earlier more =
    let was : change_count j.standing.earlier.changes a ≡ change_count i.standing.earlier.changes a = ap (λ (e : EarlierCounts). change_count e.changes a) earlier in
    let grown : changes_in j.history a ≡ changes_in i.history a + changes_in items a = ap (λ (h : List Item). changes_in h a) more ∙ changes_append i.history items a in
    omega (arith, was, grown)

-- items that leave the actors
pub last_with_actors : (i j : ImageView) (items : List Item) → (world j).actors ≡ (world i).actors → j.standing.earlier ≡ i.standing.earlier → j.history ≡ i.history ++ items → BodiesLast i j
last_with_actors i j items same earlier more = λ a.
    let grown : changed_at j a.0 ≡ changed_at i a.0 + changes_in items a.0 = grown_by i j items a.0 earlier more in
    (omega (arith, grown), λ b e at. ap (λ (bs : List WorldActor). option_map (λ (x : WorldActor). x.body) (slice_get bs a.0)) same ∙ at)

-- nothing happened
pub last_as_before : (i j : ImageView) → world j ≡ world i → j.standing.earlier ≡ i.standing.earlier → j.history ≡ i.history → BodiesLast i j
last_as_before i j same earlier history = last_with_actors i j [] (ap (λ (w : World). w.actors) same) earlier (history ∙ sym (append-nil i.history))

there_by : (o : Option WorldActor) (body : Body) → option_map (λ (x : WorldActor). x.body) o ≡ Some body → (b : WorldActor) × (o ≡ Some b) × (b.body ≡ body)
there_by None body e = cc
there_by (Some b) body e = (b, refl, cc)

-- the world goes on by the items
goes_by : (c d : Constants) (base start w v : World) (h k items : List Item) → d ≡ c → start ≡ base → k ≡ h ++ items → replay c base h ≡ Some w → replay d start k ≡ Some v → replay c w items ≡ Some v
goes_by c d base start w v h k items constants same more first last =
    ap (λ (o : Option World). option_and_then (λ u. replay c u items) o) (sym first)
    ∙ sym (replay_append c base h items)
    ∙ ap (replay c base) (sym more)
    ∙ ap (λ (b : World). replay c b k) (sym same)
    ∙ ap (λ (x : Constants). replay x start k) (sym constants)
    ∙ last

-- items by the same constants
pub last_by_items : (i j : ImageView) (items : List Item) → IsLawful i → IsLawful j → constants j ≡ constants i → j.base ≡ i.base → j.standing.earlier ≡ i.standing.earlier → j.history ≡ i.history ++ items → BodiesLast i j
last_by_items i j items li lj c base earlier more = λ a.
    let grown : changed_at j a.0 ≡ changed_at i a.0 + changes_in items a.0 = grown_by i j items a.0 earlier more in
    let goes = goes_by (constants i) (constants j) i.base j.base (world i) (world j) i.history j.history items c base more li.lawful lj.lawful in (
      omega (arith, grown),
      λ b e at.
          let none : changes_in items a.0 ≡ 0 = omega (arith, grown, e) in
          let x = there_by (slice_get (world i).actors a.0) b at in
          body_stays (constants i) (world i) (world j) items a.0 x.0 goes none x.1 ∙ ap Some x.2,
    )

-- what a claim knows, it knows later
pub knows_later : (i j : ImageView) (c : ClaimView) → BodiesLast i j → KnowsBody i c → KnowsBody j c
knows_later i j c last k =
    let l = last c.actor in
    record {
      early = omega (arith, l.0, k.early);
      same = λ e.
          let still : c.stamp ≡ changed_at i c.actor.0 = omega (arith, l.0, k.early, e) in
          let equal : changed_at j c.actor.0 ≡ changed_at i c.actor.0 = sym e ∙ still in
          l.1 c.before equal (k.same still);
    }
