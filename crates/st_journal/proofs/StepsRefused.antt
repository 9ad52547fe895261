-- Why steps are not taken again.
use Rattle.std.proofs.Common.{◌≡◌, ◌≢◌, ℕ, ◌+◌, [], ◌∷◌, List, length, drop, Bool, false, Option, Some, ◌⊎◌, inl, inr, slice_get, refl, sym, ap, ◌∙◌, arith, append-nil}
use Rattle.std.specs.Prelude.{if◌then◌else◌}
use Rattle.std.specs.List.{list_any}
use Rattle.std.proofs.lemmas.List.{drop_all}
use Rattle.st_classes.specs.declared.edits.Edit.{Edit}
use Rattle.st_classes.specs.declared.refusals.Refusal.{Refusal}
use Rattle.st_classes.specs.declared.refusals.Refusal.TheVariants.{Stale, Changed, HistoryFull, NoMemory}
use Rattle.st_classes.specs.declared.values.ActorId.{ActorId}
use Rattle.st_classes.specs.Refusals.{first_of}
use Rattle.st_turn.specs.declared.body.Body.{Body}
use Rattle.st_turn.specs.Claims.{BeganAs, ClaimView, used}
use Rattle.st_turn.specs.Surviving.{edits_since, touched}
use Rattle.st_image.specs.declared.history.Item.{Item}
use Rattle.st_image.specs.declared.history.Item.TheVariants.{Begun}
use Rattle.st_image.specs.Commits.{HasCheckedOut, IsUnchanged, RefusesCommit, Survives, after_checkout, body_at, commit_room, idle_at, steps_of, with_out}
use Rattle.st_image.specs.Images.{ImageView, appended, no_room, too_many_steps, world}
use Rattle.st_image.specs.Worlds.{World}
use Rattle.st_journal.proofs.Turns.{items_are}

-- ---- what a checkout of an actor leaves that is in a turn

checked_alone : (i j : ImageView) (a : ActorId) → idle_at (slice_get (world i).actors a.0) ≡ false → j ≡ with_out (after_checkout i a) j → j ≡ record i { standing = record i.standing { next_from = a.0 + 1; claims_out = j.standing.claims_out } }
checked_alone i j a busy checked =
    checked ∙ ap (λ (b : Bool). with_out (let k = if b then appended i (Begun a ∷ []) else i in record k { standing = record k.standing { next_from = a.0 + 1 } }) j) busy

same_world : (i j : ImageView) (a : ActorId) → idle_at (slice_get (world i).actors a.0) ≡ false → j ≡ with_out (after_checkout i a) j → world j ≡ world i
same_world i j a busy checked = ap (λ (k : ImageView). world k) (checked_alone i j a busy checked)

room_same : (i j : ImageView) (a : ActorId) (n : ℕ) → idle_at (slice_get (world i).actors a.0) ≡ false → j ≡ with_out (after_checkout i a) j → first_of (no_room j 1 ∷ too_many_steps j n ∷ []) ≡ first_of (no_room i 1 ∷ too_many_steps i n ∷ [])
room_same i j a n busy checked = ap (λ (k : ImageView). first_of (no_room k 1 ∷ too_many_steps k n ∷ [])) (checked_alone i j a busy checked)

-- ---- a claim on its body, at its table

nothing_any : {X : Type 0} (xs : List X) → list_any (λ (x : X). false) xs ≡ false
nothing_any [] = refl
nothing_any (x ∷ xs) = nothing_any xs

survives : (i : ImageView) (c : ClaimView) → c.edits ≡ (world i).edits → Survives i c
survives i c same =
    let none : edits_since c (world i).edits ≡ [] = ap (λ (es : List Edit). drop (length es) (world i).edits) same ∙ drop_all (length (world i).edits) (world i).edits (omega arith) in
    record {
      begins = ([], sym (append-nil c.edits ∙ same));
      untouched = ap (λ (es : List Edit). list_any (touched es) (used c)) none ∙ nothing_any (used c);
    }

-- ---- the commit of such a claim

-- a commit of steps that the actor has taken is refused only for want of room or of memory
pub steps_refused : (i j k : ImageView) (a : ActorId) (c d : ClaimView) (n : ℕ) (e : Refusal) (back : Option ClaimView) → idle_at (slice_get (world i).actors a.0) ≡ false → n ≢ 0 → HasCheckedOut i a c j → BeganAs c d → steps_of d ≡ n
    → RefusesCommit j d e back k → (e ≡ NoMemory) ⊎ (first_of (no_room i 1 ∷ too_many_steps i n ∷ []) ≡ Some e)
steps_refused i j k a c d n e back busy some checked began takes h = by e h
  where
    mine : d.actor ≡ a
    mine = began.actor ∙ ap (λ (x : ClaimView). x.actor) checked.claim

    lives : Survives j d
    lives = survives j d (began.edits ∙ ap (λ (x : ClaimView). x.edits) checked.claim ∙ ap (λ (w : World). w.edits) (sym (same_world i j a busy checked.image)))

    unchanged : IsUnchanged j d
    unchanged = ap (λ (x : ActorId). body_at j x) mine ∙ checked.there ∙ ap (λ (b : Body). Some b) (sym (began.before ∙ ap (λ (x : ClaimView). x.before) checked.claim))

    room : commit_room j d ≡ first_of (no_room i 1 ∷ too_many_steps i n ∷ [])
    room =
        ap (λ (xs : List Item). first_of (no_room j (length xs) ∷ too_many_steps j (steps_of d) ∷ [])) (items_are d a n mine takes some)
        ∙ ap (λ (m : ℕ). first_of (no_room j 1 ∷ too_many_steps j m ∷ [])) takes
        ∙ room_same i j a n busy checked.image

    by : (r : Refusal) → RefusesCommit j d r back k → (r ≡ NoMemory) ⊎ (first_of (no_room i 1 ∷ too_many_steps i n ∷ []) ≡ Some r)
    by (Stale version) g = absurd (g.0.0 lives)
    by Changed g = absurd (g.0.1 unchanged)
    by HistoryFull g = inr (sym room ∙ g.0.2)
    by NoMemory g = inl refl
    by r g = absurd g
