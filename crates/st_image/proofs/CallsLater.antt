-- After each call of the image, the image before goes on in the one after.
use Rattle.std.proofs.Common.{◌≡◌, subst, ◌⊎◌, ℕ, [], ◌∷◌, List, Option, Some, None, Result, Ok, Err, Bool, true, false, ap, sym, ◌∙◌, append-nil, inl, inr}
use Rattle.std.specs.Prelude.{OnErr, OnOk, IfErr, IfOk, length, slice_get, if◌then◌else◌, ◌+◌}
use Rattle.st_classes.specs.declared.values.ActorId.{ActorId}
use Rattle.st_classes.specs.declared.values.ClassId.{ClassId}
use Rattle.st_classes.specs.declared.values.Selector.{Selector}
use Rattle.st_classes.specs.declared.edits.Edit.{Edit}
use Rattle.st_classes.specs.declared.edits.Edit.TheVariants.{Install}
use Rattle.st_classes.specs.declared.refusals.Refusal.{Refusal}
use Rattle.st_classes.specs.declared.refusals.Refusal.TheVariants.{NoMemory, Stale, Changed, HistoryFull, TooMany}
use Rattle.st_classes.specs.declared.refusals.Limited.TheVariants.{Names, Edits}
use Rattle.st_classes.specs.Refusals.{Rule}
use Rattle.st_classes.specs.Names.{interned}
use Rattle.st_classes.specs.EditLists.{Begins}
use Rattle.st_turn.specs.Claims.{ClaimView}
use Rattle.st_mailbox.specs.declared.messages.Message.{Message}
use Rattle.st_image.specs.declared.history.Item.{Item}
use Rattle.st_image.specs.declared.history.Item.TheVariants.{Begun, Closed, Created, Edited, Posted}
use Rattle.st_image.specs.Worlds.{World}
use Rattle.st_image.specs.Images.{ImageView, accepted_by, appended, constants, close_rules, create_rules, image_define_rules, image_post_rules, image_remove_rules, image_reparent_rules, world}
use Rattle.st_image.specs.Calls.{Adds, Closes, Creates, Defines, InstallsIn, Posts, Removes, Reparents}
use Rattle.st_image.specs.Installs.{AnswersInstall, LeavesNames}
use Rattle.st_image.specs.Commits.{IsAsBefore, ChecksOut, Commits, IsReleased, RefusesCommit, idle_at, items_of, with_out}
use Rattle.st_image.specs.WorldInvariant.{IsLawful}
use Rattle.st_image.proofs.KnownBodies.{checked_out_knows, last_as_before, last_by_items, last_with_actors}
use Rattle.st_image.specs.GoingOn.{FitsClaim, GoesOnIn}
use Rattle.st_image.proofs.GrowingEdits.{GoesOn, edits_grow as later}

-- ---- nothing was edited

same_edits : (i j : ImageView) → (world j).edits ≡ (world i).edits → Begins (world i).edits (world j).edits
same_edits i j h = ([], h ∙ sym (append-nil (world i).edits))

-- what was counted before the base, and the history, are those of another image
pub record SameCounts (i j : ImageView) : Type 0 where
  pub earlier : j.standing.earlier ≡ i.standing.earlier
  pub history : j.history ≡ i.history

counts_by : (i j : ImageView) → j ≡ i → SameCounts i j
counts_by i j h = record { earlier = ap (λ (x : ImageView). x.standing.earlier) h; history = ap (λ (x : ImageView). x.history) h }

pub same_world : (i j : ImageView) → world j ≡ world i → SameCounts i j → GoesOnIn i j
same_world i j h same = record { edits = same_edits i j (ap (λ (w : World). w.edits) h); bodies = last_as_before i j h same.earlier same.history }

pub same_image : (i j : ImageView) → j ≡ i → GoesOnIn i j
same_image i j h = same_world i j (ap world h) (counts_by i j h)

-- ---- items were added

on_by : (i j : ImageView) → IsLawful i → IsLawful j → constants j ≡ constants i → j.standing.earlier ≡ i.standing.earlier → GoesOn i j → GoesOnIn i j
on_by i j li lj c earlier g = record { edits = later i j li lj g; bodies = last_by_items i j g.items li lj c g.base earlier g.history }

-- ---- calls that add one item

pub adds_later : {T : Type 0} (rules : List Rule) (i j : ImageView) (item : Item) (answer : ImageView → T) (r : Result T Refusal) → IsLawful i → IsLawful j → Adds rules i item answer r j → GoesOnIn i j
adds_later rules i j item answer (Ok v) li lj h = on_by i j li lj (ap constants h.0.1.0) (ap (λ (x : ImageView). x.standing.earlier) h.0.1.0) (record { base = ap (λ (x : ImageView). x.base) h.0.1.0; items = item ∷ []; history = ap (λ (x : ImageView). x.history) h.0.1.0 })
adds_later rules i j item answer (Err e) li lj h = same_image i j h.1

pub defines_later : (i j : ImageView) (name : List ℕ) (parent : ClassId) (slots : List (List ℕ)) (r : Result ℕ Refusal) → IsLawful i → IsLawful j → Defines i name parent slots r j → GoesOnIn i j
defines_later i j name parent slots r li lj (inl h) = same_image i j h.1
defines_later i j name parent slots r li lj (inr h) = adds_later (image_define_rules i name parent slots) i j _ (λ x. length (world x).edits) r li lj h

pub removes_later : (i j : ImageView) (class : ClassId) (s : Selector) (r : Result ℕ Refusal) → IsLawful i → IsLawful j → Removes i class s r j → GoesOnIn i j
removes_later i j class s r li lj h = adds_later (image_remove_rules i class s) i j _ (λ x. length (world x).edits) r li lj h

pub reparents_later : (i j : ImageView) (class parent : ClassId) (r : Result ℕ Refusal) → IsLawful i → IsLawful j → Reparents i class parent r j → GoesOnIn i j
reparents_later i j class parent r li lj h = adds_later (image_reparent_rules i class parent) i j _ (λ x. length (world x).edits) r li lj h

pub creates_later : (i j : ImageView) (class : ClassId) (r : Result ActorId Refusal) → IsLawful i → IsLawful j → Creates i class r j → GoesOnIn i j
creates_later i j class r li lj h = adds_later (create_rules i class) i j (Created class) (λ x. record { 0 = length (world i).actors }) r li lj h

pub posts_later : (i j : ImageView) (a : ActorId) (m : Message) (r : Result ℕ Refusal) → IsLawful i → IsLawful j → Posts i a m r j → GoesOnIn i j
posts_later i j a m r li lj h = adds_later (image_post_rules i a m) i j (Posted a m) (λ x. accepted_by (slice_get (world x).actors a.0)) r li lj h

pub closes_later : (i j : ImageView) (a : ActorId) (r : Result (Unit {0}) Refusal) → IsLawful i → IsLawful j → Closes i a r j → GoesOnIn i j
closes_later i j a r li lj h = adds_later (close_rules i (slice_get (world i).actors a.0)) i j (Closed a) (λ x. tt) r li lj h

-- ---- install

pub installs_in : (i j : ImageView) (c : ClassId) (text : List ℕ) (r : Result ℕ Refusal) → AnswersInstall i c text j r → IfErr r (λ e. LeavesNames i c text e j) → OnErr r (world j ≡ world i) → InstallsIn i c text r j
installs_in i j c text (Ok n) a l w = (a, tt)
installs_in i j c text (Err e) a l w = (a, (l, w))

named_counts : (i j : ImageView) (names : List (List ℕ)) → j ≡ record i { names = names } → SameCounts i j
named_counts i j names h = record { earlier = ap (λ (x : ImageView). x.standing.earlier) h; history = ap (λ (x : ImageView). x.history) h }

left_counts : (i j : ImageView) (c : ClassId) (text : List ℕ) (e : Refusal) → LeavesNames i c text e j → SameCounts i j
left_counts i j c text NoMemory (inl h) = counts_by i j h
left_counts i j c text NoMemory (inr h) = named_counts i j j.names h.only
left_counts i j c text (TooMany Names) h = named_counts i j j.names h.0.only
left_counts i j c text (TooMany Edits) h = named_counts i j j.names h.only
left_counts i j c text HistoryFull h = named_counts i j j.names h.only
left_counts i j c text e h = counts_by i j h

pub installs_later : (i j : ImageView) (c : ClassId) (text : List ℕ) (r : Result ℕ Refusal) → InstallsIn i c text r j → GoesOnIn i j
installs_later i j c text (Ok n) h =
    let in_it = h.0.3 in
    record {
      edits = (Install c in_it.parts ∷ [], ap (λ (x : World). x.edits) in_it.grown);
      bodies = last_with_actors i j (Edited (Install c in_it.parts) ∷ []) (ap (λ (x : World). x.actors) in_it.grown) (ap (λ (x : ImageView). x.standing.earlier) in_it.added) (ap (λ (x : ImageView). x.history) in_it.added);
    }
installs_later i j c text (Err e) h = same_world i j h.1.1 (left_counts i j c text e h.1.0)

-- ---- a text is interned

pub interns_later : (i j : ImageView) (text : List ℕ) (r : Result Selector Refusal) → OnOk r (j ≡ record i { names = interned i.names text }) → OnErr r (j ≡ i) → world j ≡ world i → GoesOnIn i j
interns_later i j text (Ok s) h e w = same_world i j w (named_counts i j (interned i.names text) h)
interns_later i j text (Err x) h e w = same_world i j w (counts_by i j e)

-- ---- claims

went_out : (idle : Bool) (i j : ImageView) (a : ActorId) → j ≡ with_out (let begun : ImageView = if idle then appended i (Begun a ∷ []) else i in record begun { standing = record begun.standing { next_from = a.0 + 1 } }) j → GoesOn i j
went_out true i j a h = record { base = ap (λ (x : ImageView). x.base) h; items = Begun a ∷ []; history = ap (λ (x : ImageView). x.history) h }
went_out false i j a h = record { base = ap (λ (x : ImageView). x.base) h; items = []; history = ap (λ (x : ImageView). x.history) h ∙ sym (append-nil i.history) }

went_by : (idle : Bool) (i j : ImageView) (a : ActorId) → j ≡ with_out (let begun : ImageView = if idle then appended i (Begun a ∷ []) else i in record begun { standing = record begun.standing { next_from = a.0 + 1 } }) j → (constants j ≡ constants i) × (j.standing.earlier ≡ i.standing.earlier)
went_by true i j a h = (ap constants h, ap (λ (x : ImageView). x.standing.earlier) h)
went_by false i j a h = (ap constants h, ap (λ (x : ImageView). x.standing.earlier) h)

pub checks_out_later : (i j : ImageView) (a : ActorId) (r : Result ClaimView Refusal) → IsLawful i → IsLawful j → ChecksOut i a r j → GoesOnIn i j
checks_out_later i j a (Ok c) li lj h =
    let by = went_by (idle_at (slice_get (world i).actors a.0)) i j a h.0.1.image in
    on_by i j li lj by.0 by.1 (went_out (idle_at (slice_get (world i).actors a.0)) i j a h.0.1.image)
checks_out_later i j a (Err e) li lj h = same_image i j h.1

pub checks_out_fits : (i j : ImageView) (a : ActorId) (r : Result ClaimView Refusal) → ChecksOut i a r j → GoesOnIn i j → IfOk r (FitsClaim j)
checks_out_fits i j a (Ok c) h on = record {
  edits = subst (λ (es : List Edit). Begins es (world j).edits) (sym (ap (λ (x : ClaimView). x.edits) h.0.1.claim)) on.edits;
  body = checked_out_knows i j a c h.0.1;
}
checks_out_fits i j a (Err e) h on = tt

pub released_later : (i j : ImageView) (a : ActorId) → IsReleased i a j → GoesOnIn i j
released_later i j a h = same_world i j (ap world h.image) (record { earlier = ap (λ (x : ImageView). x.standing.earlier) h.image; history = ap (λ (x : ImageView). x.history) h.image })

-- nothing changed but rows of tallies
before_later : (i j : ImageView) → IsAsBefore i j → GoesOnIn i j
before_later i j h = same_world i j (ap world h.image) (record { earlier = ap (λ (x : ImageView). x.standing.earlier) h.image; history = ap (λ (x : ImageView). x.history) h.image })

pub refused_later : (i j : ImageView) (c : ClaimView) (e : Refusal) (back : Option ClaimView) → RefusesCommit i c e back j → GoesOnIn i j
refused_later i j c (Stale version) back h = released_later i j c.actor h.2
refused_later i j c Changed back h = released_later i j c.actor h.2
refused_later i j c HistoryFull back h = before_later i j h.2
refused_later i j c NoMemory back h = before_later i j h.2
refused_later i j c _ back h = absurd h

pub commits_later : (i j : ImageView) (c : ClaimView) (r : Result ℕ (Refusal × Option ClaimView)) → IsLawful i → IsLawful j → Commits i c r j → GoesOnIn i j
commits_later i j c (Ok n) li lj h = on_by i j li lj (ap constants h.image) h.earlier (record { base = ap (λ (x : ImageView). x.base) h.image; items = items_of c; history = ap (λ (x : ImageView). x.history) h.image })
commits_later i j c (Err refused) li lj h = refused_later i j c refused.0 refused.1 h

handed_back_or_none : (i j : ImageView) (c : ClaimView) (e : Refusal) (back : Option ClaimView) → RefusesCommit i c e back j → (back ≡ None) ⊎ (back ≡ Some c)
handed_back_or_none i j c (Stale version) back h = inl h.1
handed_back_or_none i j c Changed back h = inl h.1
handed_back_or_none i j c HistoryFull back h = inr h.1
handed_back_or_none i j c NoMemory back h = inr h.1
handed_back_or_none i j c _ back h = absurd h

pub commits_back : (i j : ImageView) (c : ClaimView) (r : Result ℕ (Refusal × Option ClaimView)) → Commits i c r j → IfErr r (λ refused. (refused.1 ≡ None) ⊎ (refused.1 ≡ Some c))
commits_back i j c (Ok n) h = tt
commits_back i j c (Err refused) h = handed_back_or_none i j c refused.0 refused.1 h
