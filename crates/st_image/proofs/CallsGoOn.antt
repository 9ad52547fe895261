-- After each call of the image but a checkpoint its history goes on, from the base that it had.
use Rattle.std.proofs.Common.{◌≡◌, ℕ, ◌+◌, List, [], ◌∷◌, Option, Result, Ok, Err, Bool, true, false, if◌then◌else◌, sym, ap, ◌∙◌, length, slice_get, append-nil, inl, inr}
use Rattle.std.specs.Prelude.{OnErr, OnOk}
use Rattle.st_classes.specs.declared.values.ActorId.{ActorId}
use Rattle.st_classes.specs.declared.values.ClassId.{ClassId}
use Rattle.st_classes.specs.declared.values.Selector.{Selector}
use Rattle.st_classes.specs.declared.edits.Edit.TheVariants.{Define, Install, Remove, Reparent}
use Rattle.st_classes.specs.declared.refusals.Refusal.{Refusal}
use Rattle.st_classes.specs.declared.refusals.Refusal.TheVariants.{Stale, Changed, HistoryFull, NoMemory, TooMany}
use Rattle.st_classes.specs.declared.refusals.Limited.TheVariants.{Names, Edits}
use Rattle.st_classes.specs.Names.{interned}
use Rattle.st_turn.specs.Claims.{ClaimView}
use Rattle.st_mailbox.specs.declared.messages.Message.{Message}
use Rattle.st_image.specs.declared.history.Item.TheVariants.{Begun, Closed, Created, Edited, Posted}
use Rattle.st_image.specs.Images.{ImageView, accepted_by, appended, close_rules, create_rules, image_define_rules, image_post_rules, image_remove_rules, image_reparent_rules, world}
use Rattle.st_image.specs.Calls.{Closes, Creates, Defines, InstallsIn, Posts, Removes, Reparents}
use Rattle.st_image.specs.Installs.{LeavesNames}
use Rattle.st_image.specs.Commits.{ChecksOut, Commits, HasCheckedOut, RefusesCommit, idle_at, items_of, with_out}
use Rattle.st_image.proofs.GrowingEdits.{GoesOn, goes_added, goes_from, goes_named}

-- ---- claims

-- what an image keeps beside its world is no item
pub out_goes : (i j : ImageView) → j ≡ with_out i j → GoesOn i j
out_goes i j e = record {
  base = ap (λ (k : ImageView). k.base) e;
  items = [];
  history = ap (λ (k : ImageView). k.history) e ∙ sym (append-nil i.history);
}

-- an image with the history of another and perhaps a beginning
begun_goes : (t : Bool) (i k : ImageView) (a : ActorId) → k ≡ with_out (let begun : ImageView = if t then appended i (Begun a ∷ []) else i in record begun { standing = record begun.standing { next_from = a.0 + 1 } }) k → GoesOn i k
begun_goes true i k a e = record {
  base = ap (λ (x : ImageView). x.base) e;
  items = Begun a ∷ [];
  history = ap (λ (x : ImageView). x.history) e;
}
begun_goes false i k a e = record {
  base = ap (λ (x : ImageView). x.base) e;
  items = [];
  history = ap (λ (x : ImageView). x.history) e ∙ sym (append-nil i.history);
}

pub checkout_goes : (i k : ImageView) (a : ActorId) (c : ClaimView) → HasCheckedOut i a c k → GoesOn i k
checkout_goes i k a c h = begun_goes (idle_at (slice_get (world i).actors a.0)) i k a h.image

pub refuse_goes : (i : ImageView) (c : ClaimView) (e : Refusal) (back : Option ClaimView) (j : ImageView) → RefusesCommit i c e back j → GoesOn i j
refuse_goes i c (Stale version) back j h = out_goes i j h.2.image
refuse_goes i c Changed back j h = out_goes i j h.2.image
refuse_goes i c HistoryFull back j h = record {
  base = ap (λ (k : ImageView). k.base) h.2.image;
  items = [];
  history = ap (λ (k : ImageView). k.history) h.2.image ∙ sym (append-nil i.history);
}
refuse_goes i c NoMemory back j h = record {
  base = ap (λ (k : ImageView). k.base) h.2.image;
  items = [];
  history = ap (λ (k : ImageView). k.history) h.2.image ∙ sym (append-nil i.history);
}
refuse_goes i c e back j h = absurd h

pub checks_out_goes : (i j : ImageView) (a : ActorId) (r : Result ClaimView Refusal) → ChecksOut i a r j → GoesOn i j
checks_out_goes i j a (Ok c) h = checkout_goes i j a c h.0.1
checks_out_goes i j a (Err e) h = goes_from i j h.1

pub commits_goes : (i j : ImageView) (c : ClaimView) (r : Result ℕ (Refusal × Option ClaimView)) → Commits i c r j → GoesOn i j
commits_goes i j c (Ok n) h = record {
  base = ap (λ (k : ImageView). k.base) h.image;
  items = items_of c;
  history = ap (λ (k : ImageView). k.history) h.image;
}
commits_goes i j c (Err refused) h = refuse_goes i c refused.0 refused.1 j h

-- ---- edits, actors, messages

pub interns_goes : (i j : ImageView) (text : List ℕ) (r : Result Selector Refusal) → OnOk r (j ≡ record i { names = interned i.names text }) → OnErr r (j ≡ i) → GoesOn i j
interns_goes i j text (Ok s) h e = goes_named i j (interned i.names text) h
interns_goes i j text (Err x) h e = goes_from i j e

pub defines_goes : (i j : ImageView) (name : List ℕ) (parent : ClassId) (slots : List (List ℕ)) (r : Result ℕ Refusal) → Defines i name parent slots r j → GoesOn i j
defines_goes i j name parent slots r (inl h) = goes_from i j h.1
defines_goes i j name parent slots r (inr h) = goes_added (image_define_rules i name parent slots) i j (Edited (Define name parent slots)) (λ k. length (world k).edits) r h

pub removes_goes : (i j : ImageView) (c : ClassId) (s : Selector) (r : Result ℕ Refusal) → Removes i c s r j → GoesOn i j
removes_goes i j c s r h = goes_added (image_remove_rules i c s) i j (Edited (Remove c s)) (λ k. length (world k).edits) r h

pub reparents_goes : (i j : ImageView) (c p : ClassId) (r : Result ℕ Refusal) → Reparents i c p r j → GoesOn i j
reparents_goes i j c p r h = goes_added (image_reparent_rules i c p) i j (Edited (Reparent c p)) (λ k. length (world k).edits) r h

pub creates_goes : (i j : ImageView) (c : ClassId) (r : Result ActorId Refusal) → Creates i c r j → GoesOn i j
creates_goes i j c r h = goes_added (create_rules i c) i j (Created c) (λ k. record { 0 = length (world i).actors }) r h

pub posts_goes : (i j : ImageView) (a : ActorId) (m : Message) (r : Result ℕ Refusal) → Posts i a m r j → GoesOn i j
posts_goes i j a m r h = goes_added (image_post_rules i a m) i j (Posted a m) (λ k. accepted_by (slice_get (world k).actors a.0)) r h

pub closes_goes : (i j : ImageView) (a : ActorId) (r : Result (Unit {0}) Refusal) → Closes i a r j → GoesOn i j
closes_goes i j a r h = goes_added (close_rules i (slice_get (world i).actors a.0)) i j (Closed a) (λ k. tt) r h

-- only names are left
left_goes : (i j : ImageView) (c : ClassId) (text : List ℕ) (e : Refusal) → LeavesNames i c text e j → GoesOn i j
left_goes i j c text NoMemory (inl h) = goes_from i j h
left_goes i j c text NoMemory (inr h) = goes_named i j j.names h.only
left_goes i j c text (TooMany Names) h = goes_named i j j.names h.0.only
left_goes i j c text (TooMany Edits) h = goes_named i j j.names h.only
left_goes i j c text HistoryFull h = goes_named i j j.names h.only
left_goes i j c text e h = goes_from i j h

pub installs_goes : (i j : ImageView) (c : ClassId) (text : List ℕ) (r : Result ℕ Refusal) → InstallsIn i c text r j → GoesOn i j
installs_goes i j c text (Ok n) h = record {
  base = ap (λ (k : ImageView). k.base) h.0.3.added;
  items = Edited (Install c h.0.3.parts) ∷ [];
  history = ap (λ (k : ImageView). k.history) h.0.3.added;
}
installs_goes i j c text (Err e) h = left_goes i j c text e h.1.0
