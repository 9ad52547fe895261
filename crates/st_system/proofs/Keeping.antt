-- Each event leaves the settings of the image, and its names begin those after it.
use Rattle.std.proofs.Common.{◌≡◌, ℕ, [], ◌∷◌, List, Option, Some, None, Result, Ok, Err, refl, ap, sym, ◌∙◌, length, append-nil, slice_get, inl, inr}
use Rattle.st_classes.specs.declared.values.ActorId.{ActorId}
use Rattle.st_classes.specs.declared.values.ClassId.{ClassId}
use Rattle.st_classes.specs.declared.values.Selector.{Selector}
use Rattle.st_classes.specs.declared.edits.Edit.TheVariants.{Define, Remove, Reparent}
use Rattle.st_classes.specs.declared.refusals.Refusal.{Refusal}
use Rattle.st_classes.specs.declared.refusals.Refusal.TheVariants.{Stale, Changed, HistoryFull, NoMemory, TooMany}
use Rattle.st_classes.specs.declared.refusals.Limited.TheVariants.{Names, Edits}
use Rattle.st_classes.specs.Refusals.{Rule}
use Rattle.st_compile.specs.NeededNames.{InternsFirst, needed_texts}
use Rattle.st_compile.proofs.Interning.{first-grows, grown_by}
use Rattle.st_turn.specs.Claims.{ClaimView}
use Rattle.st_image.specs.declared.history.Item.{Item}
use Rattle.st_image.specs.declared.history.Item.TheVariants.{Closed, Created, Edited, Posted}
use Rattle.st_image.specs.declared.settings.Settings.{Settings}
use Rattle.st_image.specs.Images.{ImageView, accepted_by, close_rules, create_rules, image_define_rules, image_post_rules, image_remove_rules, image_reparent_rules, world}
use Rattle.st_image.specs.PostRules.{from_client}
use Rattle.st_image.specs.WorldInvariant.{settings_of}
use Rattle.st_image.specs.Delivery.{IsPrefixOf}
use Rattle.st_image.specs.Calls.{Adds, Defines, InstallsIn, Interns}
use Rattle.st_image.specs.Installs.{AddsNames, InternsAll, LeavesNames}
use Rattle.st_image.specs.Commits.{Commits, RefusesCommit}
use Rattle.st_image.specs.Checkpoints.{MakesCheckpoint}
use Rattle.st_calls.specs.declared.calls.Answer.{Answer as CallAnswer}
use Rattle.st_calls.specs.declared.calls.Call.{Call as CallOf}
use Rattle.st_calls.specs.declared.calls.Call.TheVariants as call
use Rattle.st_calls.specs.Does.{Does}
use Rattle.st_system.specs.declared.events.Answer.{Answer}
use Rattle.st_system.specs.declared.events.Event.{Event}
use Rattle.st_system.specs.declared.events.Event.TheVariants.{Call, Commit}
use Rattle.st_system.specs.Schedules.{BareClaim, Schedule, with_sends}
use Rattle.st_system.specs.ClaimEvents.{AtWorker, CommitsClaim, OfClaim}
use Rattle.st_system.specs.Acts.{Acts}
use Rattle.st_system.specs.Uncommitted.{OnlyBegins, checkouts}
use Rattle.st_system.proofs.Uncommitting.{one_uncommitted}

-- the settings of an image are those of another, and its names begin the other's
pub record Keeps (i j : ImageView) : Type 0 where
  pub settings : settings_of j ≡ settings_of i
  pub names : IsPrefixOf i.names j.names

-- ---- nothing is added

abbrev kept : ImageView → Settings × List (List ℕ)
kept i = (settings_of i, i.names)

stays : (i j : ImageView) → kept j ≡ kept i → Keeps i j
stays i j e = record {
  settings = ap (λ (k : Settings × List (List ℕ)). k.0) e;
  names = ([], ap (λ (k : Settings × List (List ℕ)). k.1) e ∙ sym (append-nil i.names));
}

adds_keep : {T : Type 0} (rules : List Rule) (i j : ImageView) (item : Item) (answer : ImageView → T) (r : Result T Refusal) → Adds rules i item answer r j → Keeps i j
adds_keep rules i j item answer (Ok v) h = stays i j (ap kept h.0.1.0)
adds_keep rules i j item answer (Err e) h = stays i j (ap kept h.1)

defines_keep : (i j : ImageView) (name : List ℕ) (parent : ClassId) (slots : List (List ℕ)) (r : Result ℕ Refusal) → Defines i name parent slots r j → Keeps i j
defines_keep i j name parent slots r (inl h) = stays i j (ap kept h.1)
defines_keep i j name parent slots r (inr h) = adds_keep (image_define_rules i name parent slots) i j (Edited (Define name parent slots)) (λ k. length (world k).edits) r h

checkpoints_keep : (i j : ImageView) (r : Result (Unit {0}) Refusal) → MakesCheckpoint i r j → Keeps i j
checkpoints_keep i j (Ok v) h = stays i j (ap kept h.image)
checkpoints_keep i j (Err e) h = stays i j (ap kept h.1)

-- ---- names are added

interns_keep : (i j : ImageView) (text : List ℕ) (r : Result Selector Refusal) → Interns i text r j → Keeps i j
interns_keep i j text (Ok s) h = record {
  settings = ap settings_of h.0.1.0;
  names = grown_by i.names j.names (text ∷ []) (ap (λ (k : ImageView). k.names) h.0.1.0);
}
interns_keep i j text (Err e) h = stays i j (ap kept h.1)

first_keep : (i j : ImageView) (c : ClassId) (text : List ℕ) → AddsNames InternsFirst i c text j → Keeps i j
first_keep i j c text h = record { settings = ap settings_of h.only; names = first-grows i.names (needed_texts h.method) j.names h.interned }

all_keep : (i j : ImageView) (c : ClassId) (text : List ℕ) → AddsNames InternsAll i c text j → Keeps i j
all_keep i j c text h = record { settings = ap settings_of h.only; names = grown_by i.names j.names (needed_texts h.method) h.interned }

left_keeps : (i j : ImageView) (c : ClassId) (text : List ℕ) (e : Refusal) → LeavesNames i c text e j → Keeps i j
left_keeps i j c text NoMemory (inl h) = stays i j (ap kept h)
left_keeps i j c text NoMemory (inr h) = first_keep i j c text h
left_keeps i j c text (TooMany Names) h = first_keep i j c text h.0
left_keeps i j c text (TooMany Edits) h = all_keep i j c text h
left_keeps i j c text HistoryFull h = all_keep i j c text h
left_keeps i j c text e h = stays i j (ap kept h)

installs_keep : (i j : ImageView) (c : ClassId) (text : List ℕ) (r : Result ℕ Refusal) → InstallsIn i c text r j → Keeps i j
installs_keep i j c text (Ok n) h = record {
  settings = ap settings_of h.0.3.added;
  names = grown_by i.names j.names (needed_texts h.0.0) (ap (λ (k : ImageView). k.names) h.0.3.added);
}
installs_keep i j c text (Err e) h = left_keeps i j c text e h.1.0

-- ---- a call

does_keep : (i j : ImageView) (c : CallOf) (r : Result CallAnswer Refusal) → Does i c r j → Keeps i j
does_keep i j (call.Intern text) r h = interns_keep i j text h.0 h.2.0
does_keep i j (call.Define name parent slots) r h = defines_keep i j name parent slots h.0 h.2
does_keep i j (call.Install c source) r h = installs_keep i j c source h.0 h.2
does_keep i j (call.Remove c s) r h = adds_keep (image_remove_rules i c s) i j (Edited (Remove c s)) (λ k. length (world k).edits) h.0 h.2
does_keep i j (call.Reparent c parent) r h = adds_keep (image_reparent_rules i c parent) i j (Edited (Reparent c parent)) (λ k. length (world k).edits) h.0 h.2
does_keep i j (call.Create c) r h = adds_keep {T = ActorId} (create_rules i c) i j (Created c) (λ k. record { 0 = length (world i).actors }) h.0 h.2
does_keep i j (call.Post sender seq a s args) r h =
    let m = from_client sender seq s args in
    adds_keep (image_post_rules i a m) i j (Posted a m) (λ k. accepted_by (slice_get (world k).actors a.0)) h.0 h.2
does_keep i j (call.Close a) r h = adds_keep {T = Unit {0}} (close_rules i (slice_get (world i).actors a.0)) i j (Closed a) (λ k. tt {0}) h.0 h.2
does_keep i j call.Checkpoint r h = checkpoints_keep i j h.0 h.2

-- ---- a commit

refused_keeps : (i : ImageView) (c : ClaimView) (e : Refusal) (back : Option ClaimView) (j : ImageView) → RefusesCommit i c e back j → Keeps i j
refused_keeps i c (Stale version) back j h = stays i j (ap kept h.2.image)
refused_keeps i c Changed back j h = stays i j (ap kept h.2.image)
refused_keeps i c HistoryFull back j h = stays i j (ap kept h.2.image)
refused_keeps i c NoMemory back j h = stays i j (ap kept h.2.image)
refused_keeps i c e back j h = absurd h

commits_keep : (i j : ImageView) (c : ClaimView) (r : Result ℕ (Refusal × Option ClaimView)) → Commits i c r j → Keeps i j
commits_keep i j c (Ok n) h = stays i j (ap kept h.image)
commits_keep i j c (Err refused) h = refused_keeps i c refused.0 refused.1 j h

commit_keeps : (S T : Schedule) (w : ℕ) (r : Result Answer Refusal) (o : Option (Option BareClaim)) → AtWorker (OfClaim CommitsClaim) S w r T o → Keeps S.image T.image
commit_keeps S T w r None h = stays S.image T.image (ap (λ (X : Schedule). kept X.image) h.1)
commit_keeps S T w r (Some None) h = stays S.image T.image (ap kept h.1.1)
commit_keeps S T w r (Some (Some c)) h = commits_keep S.image T.image (with_sends c h.1.0 h.1.1) h.1.2 h.1.4

-- ---- an event

begins_keep : (n : ℕ) (i j : ImageView) → OnlyBegins n i j → Keeps i j
begins_keep n i j h = record { settings = h.settings; names = ([], h.names ∙ sym (append-nil i.names)) }

pub event_keeps : (S T : Schedule) (e : Event) (r : Result Answer Refusal) → Acts S e r T → Keeps S.image T.image
event_keeps S T (Call c) r (inl h) = stays S.image T.image (ap (λ (X : Schedule). kept X.image) h.1.1)
event_keeps S T (Call c) r (inr h) = does_keep S.image T.image c h.0 h.2
event_keeps S T (Commit w) r h = commit_keeps S T w r (slice_get S.claims w) h
event_keeps S T e r h = begins_keep (checkouts (e ∷ [])) S.image T.image (one_uncommitted S T e r refl h)
