-- After each call the image goes on, and has counted as many posts and edits more as the answer tells.
use Rattle.std.proofs.Common.{◌≡◌, ℕ, List, Result, Ok, Err, ap, sym, subst, ◌∙◌, refl}
use Rattle.std.specs.Prelude.{is_ok}
use Rattle.st_classes.specs.declared.refusals.Refusal.{Refusal}
use Rattle.st_classes.specs.declared.values.Selector.{Selector}
use Rattle.st_classes.specs.declared.values.ActorId.{ActorId}
use Rattle.st_image.specs.Checkpoints.{MakesCheckpoint}
use Rattle.st_image.specs.GoingOn.{GoesOnIn}
use Rattle.st_image.specs.Images.{ImageView, counts_of}
use Rattle.st_image.specs.PostRules.{from_client}
use Rattle.st_image.specs.WorldInvariant.{IsLawful}
use Rattle.st_image.proofs.CallsLater.{closes_later, creates_later, defines_later, installs_later, interns_later, posts_later, removes_later, reparents_later, same_image}
use Rattle.st_image.proofs.Checkpointing.{anew_later}
use Rattle.st_calls.specs.declared.calls.Answer.{Answer}
use Rattle.st_calls.specs.declared.calls.Answer.TheVariants as answer
use Rattle.st_calls.specs.declared.calls.Call.{Call}
use Rattle.st_calls.specs.declared.calls.Call.TheVariants as call
use Rattle.st_calls.specs.Does.{Does, InternsIn, told}
use Rattle.st_calls.specs.Growth.{Grows, counted, edits_by, posts_by}
use Rattle.st_calls.proofs.Growing.{checkpoints_grow, closes_grow, creates_grow, defines_grow, installs_grow, interns_grow, posts_grow, removes_grow, reparents_grow}

-- ---- the image goes on

pub texts_later : (i j : ImageView) (text : List ℕ) (r : Result Selector Refusal) → InternsIn i text r j → GoesOnIn i j
texts_later i j text (Ok s) h = interns_later i j text (Ok s) h.0.0.1.0 tt h.1
texts_later i j text (Err e) h = interns_later i j text (Err e) tt h.0.1 h.1

checkpoints_later : (i j : ImageView) (r : Result (Unit {0}) Refusal) → MakesCheckpoint i r j → GoesOnIn i j
checkpoints_later i j (Ok v) h = anew_later i j h
checkpoints_later i j (Err e) h = same_image i j h.1

pub does_later : (i j : ImageView) (c : Call) (r : Result Answer Refusal) → IsLawful i → IsLawful j → Does i c r j → GoesOnIn i j
does_later i j (call.Intern text) r li lj h = texts_later i j text h.0 h.2
does_later i j (call.Define name parent slots) r li lj h = defines_later i j name parent slots h.0 li lj h.2
does_later i j (call.Install c source) r li lj h = installs_later i j c source h.0 h.2
does_later i j (call.Remove c s) r li lj h = removes_later i j c s h.0 li lj h.2
does_later i j (call.Reparent c parent) r li lj h = reparents_later i j c parent h.0 li lj h.2
does_later i j (call.Create c) r li lj h = creates_later i j c h.0 li lj h.2
does_later i j (call.Post sender seq a s args) r li lj h = posts_later i j a (from_client sender seq s args) h.0 li lj h.2
does_later i j (call.Close a) r li lj h = closes_later i j a h.0 li lj h.2
does_later i j call.Checkpoint r li lj h = checkpoints_later i j h.0 h.2

-- ---- what was counted

-- by the result of the image's call
grows_by : (i j : ImageView) (p e : ℕ) (r : Result Answer Refusal) → posts_by r ≡ p → edits_by r ≡ e → Grows p e 0 i j → Grows (posts_by r) (edits_by r) 0 i j
grows_by i j p e r hp he g = subst (λ (m : ℕ). Grows m (edits_by r) 0 i j) (sym hp) (subst (λ (n : ℕ). Grows p n 0 i j) (sym he) g)

pub texts_grow : (i j : ImageView) (text : List ℕ) (r : Result Selector Refusal) → IsLawful i → IsLawful j → InternsIn i text r j → Grows 0 0 0 i j
texts_grow i j text (Ok s) li lj h = interns_grow i j text (Ok s) li lj h.0.0.1.0 tt
texts_grow i j text (Err e) li lj h = interns_grow i j text (Err e) li lj tt h.0.1

edit_told : (r : Result ℕ Refusal) → edits_by (told answer.Version r) ≡ counted (is_ok r)
edit_told (Ok n) = refl
edit_told (Err e) = refl

no_post_told : (r : Result ℕ Refusal) → posts_by (told answer.Version r) ≡ 0
no_post_told (Ok n) = refl
no_post_told (Err e) = refl

edited : (i j : ImageView) (r : Result ℕ Refusal) (s : Result Answer Refusal) → s ≡ told answer.Version r → Grows 0 (counted (is_ok r)) 0 i j → Grows (posts_by s) (edits_by s) 0 i j
edited i j r s is g = grows_by i j 0 (counted (is_ok r)) s (ap posts_by is ∙ no_post_told r) (ap edits_by is ∙ edit_told r) g

post_told : (r : Result ℕ Refusal) → posts_by (told answer.Position r) ≡ counted (is_ok r)
post_told (Ok n) = refl
post_told (Err e) = refl

no_edit_told : (r : Result ℕ Refusal) → edits_by (told answer.Position r) ≡ 0
no_edit_told (Ok n) = refl
no_edit_told (Err e) = refl

posted : (i j : ImageView) (r : Result ℕ Refusal) (s : Result Answer Refusal) → s ≡ told answer.Position r → Grows (counted (is_ok r)) 0 0 i j → Grows (posts_by s) (edits_by s) 0 i j
posted i j r s is g = grows_by i j (counted (is_ok r)) 0 s (ap posts_by is ∙ post_told r) (ap edits_by is ∙ no_edit_told r) g

-- an answer of another kind tells neither
none_told : {A : Type 0} (tell : A → Answer) (i j : ImageView) (r : Result A Refusal) (s : Result Answer Refusal) → ((v : A) → posts_by (Ok (tell v)) ≡ 0) → ((v : A) → edits_by (Ok (tell v)) ≡ 0) → s ≡ told tell r → Grows 0 0 0 i j → Grows (posts_by s) (edits_by s) 0 i j
none_told {A} tell i j (Ok v) s p e is g = grows_by i j 0 0 s (ap posts_by is ∙ p v) (ap edits_by is ∙ e v) g
none_told {A} tell i j (Err x) s p e is g = grows_by i j 0 0 s (ap posts_by is) (ap edits_by is) g

pub does_grow : (i j : ImageView) (c : Call) (r : Result Answer Refusal) → IsLawful i → IsLawful j → Does i c r j → Grows (posts_by r) (edits_by r) 0 i j
does_grow i j (call.Intern text) r li lj h = none_told answer.Interned i j h.0 r (λ v. refl) (λ v. refl) h.1 (texts_grow i j text h.0 li lj h.2)
does_grow i j (call.Define name parent slots) r li lj h = edited i j h.0 r h.1 (defines_grow i j name parent slots h.0 li lj h.2)
does_grow i j (call.Install c source) r li lj h = edited i j h.0 r h.1 (installs_grow i j c source h.0 li lj h.2)
does_grow i j (call.Remove c s) r li lj h = edited i j h.0 r h.1 (removes_grow i j c s h.0 li lj h.2)
does_grow i j (call.Reparent c parent) r li lj h = edited i j h.0 r h.1 (reparents_grow i j c parent h.0 li lj h.2)
does_grow i j (call.Create c) r li lj h = none_told {A = ActorId} answer.Created i j h.0 r (λ v. refl) (λ v. refl) h.1 (creates_grow i j c h.0 li lj h.2)
does_grow i j (call.Post sender seq a s args) r li lj h = posted i j h.0 r h.1 (posts_grow i j a (from_client sender seq s args) h.0 li lj h.2)
does_grow i j (call.Close a) r li lj h = none_told {A = Unit {0}} (λ _. answer.Closed) i j h.0 r (λ v. refl) (λ v. refl) h.1 (closes_grow i j a h.0 li lj h.2)
does_grow i j call.Checkpoint r li lj h = none_told {A = Unit {0}} (λ _. answer.Counted (counts_of j)) i j h.0 r (λ v. refl) (λ v. refl) h.1 (checkpoints_grow i j h.0 h.2)
