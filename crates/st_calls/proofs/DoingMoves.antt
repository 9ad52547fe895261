-- After each call the history goes on from its base, or the image begins anew.
use Rattle.std.proofs.Common.{◌⊎◌, ℕ, List, Result, Ok, Err, inl, inr}
use Rattle.st_classes.specs.declared.refusals.Refusal.{Refusal}
use Rattle.st_classes.specs.declared.values.Selector.{Selector}
use Rattle.st_image.specs.Checkpoints.{BeginsAnew, MakesCheckpoint}
use Rattle.st_image.specs.Images.{ImageView}
use Rattle.st_image.specs.PostRules.{from_client}
use Rattle.st_image.proofs.GrowingEdits.{GoesOn, goes_from}
use Rattle.st_image.proofs.CallsGoOn.{closes_goes, creates_goes, defines_goes, installs_goes, interns_goes, posts_goes, removes_goes, reparents_goes}
use Rattle.st_calls.specs.declared.calls.Answer.{Answer}
use Rattle.st_calls.specs.declared.calls.Call.{Call}
use Rattle.st_calls.specs.declared.calls.Call.TheVariants as call
use Rattle.st_calls.specs.Does.{Does, InternsIn}

-- the history goes on, or begins anew
abbrev pub Moves : ImageView → ImageView → Type 0
Moves i j = GoesOn i j ⊎ BeginsAnew i j

texts_go : (i j : ImageView) (text : List ℕ) (r : Result Selector Refusal) → InternsIn i text r j → GoesOn i j
texts_go i j text (Ok s) h = interns_goes i j text (Ok s) h.0.0.1.0 tt
texts_go i j text (Err e) h = interns_goes i j text (Err e) tt h.0.1

checkpoint_moves : (i j : ImageView) (r : Result (Unit {0}) Refusal) → MakesCheckpoint i r j → Moves i j
checkpoint_moves i j (Ok v) h = inr h
checkpoint_moves i j (Err e) h = inl (goes_from i j h.1)

pub does_moves : (i j : ImageView) (c : Call) (r : Result Answer Refusal) → Does i c r j → Moves i j
does_moves i j (call.Intern text) r h = inl (texts_go i j text h.0 h.2)
does_moves i j (call.Define name parent slots) r h = inl (defines_goes i j name parent slots h.0 h.2)
does_moves i j (call.Install c source) r h = inl (installs_goes i j c source h.0 h.2)
does_moves i j (call.Remove c s) r h = inl (removes_goes i j c s h.0 h.2)
does_moves i j (call.Reparent c parent) r h = inl (reparents_goes i j c parent h.0 h.2)
does_moves i j (call.Create c) r h = inl (creates_goes i j c h.0 h.2)
does_moves i j (call.Post sender seq a s args) r h = inl (posts_goes i j a (from_client sender seq s args) h.0 h.2)
does_moves i j (call.Close a) r h = inl (closes_goes i j a h.0 h.2)
does_moves i j call.Checkpoint r h = checkpoint_moves i j h.0 h.2
