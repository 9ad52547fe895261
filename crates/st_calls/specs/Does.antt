-- What a call does to an image, and what it answers.
use Rattle.std.specs.Prelude.{◌≡◌, ℕ, List, Result, Ok, Err}
use Rattle.st_classes.specs.declared.refusals.Refusal.{Refusal}
use Rattle.st_classes.specs.declared.values.Selector.{Selector}
use Rattle.st_image.specs.Calls.{Closes, Creates, Defines, InstallsIn, Interns, Posts, Removes, Reparents}
use Rattle.st_image.specs.Checkpoints.{MakesCheckpoint}
use Rattle.st_image.specs.Images.{ImageView, counts_of, world}
use Rattle.st_image.specs.PostRules.{from_client}
use Rattle.st_calls.specs.declared.calls.Answer.{Answer}
use Rattle.st_calls.specs.declared.calls.Answer.TheVariants as answer
use Rattle.st_calls.specs.declared.calls.Call.{Call}
use Rattle.st_calls.specs.declared.calls.Call.TheVariants as call

-- what was answered, as an answer of another kind; a refusal stays
abbrev pub told : {A B : Type 0} → (A → B) → Result A Refusal → Result B Refusal
told tell (Ok value) = Ok (tell value)
told tell (Err e) = Err e

-- a call of the image is made, and its answer is told
abbrev pub Tells : {A : Type 0} → (A → Answer) → (Result A Refusal → ImageView → Type 0) → Result Answer Refusal → ImageView → Type 0
Tells {A} tell Calls r j = (result : Result A Refusal) × (r ≡ told tell result) × Calls result j

-- a text is interned; that leaves the world
abbrev pub InternsIn : ImageView → List ℕ → Result Selector Refusal → ImageView → Type 0
InternsIn i text result j = Interns i text result j × (world j ≡ world i)

-- what each call does; the answer of a checkpoint is what the image has counted
abbrev pub Does : ImageView → Call → Result Answer Refusal → ImageView → Type 0
Does i (call.Intern text) r j = Tells answer.Interned (InternsIn i text) r j
Does i (call.Define name parent slots) r j = Tells answer.Version (Defines i name parent slots) r j
Does i (call.Install c source) r j = Tells answer.Version (InstallsIn i c source) r j
Does i (call.Remove c s) r j = Tells answer.Version (Removes i c s) r j
Does i (call.Reparent c parent) r j = Tells answer.Version (Reparents i c parent) r j
Does i (call.Create c) r j = Tells answer.Created (Creates i c) r j
Does i (call.Post sender seq a s args) r j = Tells answer.Position (Posts i a (from_client sender seq s args)) r j
Does i (call.Close a) r j = Tells (λ _. answer.Closed) (Closes i a) r j
Does i call.Checkpoint r j = Tells (λ _. answer.Counted (counts_of j)) (MakesCheckpoint i) r j
