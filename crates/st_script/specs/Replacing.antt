-- A method is installed over the version that its class has.
use Rattle.std.specs.Prelude.{◌≡◌, ◌⊎◌, ◌==◌, ℕ, List, MatchBool, MatchResult, Result}
use Rattle.st_classes.specs.declared.values.ClassId.{ClassId}
use Rattle.st_classes.specs.declared.refusals.Refusal.{Refusal}
use Rattle.st_classes.specs.declared.refusals.Refusal.TheVariants.{NoMemory, Stale}
use Rattle.st_compile.specs.Scopes.{pattern_selector}
use Rattle.st_image.specs.Images.{ImageView, world}
use Rattle.st_image.specs.Installs.{IsUnread}
use Rattle.st_queries.specs.OwnMethods.{own_version}
use Rattle.st_reader.specs.Faults.{IsBadSource}
use Rattle.st_reader.specs.Spelling.{Spells}
use Rattle.st_reader.specs.Syntax.{Method}
use Rattle.st_calls.specs.declared.calls.Answer.{Answer}
use Rattle.st_calls.specs.declared.calls.Call.{Call}
use Rattle.st_calls.specs.declared.calls.Call.TheVariants as call
use Rattle.st_wire.specs.declared.replies.Reply.{Reply}
use Rattle.st_wire.specs.declared.replies.Reply.TheVariants as reply
use Rattle.st_script.specs.CallOf.{RepliesTo, class_in}
use Rattle.st_script.specs.Posting.{Nothing}

-- the version of the class's own method for a method's selector
abbrev pub version_for : ImageView → ClassId → Method → ℕ
version_for i c method = own_version i.names (world i).edits c (pattern_selector method.pattern)

-- the source spells a method: it is installed if that version is the one it goes over; else the refusal tells the version
abbrev pub ReplacesRead : {H N : Type 0} → (H → ImageView) → (H → N → Call → Result Answer Refusal → H → N → Type 0)
    → H → N → ClassId → ℕ → List ℕ → Method → Reply → H → N → Type 0
ReplacesRead {H} {N} image Calls h n c over source method r k m = MatchBool (version_for (image h) c method == over)
    (RepliesTo (Calls h n (call.Install c source)) r k m)
    ((r ≡ reply.Refused (Stale (version_for (image h) c method))) × Nothing h n k m)

-- the source is read first; memory may run out before
abbrev pub ReplacesIn : {H N : Type 0} → (H → ImageView) → (H → N → Call → Result Answer Refusal → H → N → Type 0)
    → H → N → ClassId → ℕ → List ℕ → Reply → H → N → Type 0
ReplacesIn {H} {N} image Calls h n c over source r k m =
    ((method : Method) × Spells method source × ReplacesRead image Calls h n c over source method r k m)
    ⊎ ((e : Refusal) × ((e ≡ NoMemory) ⊎ (IsUnread source × IsBadSource e)) × (r ≡ reply.Refused e) × Nothing h n k m)

-- the class is looked up before
abbrev pub Replaces : {H N : Type 0} → (H → ImageView) → (H → N → Call → Result Answer Refusal → H → N → Type 0)
    → H → N → List ℕ → ℕ → List ℕ → Reply → H → N → Type 0
Replaces {H} {N} image Calls h n class over source r k m = MatchResult (class_in (image h) class)
    (λ c. ReplacesIn image Calls h n c over source r k m)
    (λ e. (r ≡ reply.Refused e) × Nothing h n k m)
