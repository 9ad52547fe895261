-- The call that a command makes, and the reply to it.
use Rattle.std.specs.Prelude.{◌≡◌, ℕ, List, Result, Ok, Err, MatchResult, ok_or}
use Rattle.st_classes.specs.declared.values.ClassId.{ClassId}
use Rattle.st_classes.specs.declared.refusals.Refusal.{Refusal}
use Rattle.st_classes.specs.declared.refusals.Refusal.TheVariants.{BadCommand, UnknownClass}
use Rattle.st_classes.specs.Classes.{class_named}
use Rattle.st_image.specs.Images.{ImageView, world}
use Rattle.st_queries.specs.Resolving.{and_then}
use Rattle.st_calls.specs.declared.calls.Answer.{Answer}
use Rattle.st_calls.specs.declared.calls.Answer.TheVariants as answer
use Rattle.st_calls.specs.declared.calls.Call.{Call}
use Rattle.st_calls.specs.declared.calls.Call.TheVariants as call
use Rattle.st_script.specs.ArgumentValues.{found_selector}
use Rattle.st_wire.specs.declared.commands.Command.{Command}
use Rattle.st_wire.specs.declared.commands.Command.TheVariants as command
use Rattle.st_wire.specs.declared.replies.Reply.{Reply}
use Rattle.st_wire.specs.declared.replies.Reply.TheVariants as reply

-- the class that a text names
abbrev pub class_in : ImageView → List ℕ → Result ClassId Refusal
class_in i text = ok_or (class_named (world i).edits text) UnknownClass

-- the call of a command, with its names looked up in an image
abbrev pub call_of : ImageView → Command → Result Call Refusal
call_of i (command.Define name parent slots) = and_then (λ c. Ok (call.Define name c slots)) (class_in i parent)
call_of i (command.Method class source) = and_then (λ c. Ok (call.Install c source)) (class_in i class)
call_of i (command.Remove class text) = and_then (λ c. and_then (λ s. Ok (call.Remove c s)) (found_selector i.names text)) (class_in i class)
call_of i (command.Reparent class parent) = and_then (λ c. and_then (λ p. Ok (call.Reparent c p)) (class_in i parent)) (class_in i class)
call_of i (command.Actor class) = and_then (λ c. Ok (call.Create c)) (class_in i class)
call_of i (command.Close a) = Ok (call.Close a)
call_of i command.Checkpoint = Ok call.Checkpoint
call_of i c = Err BadCommand

-- the reply by what a call answered
abbrev pub answer_reply : Result Answer Refusal → Reply
answer_reply (Ok (answer.Version n)) = reply.Version n
answer_reply (Ok (answer.Created a)) = reply.Actor a
answer_reply (Ok (answer.Position n)) = reply.Turn n
answer_reply (Ok answer.Closed) = reply.Closed
answer_reply (Ok (answer.Counted c)) = reply.Counted c.posts c.steps
answer_reply (Ok (answer.Interned s)) = reply.Refused BadCommand
answer_reply (Err e) = reply.Refused e

-- a call is made, and its answer is the reply
abbrev pub RepliesTo : {H N : Type 0} → (Result Answer Refusal → H → N → Type 0) → Reply → H → N → Type 0
RepliesTo {H} {N} Made r k m = (a : Result Answer Refusal) × Made a k m × (r ≡ answer_reply a)

-- a command makes one call of the image that is held
abbrev pub Makes : {H N : Type 0} → (H → ImageView) → (H → N → Call → Result Answer Refusal → H → N → Type 0)
    → H → N → Command → Reply → H → N → Type 0
Makes {H} {N} image Calls h n c r k m = MatchResult (call_of (image h) c)
    (λ made. RepliesTo (Calls h n made) r k m)
    (λ e. (r ≡ reply.Refused e) × (k ≡ h) × (m ≡ n))
