-- The reply to a command, and the image that it leaves.
use Rattle.std.specs.Prelude.{◌≡◌, ℕ, zero, suc, ◌+◌, ◌⊎◌, List, Bool, true, false, if◌then◌else◌, Result, Ok, Err, MatchOption, MatchResult}
use Rattle.std.specs.Str.{bytes_eq}
use Rattle.st_classes.specs.declared.refusals.Refusal.{Refusal}
use Rattle.st_classes.specs.declared.refusals.Refusal.TheVariants.{Expired, NoMemory, UnknownClass}
use Rattle.st_classes.specs.declared.values.ActorId.{ActorId}
use Rattle.st_classes.specs.Classes.{class_named}
use Rattle.st_turn.specs.declared.body.Outcome.{Outcome}
use Rattle.st_turn.specs.declared.body.Outcome.TheVariants as outcome
use Rattle.st_image.specs.Images.{ImageView, world}
use Rattle.st_image.specs.Outcomes.{image_outcome}
use Rattle.st_wire.specs.declared.commands.Command.{Command}
use Rattle.st_wire.specs.declared.commands.Command.TheVariants as command
use Rattle.st_wire.specs.declared.replies.Reply.{Reply}
use Rattle.st_wire.specs.declared.replies.Reply.TheVariants as reply
use Rattle.st_wire.specs.declared.replies.SiteReport.{SiteReport}
use Rattle.st_queries.specs.declared.hosts.Host.{Host}
use Rattle.st_queries.specs.Hosts.{epoch}
use Rattle.st_queries.specs.Replying.{Looks}
use Rattle.st_script.specs.SiteReports.{StatesNamed}
use Rattle.st_script.specs.Runners.{RunnerView, NextAdvances, NoneReady}
use Rattle.st_calls.specs.declared.calls.Answer.{Answer}
use Rattle.st_calls.specs.declared.calls.Call.{Call}
use Rattle.st_calls.specs.Does.{Does}
use Rattle.st_script.specs.ArgumentValues.{is_told_by_text, value_text}
use Rattle.st_script.specs.CallOf.{Makes}
use Rattle.st_file.specs.ImageSnapshots.{snapshot_of}
use Rattle.st_script.specs.Keepers.{SavesSnapshot}
use Rattle.st_script.specs.Posting.{Nothing, PostsNamed}
use Rattle.st_script.specs.Replacing.{Replaces}

-- a call, and then Next with its value on the image, or runner, that it left; if the call is refused, the refusal is
-- the reply
abbrev pub Then : {T S : Type 0} → (Result T Refusal → S → Type 0) → (T → S → Reply → S → Type 0) → Reply → S → Type 0
Then {T} {S} Calls Next r j = (result : Result T Refusal) × (k : S) × Calls result k × MatchResult result
    (λ value. Next value k r j)
    (λ e. (r ≡ reply.Refused e) × (j ≡ k))

-- the reply to a call's result, made from its value
abbrev pub reply_by : {T : Type 0} → (T → Reply) → Result T Refusal → Reply
reply_by told (Ok value) = told value
reply_by told (Err e) = reply.Refused e

-- ---- an outcome

-- the reply to a request for an outcome
abbrev pub outcome_reply : ImageView → Result Outcome Refusal → Reply
outcome_reply i (Ok (outcome.Answer v)) = reply.Answer (value_text i v)
outcome_reply i (Ok (outcome.Fault f)) = reply.Fault f
outcome_reply i (Err e) = reply.Refused e

-- outcomes whose reply copies a text
abbrev pub copies_text : Result Outcome Refusal → Bool
copies_text (Ok (outcome.Answer v)) = is_told_by_text v
copies_text _ = false

-- the reply tells the outcome; memory can run out only if a text is copied
abbrev pub RepliesOutcome : ImageView → Result Outcome Refusal → Reply → Type 0
RepliesOutcome i result r = (r ≡ outcome_reply i result) ⊎ ((copies_text result ≡ true) × (r ≡ reply.Refused NoMemory))

-- the outcome of a turn that is numbered in an epoch; in any other it has expired
abbrev pub waited : ImageView → Host → List ℕ → ActorId → ℕ → Result Outcome Refusal
waited i host text a turn = if bytes_eq text (epoch host) then image_outcome i a turn else Err Expired

-- the reply to one who waits for it; memory can run out
abbrev pub Waits : ImageView → Host → List ℕ → ActorId → ℕ → Reply → Type 0
Waits i host text a turn r = RepliesOutcome i (waited i host text a turn) r ⊎ (r ≡ reply.Refused NoMemory)

-- ---- statistics

-- the reply to a request for the call sites of a class's own method
abbrev pub States : ImageView → List ℕ → List ℕ → Reply → Type 0
States i class text r = MatchOption (class_named (world i).edits class)
    (r ≡ reply.Refused UnknownClass)
    (λ c. (result : Result (List SiteReport) Refusal) × (r ≡ reply_by reply.Sites result) × StatesNamed i text c result)

-- ---- a command that needs the image alone

-- the reply to each command, whoever holds the image; a run needs a worker too, and saving somebody who keeps images: both are refused
-- by BadCommand
abbrev pub Asks : {H N : Type 0} → (H → ImageView) → (H → N → Call → Result Answer Refusal → H → N → Type 0)
    → Host → H → N → Command → Reply → H → N → Type 0
Asks {H} {N} image Calls host h n (command.Post a args text sender seq) r k m = PostsNamed image Calls h n a args text sender seq r k m
Asks {H} {N} image Calls host h n (command.Replace class over source) r k m = Replaces image Calls h n class over source r k m
Asks {H} {N} image Calls host h n (command.Outcome a turn) r k m = RepliesOutcome (image h) (image_outcome (image h) a turn) r × Nothing h n k m
Asks {H} {N} image Calls host h n (command.Wait a text ms turn) r k m = Waits (image h) host text a turn r × Nothing h n k m
Asks {H} {N} image Calls host h n (command.Stats class text) r k m = States (image h) class text r × Nothing h n k m
Asks {H} {N} image Calls host h n (command.Query q) r k m = Looks (image h) host q r × Nothing h n k m
Asks {H} {N} image Calls host h n c r k m = Makes image Calls h n c r k m

-- the same of an image that is held by itself, by some program
pub record AsksImage (i : ImageView) (c : Command) (r : Reply) (j : ImageView) : Type 0 where
  pub host : Host
  pub asks : Asks (λ x. x) (λ x n made a y m. Does x made a y) host i (tt {0}) c r j (tt {0})

-- ---- a run: ready actors take a quantum each, in turn, until no quantum is left or no actor is ready

-- a run, with this number of quanta left, after q quanta and s steps
abbrev pub Runs : ℕ → ℕ → RunnerView → ℕ → ℕ → Reply → RunnerView → Type 0
Runs quantum zero i q s r j = (r ≡ reply.Ran q s) × (j ≡ i)
Runs quantum (suc left) i q s r j = (NoneReady i × (r ≡ reply.Ran q s) × (j ≡ i))
    ⊎ Then (NextAdvances quantum i) (λ n k. Runs quantum left k (q + 1) (s + n)) r j

-- ---- any command

-- a run is served by the worker's steps, and an image that is to be saved by whoever keeps images; any other command needs the image
-- alone, and leaves the worker as it is
abbrev pub Serves : ℕ → RunnerView → Command → Reply → RunnerView → Type 0
Serves quantum i (command.Run quanta) r j = Runs quantum quanta i 0 0 r j
Serves quantum i command.Save r j = SavesSnapshot (snapshot_of i.image) r × (j ≡ i)
Serves quantum i c r j = AsksImage i.image c r j.image × (j.caches ≡ i.caches)
