-- What is done for a command in a hold of the lock is a list of events.
use Rattle.std.proofs.Common.{◌≡◌, ℕ, Bool, true, false, List, [], ◌∷◌, Result, Ok, Err, inl, inr, subst}
use Rattle.std.specs.Prelude.{◌==◌, MatchBool, MatchResult}
use Rattle.std.specs.declared.alloc.AllocError.{AllocError}
use Rattle.st_classes.specs.declared.refusals.Refusal.{Refusal}
use Rattle.st_classes.specs.declared.refusals.Refusal.TheVariants.{NoMemory, Stale}
use Rattle.st_classes.specs.declared.values.ActorId.{ActorId}
use Rattle.st_classes.specs.declared.values.ClassId.{ClassId}
use Rattle.st_classes.specs.declared.values.Selector.{Selector}
use Rattle.st_classes.specs.declared.values.Value.{Value}
use Rattle.st_image.specs.Images.{ImageView}
use Rattle.st_calls.specs.declared.calls.Answer.TheVariants as answer
use Rattle.st_calls.specs.declared.calls.Call.{Call}
use Rattle.st_calls.specs.declared.calls.Call.TheVariants as call
use Rattle.st_calls.specs.Does.{told}
use Rattle.st_pool.specs.Calling.{PoolCalls}
use Rattle.st_pool.specs.Done.{Done, PoolView}
use Rattle.st_pool.specs.Holds.{IsHold, of_caller}
use Rattle.st_pool.proofs.Calling.{calls_hold}
use Rattle.st_pool.proofs.Holding.{hold_none, hold_then}
use Rattle.st_queries.specs.declared.hosts.Host.{Host}
use Rattle.st_queries.specs.Snapshots.{Snapshot, snapshot}
use Rattle.st_wire.specs.declared.queries.Query.{Query}
use Rattle.st_wire.specs.declared.commands.Argument.{Argument}
use Rattle.st_wire.specs.declared.commands.Argument.TheVariants as argument
use Rattle.st_wire.specs.declared.commands.Command.{Command}
use Rattle.st_wire.specs.declared.commands.Command.TheVariants as command
use Rattle.st_wire.specs.declared.replies.Reply.{Reply}
use Rattle.st_wire.specs.declared.replies.Reply.TheVariants as reply
use Rattle.st_script.specs.ArgumentValues.{with_first}
use Rattle.st_script.specs.CallOf.{Makes, RepliesTo, call_of, class_in}
use Rattle.st_queries.specs.Replying.{TellsOf, TellsSeen}
use Rattle.st_script.specs.CommandReplies.{Asks}
use Rattle.st_server.specs.PoolReplies.{AsksInHold, SeesInHold}
use Rattle.st_script.specs.Replacing.{ReplacesIn, version_for}
use Rattle.st_script.specs.Posting.{AllResolve, Nothing, PostsArguments, PostsNamed, Resolves}

abbrev image_in : PoolView → ImageView
image_in o = o.image

replies_hold : (o p : PoolView) (d e : Done) (c : Call) (r : Reply) → RepliesTo (PoolCalls o d c) r p e → IsHold of_caller o p
replies_hold o p d e c r h = calls_hold o p d e c h.0 h.1

resolves_hold : (o p : PoolView) (d e : Done) (a : Argument) (r : Result Value Refusal) → Resolves image_in PoolCalls o d a r p e → IsHold of_caller o p
resolves_hold o p d e (argument.Int z) r h = hold_none of_caller o p h.1.0
resolves_hold o p d e (argument.Bool b) r h = hold_none of_caller o p h.1.0
resolves_hold o p d e argument.Nil r h = hold_none of_caller o p h.1.0
resolves_hold o p d e (argument.Symbol text) r h = calls_hold o p d e (call.Intern text) (told answer.Interned h.0) h.1
resolves_hold o p d e (argument.Class text) r h = hold_none of_caller o p h.1.0
resolves_hold o p d e (argument.Actor a) r h = hold_none of_caller o p h.1.0

-- the arguments of a post
all_hold : (o p : PoolView) (d e : Done) (args : List Argument) (r : Result (List Value) Refusal) → AllResolve image_in PoolCalls o d args r p e → IsHold of_caller o p
all_hold o p d e [] r h = hold_none of_caller o p h.1.0
all_hold o p d e (a ∷ args) r (first, m, n, one, more) =
    let rest : IsHold of_caller m p = elim first as (λ x. MatchResult x (λ v. (rest : Result (List Value) Refusal) × AllResolve image_in PoolCalls m n args rest p e × (r ≡ with_first v rest)) (λ f. (r ≡ Err f) × Nothing m n p e) → IsHold of_caller m p) [
      | Ok v ↦ λ h. all_hold m p n e args h.0 h.1
      | Err f ↦ λ h. hold_none of_caller m p h.1.0
    ] more in
    hold_then of_caller o m p (resolves_hold o m d n a first one) rest

posted_hold : (o p : PoolView) (d e : Done) (a : ActorId) (s : Selector) (sender seq : ℕ) (vs : Result (List Value) Refusal) (r : Reply) → MatchResult vs (λ values. RepliesTo (PoolCalls o d (call.Post sender seq a s values)) r p e) (λ f. (r ≡ reply.Refused f) × Nothing o d p e) → IsHold of_caller o p
posted_hold o p d e a s sender seq (Ok values) r h = replies_hold o p d e (call.Post sender seq a s values) r h
posted_hold o p d e a s sender seq (Err f) r h = hold_none of_caller o p h.1.0

arguments_hold : (o p : PoolView) (d e : Done) (a : ActorId) (args : List Argument) (s : Selector) (sender seq : ℕ) (r : Reply) → PostsArguments image_in PoolCalls o d a args s sender seq r p e → IsHold of_caller o p
arguments_hold o p d e a args s sender seq r (inl none) = hold_none of_caller o p none.1.0
arguments_hold o p d e a args s sender seq r (inr (vs, m, n, all, more)) = hold_then of_caller o m p (all_hold o m d n args vs all) (posted_hold m p n e a s sender seq vs r more)

named_hold : (o p : PoolView) (d e : Done) (a : ActorId) (args : List Argument) (sender seq : ℕ) (s : Result Selector Refusal) (r : Reply) → MatchResult s (λ found. PostsArguments image_in PoolCalls o d a args found sender seq r p e) (λ f. (r ≡ reply.Refused f) × Nothing o d p e) → IsHold of_caller o p
named_hold o p d e a args sender seq (Ok s) r h = arguments_hold o p d e a args s sender seq r h
named_hold o p d e a args sender seq (Err f) r h = hold_none of_caller o p h.1.0

posts_hold : (o p : PoolView) (d e : Done) (a : ActorId) (args : List Argument) (text : List ℕ) (sender seq : ℕ) (r : Reply) → PostsNamed image_in PoolCalls o d a args text sender seq r p e → IsHold of_caller o p
posts_hold o p d e a args text sender seq r (s, m, n, interned, more) = hold_then of_caller o m p (calls_hold o m d n (call.Intern text) (told answer.Interned s) interned) (named_hold m p n e a args sender seq s r more)

made_hold : (o p : PoolView) (d e : Done) (c : Result Call Refusal) (r : Reply) → MatchResult c (λ made. RepliesTo (PoolCalls o d made) r p e) (λ f. (r ≡ reply.Refused f) × (p ≡ o) × (e ≡ d)) → IsHold of_caller o p
made_hold o p d e (Ok c) r h = replies_hold o p d e c r h
made_hold o p d e (Err f) r h = hold_none of_caller o p h.1

makes_hold : (o p : PoolView) (d e : Done) (c : Command) (r : Reply) → Makes image_in PoolCalls o d c r p e → IsHold of_caller o p
makes_hold o p d e c r h = made_hold o p d e (call_of o.image c) r h

read_hold : (o p : PoolView) (d e : Done) (c : ClassId) (source : List ℕ) (b : Bool) (r s : Reply) → MatchBool b (RepliesTo (PoolCalls o d (call.Install c source)) r p e) ((r ≡ s) × Nothing o d p e) → IsHold of_caller o p
read_hold o p d e c source true r s h = replies_hold o p d e (call.Install c source) r h
read_hold o p d e c source false r s h = hold_none of_caller o p h.1.0

replaces_in_hold : (o p : PoolView) (d e : Done) (c : ClassId) (over : ℕ) (source : List ℕ) (r : Reply) → ReplacesIn image_in PoolCalls o d c over source r p e → IsHold of_caller o p
replaces_in_hold o p d e c over source r (inl h) = read_hold o p d e c source (version_for o.image c h.0 == over) r (reply.Refused (Stale (version_for o.image c h.0))) h.2
replaces_in_hold o p d e c over source r (inr h) = hold_none of_caller o p h.3.0

replaced_hold : (o p : PoolView) (d e : Done) (c : Result ClassId Refusal) (over : ℕ) (source : List ℕ) (r : Reply) → MatchResult c (λ c. ReplacesIn image_in PoolCalls o d c over source r p e) (λ f. (r ≡ reply.Refused f) × Nothing o d p e) → IsHold of_caller o p
replaced_hold o p d e (Ok c) over source r h = replaces_in_hold o p d e c over source r h
replaced_hold o p d e (Err f) over source r h = hold_none of_caller o p h.1.0

pub asks_hold : (host : Host) (o p : PoolView) (d e : Done) (c : Command) (r : Reply) → Asks image_in PoolCalls host o d c r p e → IsHold of_caller o p
asks_hold host o p d e (command.Post a args text sender seq) r h = posts_hold o p d e a args text sender seq r h
asks_hold host o p d e (command.Replace class over source) r h = replaced_hold o p d e (class_in o.image class) over source r h
asks_hold host o p d e (command.Outcome a turn) r h = hold_none of_caller o p h.1.0
asks_hold host o p d e (command.Wait a text ms turn) r h = hold_none of_caller o p h.1.0
asks_hold host o p d e (command.Stats class text) r h = hold_none of_caller o p h.1.0
asks_hold host o p d e (command.Query q) r h = hold_none of_caller o p h.1.0
asks_hold host o p d e c r h = makes_hold o p d e c r h

-- a query is answered from what was seen of an image in a hold that changed nothing
told_asks : (host : Host) (o p : PoolView) (d e : Done) (q : Query) (s : Snapshot) (r : Reply) → s ≡ snapshot o.image q → p ≡ o → e ≡ d → TellsOf s host q r → AsksInHold o d (command.Query q) r p e
told_asks host o p d e q s r same stays mine told = record {
  host = host;
  asks = (inl (subst (λ t. TellsOf t host q r) same told), (stays, mine));
  hold = hold_none of_caller o p stays;
}

unseen_asks : (host : Host) (o p : PoolView) (d e : Done) (q : Query) (r : Reply) → p ≡ o → e ≡ d → r ≡ reply.Refused NoMemory → AsksInHold o d (command.Query q) r p e
unseen_asks host o p d e q r stays mine none = record {
  host = host;
  asks = (inr none, (stays, mine));
  hold = hold_none of_caller o p stays;
}

pub seen_asks : (host : Host) (o p : PoolView) (d e : Done) (q : Query) (s : Result Snapshot AllocError) (r : Reply) → SeesInHold o d q s p e → TellsSeen s host q r → AsksInHold o d (command.Query q) r p e
seen_asks host o p d e q (Ok s) r h told = told_asks host o p d e q s r h.0 h.1 h.2 told
seen_asks host o p d e q (Err f) r h none = unseen_asks host o p d e q r h.1 h.2 none
