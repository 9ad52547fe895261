-- What each item does to a world, and the replay of a history.
use Rattle.std.specs.Prelude.{ℕ, zero, suc, ◌+◌, ◌-◌, ◌^◌, ◌&&◌, List, [], ◌∷◌, ◌++◌, length, Bool, true, false, not, Option, Some, None, Result, Ok, Err, is_none, nat_le, nat_lt, slice_get, option_and_then, option_map, option_to_list, if◌then◌else◌}
use Rattle.std.specs.List.{list_any}
use Rattle.st_classes.specs.declared.values.ClassId.{ClassId}
use Rattle.st_classes.specs.declared.values.ActorId.{ActorId}
use Rattle.st_classes.specs.declared.values.Selector.{Selector}
use Rattle.st_classes.specs.declared.values.Value.{Value}
use Rattle.st_classes.specs.declared.values.Value.TheVariants.{Bool as Boolean, Sym, Actor as Reference, Local}
use Rattle.st_classes.specs.declared.faults.Fault.{Fault}
use Rattle.st_classes.specs.declared.faults.Fault.TheVariants.{BadArgument, LocalArgument, TooManyActors}
use Rattle.st_classes.specs.declared.edits.Edit.{Edit}
use Rattle.st_classes.specs.Refusals.{first_of}
use Rattle.st_classes.specs.EditRules.{edit_rules, is_value_class}
use Rattle.st_classes.specs.MethodSuits.{arity_at, edit_suits, is_number}
use Rattle.st_turn.specs.declared.acts.Act.{Act}
use Rattle.st_turn.specs.declared.acts.Act.TheVariants.{Post, Close, Create}
use Rattle.st_turn.specs.declared.body.Body.{Body}
use Rattle.st_turn.specs.declared.body.Outcome.{Outcome}
use Rattle.st_turn.specs.declared.body.Phase.{Phase}
use Rattle.st_turn.specs.declared.body.Phase.TheVariants.{Fresh, Start, Frames, Done as Ended}
use Rattle.st_turn.specs.Objects.{new_object}
use Rattle.st_turn.specs.Steps.{Asked, Step, next as leads, ended, outer, asked, reply_body, step}
use Rattle.st_turn.specs.BodyFits.{has_instances}
use Rattle.st_turn.specs.Idle.{is_idle}
use Rattle.st_mailbox.specs.declared.messages.Message.{Message}
use Rattle.st_mailbox.specs.declared.messages.Sender.{Sender}
use Rattle.st_mailbox.specs.declared.messages.Sender.TheVariants.{Client, Actor}
use Rattle.st_image.specs.declared.history.Item.{Item}
use Rattle.st_image.specs.declared.history.Item.TheVariants.{Edited, Created, Posted, Closed, Begun, Ran}
use Rattle.st_image.specs.Worlds.{Constants, World, WorldActor, change, pending, put_number}
use Rattle.st_image.specs.PostRules.{post_rules}

-- a world, if a condition holds
abbrev pub only_if : Bool → World → Option World
only_if b w = if b then Some w else None

-- ---- an edit is appended to the class table

-- the edit is accepted at the table, and its method suits
abbrev pub after_edit : Constants → World → Edit → Option World
after_edit c w e = only_if
    (is_none (first_of (edit_rules w.edits e)) && edit_suits c.names w.edits e)
    (record w { edits = w.edits ++ e ∷ [] })

-- ---- a new last actor, of Object or a user's class

-- a new actor is open, and has accepted, begun and answered nothing; its only object is itself, with its instance variables nil
abbrev pub new_world_actor : List Edit → ClassId → ℕ → WorldActor
new_world_actor edits class capacity = record {
  class = class;
  capacity = capacity;
  is_open = true;
  body = record { objects = new_object edits class ∷ []; phase = Fresh };
  last = 0;
  accepted = [];
  begun = [];
  results = [];
}

-- the world with a new actor
abbrev pub with_new : Constants → ClassId → World → World
with_new c class w = record w { actors = w.actors ++ new_world_actor w.edits class c.capacity ∷ [] }

-- only Object and a user's classes have actors
abbrev pub after_create : Constants → World → ClassId → Option World
after_create c w class = only_if (has_instances w.edits class) (with_new c class w)

-- ---- a message is appended to what its actor accepted

-- the sender's last number is the message's
abbrev pub with_last : Sender → ℕ → World → World
with_last (Client s) n w = record w { clients = put_number s n w.clients }
with_last (Actor a) n w = change (λ b. record b { last = n }) a w

-- the message is appended
abbrev pub with_accepted : Message → WorldActor → WorldActor
with_accepted m b = record b { accepted = b.accepted ++ m ∷ [] }

-- no refusal of the post applies
abbrev pub after_post : Constants → World → ActorId → Message → Option World
after_post c w a m = only_if
    (is_none (first_of (post_rules c.names w (slice_get w.actors a.0) m)))
    (with_last m.sender m.seq (change (with_accepted m) a w))

-- ---- the mailbox closes

-- an actor exists, and its mailbox is open
abbrev pub is_open_at : Option WorldActor → Bool
is_open_at None = false
is_open_at (Some b) = b.is_open

-- the mailbox is open
abbrev pub after_close : World → ActorId → Option World
after_close w a = only_if (is_open_at (slice_get w.actors a.0)) (change (λ b. record b { is_open = false }) a w)

-- ---- the first pending message of an idle actor begins

-- the message is appended to what is begun, and the body starts it
abbrev pub with_begun : Message → WorldActor → WorldActor
with_begun m b = record b { begun = b.begun ++ m ∷ []; body = record b.body { phase = Start m.selector m.args } }

-- the first pending message of an actor, if it exists and is idle
abbrev pub next_message : Option WorldActor → Option Message
next_message None = None
next_message (Some b) = if is_idle b.body.phase then slice_get (pending b) 0 else None

-- there is such a message
abbrev pub after_begin : World → ActorId → Option World
after_begin w a = option_map (λ m. change (with_begun m) a w) (next_message (slice_get w.actors a.0))

-- ---- an act of an actor on the world, and its answer

-- the world after an act, and its answer or its fault
pub record ActResult : Type 0 where
  pub world : World
  pub answer : Result Value Fault

-- an act that ends the turn with a fault and does nothing else
abbrev pub failed_act : World → Fault → ActResult
failed_act w e = record { world = w; answer = Err e }

-- an act that answers whether it could be done
abbrev pub attempted_act : World → Option World → ActResult
attempted_act w None = record { world = w; answer = Ok (Boolean false) }
attempted_act w (Some v) = record { world = v; answer = Ok (Boolean true) }

-- a value is an object of an actor's own
abbrev pub is_local : Value → Bool
is_local (Local n) = true
is_local _ = false

-- an actor's message has the number after the actor's last one; there is none after 2^64 - 1
abbrev pub after_post_by : Constants → ActorId → Selector → List Value → ActorId → World → Option WorldActor
    → Option World
after_post_by c to s args a w None = None
after_post_by c to s args a w (Some b) =
    if nat_lt b.last (2 ^ 64 - 1)
    then after_post c w to (record { sender = Actor a; seq = b.last + 1; selector = s; args = args })
    else None

-- the selector takes as many arguments, and none of them is a local
abbrev pub post_result : Constants → ActorId → Selector → List Value → ActorId → World → ActResult
post_result c to s args a w =
    if not (is_number (arity_at c.names s) (length args)) then failed_act w BadArgument
    else (if list_any is_local args then failed_act w LocalArgument
    else attempted_act w (after_post_by c to s args a w (slice_get w.actors a.0)))

-- a new actor of Object or of a user's class, if there are fewer than 65,536 actors
abbrev pub create_result : Constants → ClassId → World → ActResult
create_result c class w =
    if is_value_class class then failed_act w BadArgument
    else (if nat_le 65536 (length w.actors) then failed_act w TooManyActors
    else record { world = with_new c class w; answer = Ok (Reference (record { 0 = length w.actors })) })

-- by the act; the first argument of a post is the symbol of a selector
abbrev pub act_result : Constants → ActorId → World → Act → ActResult
act_result c a w (Post to (Sym s ∷ args)) = post_result c to s args a w
act_result c a w (Post to _) = failed_act w BadArgument
act_result c a w (Close to) = attempted_act w (after_close w to)
act_result c a w (Create class) = create_result c class w

-- ---- an actor takes steps; a turn that ends adds its result

-- a turn that is done adds how it ended
abbrev pub with_result : Phase → List Outcome → List Outcome
with_result Fresh results = results
with_result (Start s args) results = results
with_result (Frames fs) results = results
with_result (Ended outcome) results = results ++ outcome ∷ []

-- the actor with the body that a step led to
abbrev pub with_body : Body → WorldActor → WorldActor
with_body body b = record b { body = body; results = with_result body.phase b.results }

-- an act is done on the whole world, and its answer given to the actor
abbrev pub after_act : ActorId → Act → ActResult → World
after_act a act d = change (λ b. with_body (reply_body act d.answer b.body) b) a d.world

-- the step of an actor's body, as one of the world
abbrev pub after_step_of : Constants → ActorId → World → Step → Option World
after_step_of c a w (leads body) = Some (change (with_body body) a w)
after_step_of c a w ended = None
after_step_of c a w (outer act) = Some (after_act a act (act_result c a w act))

-- one step of an actor that exists
abbrev pub after_step : Constants → ActorId → World → Option World
after_step c a w = option_and_then (λ b. after_step_of c a w (step w.edits a b.body)) (slice_get w.actors a.0)

-- a world reached in the course of an actor's steps, and what they asked the class table for, in order
pub record Trail : Type 0 where
  pub world : World
  pub asked : List Asked

-- what the next step of an actor asks for
abbrev pub asked_at : List Edit → Option WorldActor → Option Asked
asked_at edits None = None
asked_at edits (Some b) = asked edits b.body

-- one more step
abbrev pub trail_step : Constants → ActorId → Trail → Option Trail
trail_step c a t = option_map
    (λ w. record {
      world = w;
      asked = t.asked ++ option_to_list (asked_at t.world.edits (slice_get t.world.actors a.0));
    })
    (after_step c a t.world)

-- this many steps, one after the other
abbrev pub trail_after : Constants → ActorId → ℕ → Trail → Option Trail
trail_after c a zero t = Some t
trail_after c a (suc n) t = option_and_then (trail_after c a n) (trail_step c a t)

-- the actor takes one step or more
abbrev pub after_run : Constants → World → ActorId → ℕ → Option World
after_run c w a n =
    if nat_lt 0 n
    then option_map (λ t. t.world) (trail_after c a n (record { world = w; asked = [] }))
    else None

-- ---- the world after an item, if the item is allowed

-- by the kind of the item
abbrev pub next : Constants → World → Item → Option World
next c w (Edited e) = after_edit c w e
next c w (Created class) = after_create c w class
next c w (Posted a m) = after_post c w a m
next c w (Closed a) = after_close w a
next c w (Begun a) = after_begin w a
next c w (Ran a n) = after_run c w a n

-- the world after the items of a history, one after the other
abbrev pub replay : Constants → World → List Item → Option World
replay c w [] = Some w
replay c w (i ∷ is) = option_and_then (λ v. replay c v is) (next c w i)
