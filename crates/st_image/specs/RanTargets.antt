-- What each step in a history has run: if it sent a message, the target that the walk finds at the class table of its place.
use Rattle.std.specs.Prelude.{◌≡◌, ◌<◌, ℕ, List, [], ◌∷◌, ◌++◌, Option, Some, None, MatchOption, slice_get}
use Rattle.std.specs.Option.{option_map}
use Rattle.st_classes.specs.declared.values.ActorId.{ActorId}
use Rattle.st_classes.specs.declared.values.Value.{Value}
use Rattle.st_classes.specs.declared.values.Value.TheVariants.{Actor, Class}
use Rattle.st_classes.specs.declared.edits.Edit.{Edit}
use Rattle.st_classes.specs.declared.kernel.Kernel.{Kernel}
use Rattle.st_classes.specs.declared.kernel.Target.{Target}
use Rattle.st_classes.specs.declared.kernel.Target.TheVariants.{Primitive}
use Rattle.st_classes.specs.LookupLaws.{IsTarget}
use Rattle.st_turn.specs.declared.acts.Act.{Act}
use Rattle.st_turn.specs.declared.body.Body.{Body}
use Rattle.st_turn.specs.Steps.{actor_act, arrival, asked, class_act}
use Rattle.st_image.specs.declared.history.Item.{Item}
use Rattle.st_image.specs.declared.history.Item.TheVariants.{Edited, Created, Posted, Closed, Begun, Ran}
use Rattle.st_image.specs.Worlds.{Constants, World, WorldActor, change}
use Rattle.st_image.specs.Replay.{act_result, after_act, after_step, replay, trail_after, with_body}
use Rattle.st_image.specs.Images.{ImageView, constants}
use Rattle.st_image.specs.SentMessages.{Sending, act_asked, classes_along, message_sent, receiver_class, sent_key}

-- the edits among some items
abbrev pub edits_among : List Item → List Edit
edits_among [] = []
edits_among (Edited e ∷ is) = e ∷ edits_among is
edits_among (Created c ∷ is) = edits_among is
edits_among (Posted a m ∷ is) = edits_among is
edits_among (Closed a ∷ is) = edits_among is
edits_among (Begun a ∷ is) = edits_among is
edits_among (Ran a n ∷ is) = edits_among is

-- a step of an actor leads from the world w to the world v: the items before it lead to a world, and the steps before it in its own item
-- lead from there to w
pub record IsStep (i : ImageView) (before : List Item) (a : ActorId) (place : ℕ) (w v : World) : Type 0 where
  pub start : World
  pub begins : replay (constants i) i.base before ≡ Some start
  pub comes : option_map (λ t. t.world) (trail_after (constants i) a place (record { world = start; asked = [] })) ≡ Some w
  pub step : after_step (constants i) a w ≡ Some v

-- a target is what a message runs at a class table, by the four cases: a user's method that is current in the table, one of the
-- kernel's, the user's for `doesNotUnderstand:`, or nothing
abbrev pub IsFound : List Edit → Body → Sending → Target → Type 0
IsFound edits b x t = IsTarget edits (receiver_class b x) (classes_along edits (receiver_class b x) x.holder) x.selector t

-- what was found for a message ran: after the step the actor's body is the one to which the arrival of the target leads
pub record RunsTarget (a : ActorId) (b : Body) (x : Sending) (w v : World) : Type 0 where
  pub target : Target
  pub found : IsFound w.edits b x target
  pub ran : v ≡ change (with_body (x.arrives (arrival w.edits b.objects x.selector x.receiver x.args target))) a w

-- what a method of the kernel, sent to a receiver with these arguments, asks of the image, if anything
abbrev pub asks_of : Value → List Value → Kernel → Option Act
asks_of (Actor a) args kernel = actor_act a args kernel
asks_of (Class c) [] kernel = class_act c kernel
asks_of _ args kernel = None

-- a method of the kernel was found that asks for an act, and the act was done on the whole world
pub record RunsAct (c : Constants) (a : ActorId) (b : Body) (x : Sending) (act : Act) (w v : World) : Type 0 where
  pub kernel : Kernel
  pub found : IsFound w.edits b x (Primitive kernel)
  pub asks : asks_of x.receiver x.args kernel ≡ Some act
  pub ran : v ≡ after_act a act (act_result c a w act)

-- by whether the message asks for an act
abbrev pub RunsMessage : Constants → ActorId → Body → World → World → Sending → Type 0
RunsMessage c a b w v x =
    MatchOption (act_asked x.holder x.receiver x.selector x.args) (RunsTarget a b x w v) (λ act. RunsAct c a b x act w v)

-- A step: its class table is that of the base with the edits before it in the history. It looks something up exactly if it sends a
-- message, by the class of the receiver and the selector; and then it has run what is found.
pub record HasRun (i : ImageView) (before : List Item) (a : ActorId) (w v : World) : Type 0 where
  pub actor : WorldActor
  pub there : slice_get w.actors a.0 ≡ Some actor
  pub table : w.edits ≡ i.base.edits ++ edits_among before
  pub keys : option_map (λ q. q.key) (asked w.edits actor.body) ≡ option_map (sent_key actor.body) (message_sent w.edits actor.body)
  pub runs : (x : Sending) → message_sent w.edits actor.body ≡ Some x → RunsMessage (constants i) a actor.body w v x

-- each step that an actor took in the history has run what the walk finds at its place
abbrev pub EachStepRan : ImageView → Type 0
EachStepRan i = (before later : List Item) (a : ActorId) (steps place : ℕ)
    → i.history ≡ before ++ Ran a steps ∷ later
    → place < steps
    → (w : World) × (v : World) × IsStep i before a place w v × HasRun i before a w v
