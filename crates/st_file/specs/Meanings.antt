-- What the texts of a file mean, by names and a class table.
use Rattle.std.specs.Prelude.{ℕ, ◌^◌, List, [], ◌∷◌, Option, Some, None, option_map, option_and_then, nat_lt, if◌then◌else◌}
use Rattle.st_classes.specs.declared.values.ClassId.{ClassId}
use Rattle.st_classes.specs.declared.values.MethodId.{MethodId}
use Rattle.st_classes.specs.declared.values.Selector.{Selector}
use Rattle.st_classes.specs.declared.values.Value.{Value}
use Rattle.st_classes.specs.declared.values.Value.TheVariants as value
use Rattle.st_classes.specs.declared.edits.Edit.{Edit}
use Rattle.st_classes.specs.Kernel.{selector}
use Rattle.st_classes.specs.Classes.{class_named}
use Rattle.st_classes.specs.Selectors.{place_of}
use Rattle.st_turn.specs.declared.body.Object.{Object}
use Rattle.st_turn.specs.declared.body.Outcome.TheVariants as outcome
use Rattle.st_turn.specs.declared.body.Phase.{Phase}
use Rattle.st_turn.specs.declared.body.Phase.TheVariants as standing
use Rattle.st_turn.specs.declared.body.Body.{Body}
use Rattle.st_turn.specs.FrameViews.{FrameView, FramesView}
use Rattle.st_mailbox.specs.declared.messages.Message.{Message}
use Rattle.st_image.specs.declared.actor_part.ActorPart.{ActorPart}
use Rattle.st_wire.specs.Fields.{cons_of}
use Rattle.st_file.specs.declared.texts.ValueText.{ValueText}
use Rattle.st_file.specs.declared.texts.ValueText.TheVariants.{Int, Bool as Boolean, Nil, Symbol, Class, Actor, Local}
use Rattle.st_file.specs.declared.texts.MessageText.{MessageText}
use Rattle.st_file.specs.declared.texts.ObjectText.{ObjectText}
use Rattle.st_file.specs.declared.texts.FrameText.{FrameText}
use Rattle.st_file.specs.declared.texts.PhaseText.{PhaseText}
use Rattle.st_file.specs.declared.texts.PhaseText.TheVariants as phase
use Rattle.st_file.specs.declared.texts.BodyText.{BodyText}
use Rattle.st_file.specs.declared.texts.ActorText.{ActorText}

-- ---- lists and numbers

-- what each item means, if all of them mean something
abbrev pub all_of : {S T : Type 0} → (S → Option T) → List S → Option (List T)
all_of f [] = Some []
all_of f (x ∷ xs) = cons_of (f x) (all_of f xs)

-- the number, if it is below the bound
abbrev pub below : ℕ → ℕ → Option ℕ
below bound n = if nat_lt n bound then Some n else None

-- ---- values and messages

-- the selector with this text
abbrev pub selector_of : List (List ℕ) → List ℕ → Option Selector
selector_of names text = option_map selector (place_of names text)

-- symbols and classes are found by their texts
abbrev pub value_meant : List (List ℕ) → List Edit → ValueText → Option Value
value_meant names edits (Int z) = Some (value.Int z)
value_meant names edits (Boolean b) = Some (value.Bool b)
value_meant names edits Nil = Some value.Nil
value_meant names edits (Symbol text) = option_map value.Sym (selector_of names text)
value_meant names edits (Class text) = option_map value.Class (class_named edits text)
value_meant names edits (Actor a) = Some (value.Actor a)
value_meant names edits (Local n) = option_map value.Local (below (2 ^ 32) n)

abbrev pub message_with : MessageText → Option (List Value) → Option Selector → Option Message
message_with m (Some args) (Some s) = Some (record { sender = m.sender; seq = m.seq; selector = s; args = args })
message_with m _ _ = None

abbrev pub message_meant : List (List ℕ) → List Edit → MessageText → Option Message
message_meant names edits m = message_with m (all_of (value_meant names edits) m.args) (selector_of names m.selector)

-- ---- bodies

abbrev pub object_with : Option ClassId → Option (List Value) → Option Object
object_with (Some c) (Some slots) = Some (record { class = c; slots = slots })
object_with _ _ = None

abbrev pub object_meant : List (List ℕ) → List Edit → ObjectText → Option Object
object_meant names edits o = object_with (class_named edits o.class) (all_of (value_meant names edits) o.slots)

-- a method by its place among the edits
abbrev pub method_id : ℕ → MethodId
method_id n = record { 0 = n }

abbrev pub frame_with : Option MethodId → Option ℕ → Option Value → Option (List Value) → Option (List Value)
    → Option FrameView
frame_with (Some method) (Some pc) (Some receiver) (Some temps) (Some operands) =
    Some (record { method = method; pc = pc; receiver = receiver; temps = temps; operands = operands })
frame_with _ _ _ _ _ = None

abbrev pub frame_meant : List (List ℕ) → List Edit → FrameText → Option FrameView
frame_meant names edits f =
    frame_with
    (option_map method_id (below (2 ^ 32) f.method))
    (below (2 ^ 16) f.pc)
    (value_meant names edits f.receiver)
    (all_of (value_meant names edits) f.temps)
    (all_of (value_meant names edits) f.operands)

-- a message that is not dispatched yet
abbrev pub start_with : Option (List Value) → Option Selector → Option Phase
start_with (Some args) (Some s) = Some (standing.Start s args)
start_with _ _ = None

-- the same frames, with f before the callers
abbrev pub with_caller : FrameView → FramesView → FramesView
with_caller f fs = record fs { callers = f ∷ fs.callers }

-- the frames f and gs, of which the last one runs
abbrev pub last_runs : FrameView → List FrameView → FramesView
last_runs f [] = record { callers = []; running = f }
last_runs f (g ∷ gs) = with_caller f (last_runs g gs)

-- the last frame runs, so there has to be one
abbrev pub frames_of : List FrameView → Option FramesView
frames_of [] = None
frames_of (f ∷ fs) = Some (last_runs f fs)

-- a turn that ended with an answer
abbrev pub answered : Value → Phase
answered v = standing.Done (outcome.Answer v)

abbrev pub phase_meant : List (List ℕ) → List Edit → PhaseText → Option Phase
phase_meant names edits phase.Fresh = Some standing.Fresh
phase_meant names edits (phase.Start args s) = start_with (all_of (value_meant names edits) args) (selector_of names s)
phase_meant names edits (phase.Frames fs) =
    option_map standing.Frames (option_and_then frames_of (all_of (frame_meant names edits) fs))
phase_meant names edits (phase.Answer v) = option_map answered (value_meant names edits v)
phase_meant names edits (phase.Fault e) = Some (standing.Done (outcome.Fault e))

abbrev pub body_with : Option (List Object) → Option Phase → Option Body
body_with (Some objects) (Some p) = Some (record { objects = objects; phase = p })
body_with _ _ = None

abbrev pub body_meant : List (List ℕ) → List Edit → BodyText → Option Body
body_meant names edits b = body_with (all_of (object_meant names edits) b.objects) (phase_meant names edits b.phase)

-- ---- actors

abbrev pub actor_with : ActorText → Option ClassId → Option ℕ → Option Body → Option (List Message) → Option ActorPart
actor_with a (Some c) (Some capacity) (Some body) (Some pending) = Some (record {
  class = c;
  capacity = capacity;
  is_open = a.is_open;
  body = body;
  last = a.last;
  pending = pending;
})
actor_with a _ _ _ _ = None

abbrev pub actor_meant : List (List ℕ) → List Edit → ActorText → Option ActorPart
actor_meant names edits a =
    actor_with a
    (class_named edits a.class)
    (below (2 ^ 32) a.capacity)
    (body_meant names edits a.body)
    (all_of (message_meant names edits) a.pending)

-- the actors of a file
abbrev pub actors_meant : List (List ℕ) → List Edit → List ActorText → Option (List ActorPart)
actors_meant names edits actors = all_of (actor_meant names edits) actors
