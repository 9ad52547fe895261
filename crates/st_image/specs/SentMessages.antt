-- The message that a step of an actor sends, if it sends one.
-- The dispatch of a turn sends the turn's message to the actor itself; a send and a super send send that of their instruction.
use Rattle.std.specs.Prelude.{ℕ, List, Bool, true, false, Option, Some, None, slice_get, option_and_then}
use Rattle.st_classes.specs.declared.values.ClassId.{ClassId}
use Rattle.st_classes.specs.declared.values.Selector.{Selector}
use Rattle.st_classes.specs.declared.values.Value.{Value}
use Rattle.st_classes.specs.declared.values.Value.TheVariants.{Local}
use Rattle.st_classes.specs.declared.keys.Key.{Key}
use Rattle.st_classes.specs.declared.instructions.Instruction.{Instruction}
use Rattle.st_classes.specs.declared.instructions.Instruction.TheVariants.{Send, SuperSend}
use Rattle.st_classes.specs.declared.methods.MethodParts.{MethodParts}
use Rattle.st_classes.specs.declared.edits.Edit.{Edit}
use Rattle.st_classes.specs.Classes.{chain, parent}
use Rattle.st_classes.specs.LookupLaws.{chain_from}
use Rattle.st_classes.specs.EditLists.{method_at}
use Rattle.st_turn.specs.declared.acts.Act.{Act}
use Rattle.st_turn.specs.declared.body.Object.{Object}
use Rattle.st_turn.specs.declared.body.Phase.{Phase}
use Rattle.st_turn.specs.declared.body.Phase.TheVariants.{Start, Frames}
use Rattle.st_turn.specs.declared.body.Body.{Body}
use Rattle.st_turn.specs.FrameViews.{FramesView}
use Rattle.st_turn.specs.Objects.{class_in}
use Rattle.st_turn.specs.Steps.{Arrival, act_of, arguments, call_body, first_body, holder_of, receiver_of}

-- a message: the holder of the running method, if it is a super send; its receiver, its selector and its arguments; and the body to
-- which each way of arriving leads
pub record Sending : Type 0 where
  pub holder : Option ClassId
  pub receiver : Value
  pub selector : Selector
  pub args : List Value
  pub arrives : Arrival → Body

-- the message of a turn goes to the actor itself, and has no caller
abbrev pub turn_message : List Object → Selector → List Value → Sending
turn_message objects s args =
    record { holder = None; receiver = Local 0; selector = s; args = args; arrives = first_body objects }

-- a message of the running frame, which is its caller
abbrev pub frame_message : MethodParts → List Object → FramesView → Bool → Selector → ℕ → Sending
frame_message m objects fs by_super s n = record {
  holder = holder_of by_super m;
  receiver = receiver_of by_super n fs.running;
  selector = s;
  args = arguments n fs.running.operands;
  arrives = λ r. call_body r n objects fs;
}

-- by the next instruction
abbrev pub instruction_message : MethodParts → List Object → FramesView → Option Instruction → Option Sending
instruction_message m objects fs (Some (Send s n)) = Some (frame_message m objects fs false s n)
instruction_message m objects fs (Some (SuperSend s n)) = Some (frame_message m objects fs true s n)
instruction_message m objects fs _ = None

-- by the phase
abbrev pub message_in : List Edit → List Object → Phase → Option Sending
message_in edits objects (Start s args) = Some (turn_message objects s args)
message_in edits objects (Frames fs) =
    option_and_then
    (λ m. instruction_message m objects fs (slice_get m.code fs.running.pc))
    (method_at edits fs.running.method)
message_in edits objects _ = None

-- the message that the next step of a body sends
abbrev pub message_sent : List Edit → Body → Option Sending
message_sent edits b = message_in edits b.objects b.phase

-- the class of its receiver
abbrev pub receiver_class : Body → Sending → ClassId
receiver_class b x = class_in b.objects x.receiver

-- its key for the lookup: the class of the receiver, the selector, and for a super send the holder
abbrev pub sent_key : Body → Sending → Key
sent_key b x = record { holder = x.holder; class = receiver_class b x; selector = x.selector }

-- the classes along which a method is looked for: the chain of the receiver's class, and for a super send that of the holder's
-- superclass
abbrev pub classes_along : List Edit → ClassId → Option ClassId → List ClassId
classes_along edits c None = chain edits c
classes_along edits c (Some holder) = chain_from edits (parent edits holder)

-- what an ordinary send asks of the image, if anything; a super send asks nothing
abbrev pub act_asked : Option ClassId → Value → Selector → List Value → Option Act
act_asked None receiver s args = act_of receiver s args
act_asked (Some holder) receiver s args = None
