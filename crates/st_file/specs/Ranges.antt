-- Numbers of the parts of an image that are within the bounds of their Rust types.
use Rattle.std.specs.Prelude.{ℕ, ◌<◌, ◌^◌, All, FitsSigned}
use Rattle.std.specs.Int.{w64}
use Rattle.st_classes.specs.declared.values.Value.{Value}
use Rattle.st_classes.specs.declared.values.Value.TheVariants as value
use Rattle.st_turn.specs.declared.body.Object.{Object}
use Rattle.st_turn.specs.declared.body.Outcome.TheVariants as outcome
use Rattle.st_turn.specs.declared.body.Phase.{Phase}
use Rattle.st_turn.specs.declared.body.Phase.TheVariants.{Fresh, Start, Frames, Done}
use Rattle.st_turn.specs.declared.body.Body.{Body}
use Rattle.st_turn.specs.FrameViews.{FrameView, FramesView}
use Rattle.st_mailbox.specs.declared.messages.Message.{Message}
use Rattle.st_mailbox.specs.declared.messages.Sender.{Sender}
use Rattle.st_mailbox.specs.declared.messages.Sender.TheVariants as sender
use Rattle.st_image.specs.declared.actor_part.ActorPart.{ActorPart}

abbrev pub ValueIsInRange : Value → Type 0
ValueIsInRange (value.Int z) = FitsSigned w64 z
ValueIsInRange (value.Actor a) = a.0 < 2 ^ 32
ValueIsInRange (value.Local n) = n < 2 ^ 32
ValueIsInRange _ = Unit {0}

abbrev pub SenderIsInRange : Sender → Type 0
SenderIsInRange (sender.Client n) = n < 2 ^ 16
SenderIsInRange (sender.Actor a) = a.0 < 2 ^ 32

pub record MessageIsInRange (m : Message) : Type 0 where
  pub args : All ValueIsInRange m.args
  pub sender : SenderIsInRange m.sender
  pub seq : m.seq < 2 ^ 64

abbrev pub ObjectIsInRange : Object → Type 0
ObjectIsInRange o = All ValueIsInRange o.slots

pub record FrameIsInRange (f : FrameView) : Type 0 where
  pub method : f.method.0 < 2 ^ 32
  pub pc : f.pc < 2 ^ 16
  pub receiver : ValueIsInRange f.receiver
  pub temps : All ValueIsInRange f.temps
  pub operands : All ValueIsInRange f.operands

pub record FramesAreInRange (fs : FramesView) : Type 0 where
  pub callers : All FrameIsInRange fs.callers
  pub running : FrameIsInRange fs.running

abbrev pub PhaseIsInRange : Phase → Type 0
PhaseIsInRange Fresh = Unit {0}
PhaseIsInRange (Start s args) = All ValueIsInRange args
PhaseIsInRange (Frames fs) = FramesAreInRange fs
PhaseIsInRange (Done (outcome.Answer v)) = ValueIsInRange v
PhaseIsInRange (Done (outcome.Fault e)) = Unit {0}

pub record BodyIsInRange (b : Body) : Type 0 where
  pub objects : All ObjectIsInRange b.objects
  pub phase : PhaseIsInRange b.phase

pub record ActorIsInRange (a : ActorPart) : Type 0 where
  pub capacity : a.capacity < 2 ^ 32
  pub last : a.last < 2 ^ 64
  pub body : BodyIsInRange a.body
  pub pending : All MessageIsInRange a.pending

pub record ClientIsInRange (c : ℕ × ℕ) : Type 0 where
  pub client : c.0 < 2 ^ 16
  pub last : c.1 < 2 ^ 64
