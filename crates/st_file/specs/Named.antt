-- Parts of an image whose selectors and classes exist, so that each has a text.
-- The numbers of actors and objects are free: a file holds them as they are.
use Rattle.std.specs.Prelude.{◌≡◌, ◌<◌, ℕ, List, length, true, All}
use Rattle.st_classes.specs.declared.values.Selector.{Selector}
use Rattle.st_classes.specs.declared.values.Value.{Value}
use Rattle.st_classes.specs.declared.values.Value.TheVariants.{Sym, Class}
use Rattle.st_classes.specs.declared.edits.Edit.{Edit}
use Rattle.st_classes.specs.Classes.{is_class}
use Rattle.st_turn.specs.declared.body.Object.{Object}
use Rattle.st_turn.specs.declared.body.Outcome.TheVariants as outcome
use Rattle.st_turn.specs.declared.body.Phase.{Phase}
use Rattle.st_turn.specs.declared.body.Phase.TheVariants.{Fresh, Start, Frames, Done}
use Rattle.st_turn.specs.declared.body.Body.{Body}
use Rattle.st_turn.specs.FrameViews.{FrameView, FramesView}
use Rattle.st_mailbox.specs.declared.messages.Message.{Message}
use Rattle.st_image.specs.declared.actor_part.ActorPart.{ActorPart}

-- the selector's number is that of a name
abbrev pub IsNamed : List (List ℕ) → Selector → Type 0
IsNamed names s = s.0 < length names

abbrev pub ValueIsNamed : List (List ℕ) → List Edit → Value → Type 0
ValueIsNamed names edits (Sym s) = IsNamed names s
ValueIsNamed names edits (Class c) = is_class edits c ≡ true
ValueIsNamed names edits _ = Unit {0}

pub record MessageIsNamed (names : List (List ℕ)) (edits : List Edit) (m : Message) : Type 0 where
  pub selector : IsNamed names m.selector
  pub args : All (ValueIsNamed names edits) m.args

pub record ObjectIsNamed (names : List (List ℕ)) (edits : List Edit) (o : Object) : Type 0 where
  pub class : is_class edits o.class ≡ true
  pub slots : All (ValueIsNamed names edits) o.slots

pub record FrameIsNamed (names : List (List ℕ)) (edits : List Edit) (f : FrameView) : Type 0 where
  pub receiver : ValueIsNamed names edits f.receiver
  pub temps : All (ValueIsNamed names edits) f.temps
  pub operands : All (ValueIsNamed names edits) f.operands

pub record FramesAreNamed (names : List (List ℕ)) (edits : List Edit) (fs : FramesView) : Type 0 where
  pub callers : All (FrameIsNamed names edits) fs.callers
  pub running : FrameIsNamed names edits fs.running

abbrev pub PhaseIsNamed : List (List ℕ) → List Edit → Phase → Type 0
PhaseIsNamed names edits Fresh = Unit {0}
PhaseIsNamed names edits (Start s args) = IsNamed names s × All (ValueIsNamed names edits) args
PhaseIsNamed names edits (Frames fs) = FramesAreNamed names edits fs
PhaseIsNamed names edits (Done (outcome.Answer v)) = ValueIsNamed names edits v
PhaseIsNamed names edits (Done (outcome.Fault e)) = Unit {0}

pub record BodyIsNamed (names : List (List ℕ)) (edits : List Edit) (b : Body) : Type 0 where
  pub objects : All (ObjectIsNamed names edits) b.objects
  pub phase : PhaseIsNamed names edits b.phase

pub record ActorIsNamed (names : List (List ℕ)) (edits : List Edit) (a : ActorPart) : Type 0 where
  pub class : is_class edits a.class ≡ true
  pub body : BodyIsNamed names edits a.body
  pub pending : All (MessageIsNamed names edits) a.pending
