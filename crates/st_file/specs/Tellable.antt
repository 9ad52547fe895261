-- Texts that a JSON value can hold: they are UTF-8.
use Rattle.std.specs.Prelude.{◌≡◌, ◌≤◌, ℕ, List, true, All}
use Rattle.std.specs.Str.{is_utf8}
use Rattle.st_image.specs.declared.edit_text.EditText.{EditText}
use Rattle.st_image.specs.Counts.{CanBeCounted}
use Rattle.st_image.specs.declared.edit_text.EditText.TheVariants as edit
use Rattle.st_file.specs.declared.texts.ValueText.{ValueText}
use Rattle.st_file.specs.declared.texts.ValueText.TheVariants.{Symbol, Class}
use Rattle.st_file.specs.declared.texts.MessageText.{MessageText}
use Rattle.st_file.specs.declared.texts.ObjectText.{ObjectText}
use Rattle.st_file.specs.declared.texts.FrameText.{FrameText}
use Rattle.st_file.specs.declared.texts.PhaseText.{PhaseText}
use Rattle.st_file.specs.declared.texts.PhaseText.TheVariants as phase
use Rattle.st_file.specs.declared.texts.BodyText.{BodyText}
use Rattle.st_file.specs.declared.texts.ActorText.{ActorText}
use Rattle.st_file.specs.declared.texts.ImageText.{ImageText}

abbrev pub IsText : List ℕ → Type 0
IsText t = is_utf8 t ≡ true

abbrev pub ValueIsText : ValueText → Type 0
ValueIsText (Symbol t) = IsText t
ValueIsText (Class t) = IsText t
ValueIsText _ = Unit {0}

pub record MessageIsText (m : MessageText) : Type 0 where
  pub args : All ValueIsText m.args
  pub selector : IsText m.selector

pub record ObjectIsText (o : ObjectText) : Type 0 where
  pub class : IsText o.class
  pub slots : All ValueIsText o.slots

pub record FrameIsText (f : FrameText) : Type 0 where
  pub operands : All ValueIsText f.operands
  pub receiver : ValueIsText f.receiver
  pub temps : All ValueIsText f.temps

abbrev pub PhaseIsText : PhaseText → Type 0
PhaseIsText phase.Fresh = Unit {0}
PhaseIsText (phase.Start args selector) = All ValueIsText args × IsText selector
PhaseIsText (phase.Frames fs) = All FrameIsText fs
PhaseIsText (phase.Answer v) = ValueIsText v
PhaseIsText (phase.Fault e) = Unit {0}

pub record BodyIsText (b : BodyText) : Type 0 where
  pub objects : All ObjectIsText b.objects
  pub phase : PhaseIsText b.phase

pub record ActorIsText (a : ActorText) : Type 0 where
  pub body : BodyIsText a.body
  pub class : IsText a.class
  pub pending : All MessageIsText a.pending

abbrev pub EditIsText : EditText → Type 0
EditIsText (edit.Define name parent slots) = IsText name × IsText parent × All IsText slots
EditIsText (edit.Install class source) = IsText class × IsText source
EditIsText (edit.Remove class selector) = IsText class × IsText selector
EditIsText (edit.Reparent class parent) = IsText class × IsText parent

-- a client has sent something: its last number is at least 1
abbrev pub HasSent : ℕ × ℕ → Type 0
HasSent client = 1 ≤ client.1

-- all texts of a file are UTF-8, its clients have sent something, and its counts are those of an image
pub record ImageIsText (t : ImageText) : Type 0 where
  pub actors : All ActorIsText t.actors
  pub counts : CanBeCounted t.counts
  pub edits : All EditIsText t.edits
  pub names : All IsText t.names
  pub senders : All HasSent t.senders
