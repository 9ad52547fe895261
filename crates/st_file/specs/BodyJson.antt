-- Bodies as JSON values.
use Rattle.std.specs.Prelude.{ℕ, ◌++◌, List, [], ◌∷◌, codes}
use Rattle.serde_json.specs.Data.{Data, string, object, member, no_members}
use Rattle.st_classes.specs.declared.values.Selector.{Selector}
use Rattle.st_classes.specs.declared.values.Value.{Value}
use Rattle.st_classes.specs.declared.edits.Edit.{Edit}
use Rattle.st_turn.specs.declared.body.Body.{Body}
use Rattle.st_turn.specs.declared.body.Object.{Object}
use Rattle.st_turn.specs.declared.body.Outcome.TheVariants.{Answer, Fault}
use Rattle.st_turn.specs.declared.body.Phase.{Phase}
use Rattle.st_turn.specs.declared.body.Phase.TheVariants.{Fresh, Start, Frames, Done}
use Rattle.st_turn.specs.FrameViews.{FrameView, FramesView}
use Rattle.st_image.specs.Loading.{class_text, selector_text}
use Rattle.st_wire.specs.Names.{fault_name}
use Rattle.st_wire.specs.Replies.{only, whole}
use Rattle.st_file.specs.ListJson.{each}
use Rattle.st_file.specs.ValueJson.{value_json, values_json}

abbrev pub object_json : List (List ℕ) → List Edit → Object → Data
object_json names edits o = object
    (member (codes "class") (string (class_text edits o.class))
    (member (codes "slots") (values_json names edits o.slots)
    no_members))

abbrev pub frame_json : List (List ℕ) → List Edit → FrameView → Data
frame_json names edits f = object
    (member (codes "method") (whole f.method.0)
    (member (codes "operands") (values_json names edits f.operands)
    (member (codes "pc") (whole f.pc)
    (member (codes "receiver") (value_json names edits f.receiver)
    (member (codes "temps") (values_json names edits f.temps)
    no_members)))))

-- the frames of a turn, from the first to the running one
abbrev pub frames_json : List (List ℕ) → List Edit → FramesView → Data
frames_json names edits fs = each (frame_json names edits) (fs.callers ++ fs.running ∷ [])

-- a turn that has begun and taken no step
abbrev pub start_json : List (List ℕ) → List Edit → Selector → List Value → Data
start_json names edits s args = only (codes "start") (object
    (member (codes "args") (values_json names edits args)
    (member (codes "selector") (string (selector_text names s))
    no_members)))

-- where a turn stands
abbrev pub phase_json : List (List ℕ) → List Edit → Phase → Data
phase_json names edits Fresh = string (codes "fresh")
phase_json names edits (Start s args) = start_json names edits s args
phase_json names edits (Frames fs) = only (codes "frames") (frames_json names edits fs)
phase_json names edits (Done (Answer v)) = only (codes "answer") (value_json names edits v)
phase_json names edits (Done (Fault f)) = only (codes "fault") (string (fault_name f))

abbrev pub body_json : List (List ℕ) → List Edit → Body → Data
body_json names edits b = object
    (member (codes "objects") (each (object_json names edits) b.objects)
    (member (codes "phase") (phase_json names edits b.phase)
    no_members))
