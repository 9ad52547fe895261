-- What is told of a turn that failed: its frames, and the message, both just before the step that failed.
use Rattle.std.specs.Prelude.{ℕ, List, [], ◌∷◌, ◌++◌, Option, Some, None, codes, option_map, slice_get, unwrap_or, Result, Ok, Err}
use Rattle.std.specs.List.{enumerate_from}
use Rattle.serde_json.specs.Data.{Data, null, string, object, member, no_members}
use Rattle.st_classes.specs.declared.values.Value.{Value}
use Rattle.st_classes.specs.declared.values.Value.TheVariants.{Local, Nil}
use Rattle.st_classes.specs.declared.edits.Edit.{Edit}
use Rattle.st_classes.specs.declared.methods.MethodParts.{MethodParts}
use Rattle.st_classes.specs.declared.refusals.Refusal.{Refusal}
use Rattle.st_classes.specs.declared.refusals.Refusal.TheVariants.{UnknownActor}
use Rattle.st_classes.specs.EditLists.{method_at}
use Rattle.st_image.specs.Loading.{class_text, selector_text}
use Rattle.st_image.specs.SentMessages.{message_sent}
use Rattle.st_turn.specs.declared.body.Object.{Object}
use Rattle.st_turn.specs.declared.body.Phase.{Phase}
use Rattle.st_turn.specs.declared.body.Phase.TheVariants.{Frames}
use Rattle.st_turn.specs.Effects.{top}
use Rattle.st_turn.specs.FrameViews.{FrameView}
use Rattle.st_turn.specs.Objects.{class_in}
use Rattle.st_wire.specs.Names.{fault_name}
use Rattle.st_wire.specs.Replies.{whole}
use Rattle.st_file.specs.ListJson.{each}
use Rattle.st_file.specs.ValueJson.{value_json, values_json}
use Rattle.st_queries.specs.declared.endings.Ending.{Ending}
use Rattle.st_queries.specs.declared.endings.Ending.TheVariants.{Failed, Known}
use Rattle.st_queries.specs.declared.endings.Failing.{Failing}
use Rattle.st_queries.specs.Outcomes.{outcome_told}
use Rattle.st_queries.specs.Resolving.{and_then}
use Rattle.st_queries.specs.Sent.{Sent, sent_of, sent_told}
use Rattle.st_queries.specs.Sources.{source_at}

-- ---- a frame

-- the instance variables of an object that may not exist
abbrev pub slots_in : Option Object → List Value
slots_in None = []
slots_in (Some o) = o.slots

-- the values of the instance variables of a receiver; only an object has some
abbrev pub slots_of : List Object → Value → List Value
slots_of objects (Local n) = slots_in (slice_get objects n)
slots_of objects _ = []

-- the class that holds a method, and its selector; empty texts if there is no method
abbrev pub holder_text : List Edit → Option MethodParts → List ℕ
holder_text edits None = []
holder_text edits (Some m) = class_text edits m.holder

abbrev pub own_selector : List (List ℕ) → Option MethodParts → List ℕ
own_selector names None = []
own_selector names (Some m) = selector_text names m.selector

-- an offset in a source, where it is known
abbrev pub offset_told : Option ℕ → Data
offset_told None = null
offset_told (Some n) = whole n

abbrev pub frame_told : List (List ℕ) → List Edit → List Object → Option ℕ → FrameView → Data
frame_told names edits objects offset f = object
    (member (codes "class") (string (class_text edits (class_in objects f.receiver)))
    (member (codes "holder") (string (holder_text edits (method_at edits f.method)))
    (member (codes "method") (whole f.method.0)
    (member (codes "offset") (offset_told offset)
    (member (codes "receiver") (value_json names edits f.receiver)
    (member (codes "selector") (string (own_selector names (method_at edits f.method)))
    (member (codes "slots") (values_json names edits (slots_of objects f.receiver))
    (member (codes "source") (string (source_at edits f.method.0))
    (member (codes "temps") (values_json names edits f.temps)
    no_members)))))))))

-- ---- all frames

-- the frames of a turn, from the first to the running one; none before its message was dispatched
abbrev pub frames_in : Phase → List FrameView
frames_in (Frames fs) = fs.callers ++ fs.running ∷ []
frames_in _ = []

-- the offset of the frame at a place
abbrev pub offset_at : List (Option ℕ) → ℕ → Option ℕ
offset_at offsets n = unwrap_or (slice_get offsets n) None

-- a frame at its place
abbrev pub placed_told : List (List ℕ) → List Edit → List (Option ℕ) → List Object → ℕ × FrameView → Data
placed_told names edits offsets objects (n, f) = frame_told names edits objects (offset_at offsets n) f

abbrev pub frames_told : List (List ℕ) → List Edit → List (Option ℕ) → List Object → List FrameView → Data
frames_told names edits offsets objects fs = each (placed_told names edits offsets objects) (enumerate_from 0 fs)

-- ---- what failed

-- the value that a conditional jump of the running frame tests
abbrev pub tested : Phase → Value
tested (Frames fs) = top fs.running.operands
tested _ = Nil

-- a turn that failed by a message
abbrev pub failing_by_sent : List (List ℕ) → List Edit → List (Option ℕ) → Failing → Sent → Data
failing_by_sent names edits offsets f x = object
    (member (codes "fault") (string (fault_name f.fault))
    (member (codes "frames") (frames_told names edits offsets f.body.objects (frames_in f.body.phase))
    (member (codes "send") (sent_told names edits f.body.objects x)
    (member (codes "step") (whole f.step)
    no_members))))

-- a turn that failed where a value was tested
abbrev pub failing_by_value : List (List ℕ) → List Edit → List (Option ℕ) → Failing → Data
failing_by_value names edits offsets f = object
    (member (codes "fault") (string (fault_name f.fault))
    (member (codes "frames") (frames_told names edits offsets f.body.objects (frames_in f.body.phase))
    (member (codes "step") (whole f.step)
    (member (codes "value") (value_json names edits (tested f.body.phase))
    no_members))))

-- by the message that failed, if one did
abbrev pub failing_by : List (List ℕ) → List Edit → List (Option ℕ) → Failing → Option Sent → Data
failing_by names edits offsets f (Some x) = failing_by_sent names edits offsets f x
failing_by names edits offsets f None = failing_by_value names edits offsets f

-- a turn that failed, by the message that its next step sends
abbrev pub failing_told : List (List ℕ) → List Edit → List (Option ℕ) → Failing → Data
failing_told names edits offsets f = failing_by names edits offsets f (option_map sent_of (message_sent edits f.body))

-- how a turn ended: all that is kept of its failure, or else its outcome
abbrev pub ending_told : List (List ℕ) → List Edit → List (Option ℕ) → Option Ending → Result Data Refusal
ending_told names edits offsets None = Err UnknownActor
ending_told names edits offsets (Some (Failed f)) = Ok (failing_told names edits offsets f)
ending_told names edits offsets (Some (Known outcome)) = and_then (λ o. Ok (outcome_told names edits o)) outcome
