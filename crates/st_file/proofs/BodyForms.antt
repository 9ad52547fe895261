-- The JSON values of bodies and actors are read as these.
use Rattle.std.proofs.Common.{◌≡◌, ℕ, ◌^◌, List, [], ◌∷◌, ◌++◌, map, Some, refl, arith}
use Rattle.std.proofs.lemmas.List.Elements.{All-push}
use Rattle.serde_json.specs.View.{items_of}
use Rattle.st_classes.specs.declared.faults.Fault.{Fault}
use Rattle.st_classes.specs.declared.faults.Fault.TheVariants.{NotUnderstood, Overflow, ZeroDivide, BadArgument, MustBeBoolean, StackOverflow, HeapFull, LocalArgument, TooManyActors}
use Rattle.st_classes.specs.declared.edits.Edit.{Edit}
use Rattle.st_classes.specs.EditLists.{AreLawful}
use Rattle.st_classes.specs.Names.{AreNames}
use Rattle.st_turn.specs.declared.body.Object.{Object}
use Rattle.st_turn.specs.declared.body.Outcome.TheVariants as outcome
use Rattle.st_turn.specs.declared.body.Phase.{Phase}
use Rattle.st_turn.specs.declared.body.Phase.TheVariants.{Fresh, Start, Frames, Done}
use Rattle.st_turn.specs.declared.body.Body.{Body}
use Rattle.st_turn.specs.FrameViews.{FrameView, FramesView}
use Rattle.st_image.specs.declared.actor_part.ActorPart.{ActorPart}
use Rattle.st_image.specs.Loading.{class_text, selector_text}
use Rattle.st_wire.specs.Names.{fault_name}
use Rattle.st_file.specs.declared.texts.PhaseText.TheVariants as phase
use Rattle.st_file.specs.ActorJson.{actor_json}
use Rattle.st_file.specs.BodyJson.{body_json, frame_json, object_json, phase_json}
use Rattle.st_file.specs.Forms.{ActorsAreRead, ReadsAs}
use Rattle.st_file.specs.Meanings.{actor_meant, body_meant, frame_meant, message_meant, object_meant, phase_meant}
use Rattle.st_file.specs.MessageJson.{message_json}
use Rattle.st_file.specs.Named.{ActorIsNamed, BodyIsNamed, FrameIsNamed, FramesAreNamed, MessageIsNamed, ObjectIsNamed, PhaseIsNamed}
use Rattle.st_file.specs.Ranges.{ActorIsInRange, BodyIsInRange, FrameIsInRange, FramesAreInRange, MessageIsInRange, ObjectIsInRange, PhaseIsInRange}
use Rattle.st_file.specs.Shapes.{actor_in, body_in, fault_of, frame_in, message_in, object_in, phase_in}
use Rattle.st_file.proofs.ItemForms.{items_read, ItemsReadAs}
use Rattle.st_file.proofs.RunningLast.{frames-push}
use Rattle.st_file.proofs.ValueForms.{below_bound, class_is_again, message_read, selector_again, value_read, values_read, word_within}

fault_read : (f : Fault) → fault_of (fault_name f) ≡ Some f
fault_read NotUnderstood = refl
fault_read Overflow = refl
fault_read ZeroDivide = refl
fault_read BadArgument = refl
fault_read MustBeBoolean = refl
fault_read StackOverflow = refl
fault_read HeapFull = refl
fault_read LocalArgument = refl
fault_read TooManyActors = refl

module _ (names : List (List ℕ)) (edits : List Edit) (are : AreNames names) (lawful : AreLawful edits) where
  object_read : (o : Object) → ObjectIsNamed names edits o → ObjectIsInRange o → ReadsAs object_in (object_meant names edits) o (object_json names edits o)
  object_read o named range =
      let slots = values_read names edits are lawful o.slots named.slots range in
      record {
        text = record { class = class_text edits o.class; slots = slots.texts };
        read = rw slots.read refl;
        meant = rw (class_is_again edits o.class lawful named.class, slots.meant) refl;
      }

  frame_read : (f : FrameView) → FrameIsNamed names edits f → FrameIsInRange f → ReadsAs frame_in (frame_meant names edits) f (frame_json names edits f)
  frame_read f named range =
      let operands = values_read names edits are lawful f.operands named.operands range.operands in
      let receiver = value_read names edits are lawful f.receiver named.receiver range.receiver in
      let temps = values_read names edits are lawful f.temps named.temps range.temps in
      let method = word_within f.method.0 (omega (arith, range.method)) in
      let pc = word_within f.pc (omega (arith, range.pc)) in
      record {
        text = record { method = f.method.0; operands = operands.texts; pc = f.pc; receiver = receiver.text; temps = temps.texts };
        read = rw (method, operands.read, pc, receiver.read, temps.read) refl;
        meant = rw (below_bound (2 ^ 32) f.method.0 range.method, below_bound (2 ^ 16) f.pc range.pc, receiver.meant, temps.meant, operands.meant) refl;
      }

  frames_read : (fs : FramesView) → FramesAreNamed names edits fs → FramesAreInRange fs
      → ItemsReadAs frame_in (frame_meant names edits) (fs.callers ++ fs.running ∷ []) (items_of (map (frame_json names edits) (fs.callers ++ fs.running ∷ [])))
  frames_read fs named range =
      items_read frame_in (frame_meant names edits) (frame_json names edits) (FrameIsNamed names edits) FrameIsInRange frame_read (fs.callers ++ fs.running ∷ [])
      (All-push (FrameIsNamed names edits) fs.callers fs.running named.callers named.running)
      (All-push FrameIsInRange fs.callers fs.running range.callers range.running)

  phase_read : (p : Phase) → PhaseIsNamed names edits p → PhaseIsInRange p → ReadsAs phase_in (phase_meant names edits) p (phase_json names edits p)
  phase_read Fresh named range = record { text = phase.Fresh; read = refl; meant = refl }
  phase_read (Start s args) named range =
      let values = values_read names edits are lawful args named.1 range in
      record {
        text = phase.Start values.texts (selector_text names s);
        read = rw values.read refl;
        meant = rw (values.meant, selector_again names s are named.0) refl;
      }
  phase_read (Frames fs) named range =
      let frames = frames_read fs named range in
      record {
        text = phase.Frames frames.texts;
        read = rw frames.read refl;
        meant = rw (frames.meant, frames-push fs.callers fs.running) refl;
      }
  phase_read (Done (outcome.Answer v)) named range =
      let answer = value_read names edits are lawful v named range in
      record { text = phase.Answer answer.text; read = rw answer.read refl; meant = rw answer.meant refl }
  phase_read (Done (outcome.Fault f)) named range = record { text = phase.Fault f; read = rw (fault_read f) refl; meant = refl }

  body_read : (b : Body) → BodyIsNamed names edits b → BodyIsInRange b → ReadsAs body_in (body_meant names edits) b (body_json names edits b)
  body_read b named range =
      let objects = items_read object_in (object_meant names edits) (object_json names edits) (ObjectIsNamed names edits) ObjectIsInRange object_read b.objects named.objects range.objects in
      let standing = phase_read b.phase named.phase range.phase in
      record {
        text = record { objects = objects.texts; phase = standing.text };
        read = rw (objects.read, standing.read) refl;
        meant = rw (objects.meant, standing.meant) refl;
      }

  actor_read : (a : ActorPart) → ActorIsNamed names edits a → ActorIsInRange a → ReadsAs actor_in (actor_meant names edits) a (actor_json names edits a)
  actor_read a named range =
      let body = body_read a.body named.body range.body in
      let pending = items_read message_in (message_meant names edits) (message_json names edits) (MessageIsNamed names edits) MessageIsInRange (message_read names edits are lawful) a.pending named.pending range.pending in
      let capacity = word_within a.capacity (omega (arith, range.capacity)) in
      record {
        text = record {
          body = body.text;
          capacity = a.capacity;
          class = class_text edits a.class;
          last = a.last;
          is_open = a.is_open;
          pending = pending.texts;
        };
        read = rw (body.read, capacity, word_within a.last range.last, pending.read) refl;
        meant = rw (class_is_again edits a.class lawful named.class, below_bound (2 ^ 32) a.capacity range.capacity, body.meant, pending.meant) refl;
      }

pub actors_are_read : ActorsAreRead
actors_are_read names edits part are lawful named range = actor_read names edits are lawful part named range
