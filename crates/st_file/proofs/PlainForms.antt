-- The JSON values of the parts of an image: they nest a few levels deep, have no float, and have their keys in byte order.
use Rattle.std.proofs.Common.{◌≡◌, ℕ, suc, ◌≤◌, ◌++◌, pos, negsuc, false, true, List, [], ◌∷◌, map, Some, All, refl, arith}
use Rattle.std.proofs.lemmas.List.Elements.{All-head, All-push, All-tail}
use Rattle.serde_json.specs.Data.{Data, string, Items, depth, items_depth}
use Rattle.serde_json.specs.Read.{read}
use Rattle.serde_json.specs.View.{items_of}
use Rattle.serde_json.specs.Written.{compact_text, has_float, items_have_float}
use Rattle.st_classes.specs.declared.values.Value.{Value}
use Rattle.st_classes.specs.declared.values.Value.TheVariants as value
use Rattle.st_classes.specs.declared.edits.Edit.{Edit}
use Rattle.st_classes.specs.declared.edits.Edit.TheVariants.{Define, Install, Remove, Reparent}
use Rattle.st_turn.specs.declared.body.Object.{Object}
use Rattle.st_turn.specs.declared.body.Outcome.TheVariants as outcome
use Rattle.st_turn.specs.declared.body.Phase.{Phase}
use Rattle.st_turn.specs.declared.body.Phase.TheVariants.{Fresh, Start, Frames, Done}
use Rattle.st_turn.specs.declared.body.Body.{Body}
use Rattle.st_turn.specs.FrameViews.{FrameView}
use Rattle.st_mailbox.specs.declared.messages.Message.{Message}
use Rattle.st_mailbox.specs.declared.messages.Sender.{Sender}
use Rattle.st_mailbox.specs.declared.messages.Sender.TheVariants as sender
use Rattle.st_image.specs.declared.actor_part.ActorPart.{ActorPart}
use Rattle.st_wire.specs.Json.{keys_rise, keys_rise_in_items}
use Rattle.st_file.specs.ActorJson.{actor_json}
use Rattle.st_file.specs.BodyJson.{body_json, frame_json, object_json, phase_json}
use Rattle.st_file.specs.EditJson.{edit_json}
use Rattle.st_file.specs.ListJson.{each, texts}
use Rattle.st_file.specs.MessageJson.{message_json, sender_json}
use Rattle.st_file.specs.Ranges.{ActorIsInRange, BodyIsInRange, FrameIsInRange, MessageIsInRange, ObjectIsInRange, PhaseIsInRange, SenderIsInRange, ValueIsInRange}
use Rattle.st_file.specs.ValueJson.{value_json, values_json}
use Rattle.st_file.proofs.ReadAgain.{HasWholeNumbers, ItemsHaveWholeNumbers, read_again}

-- ---- depth, floats and keys

-- a value nests at most this deep, has no float, and its keys are in byte order
pub record IsPlain (deep : ℕ) (d : Data) : Type 0 where
  pub shallow : depth d ≤ deep
  pub whole : has_float d ≡ false
  pub ordered : keys_rise d ≡ true

record ItemsArePlain (deep : ℕ) (ds : Items) : Type 0 where
  shallow : items_depth ds ≤ deep
  whole : items_have_float ds ≡ false
  ordered : keys_rise_in_items ds ≡ true

items_plain : {P : Type 0} (json : P → Data) (deep : ℕ) → ((x : P) → IsPlain deep (json x)) → (xs : List P) → ItemsArePlain deep (items_of (map json xs))
items_plain json deep f [] = record { shallow = omega arith; whole = refl; ordered = refl }
items_plain json deep f (x ∷ xs) =
    let one = f x in
    let rest = items_plain json deep f xs in
    record {
      shallow = omega (arith, one.shallow, rest.shallow);
      whole = rw (one.whole, rest.whole) refl;
      ordered = rw (one.ordered, rest.ordered) refl;
    }

pub each_plain : {P : Type 0} (json : P → Data) (deep : ℕ) → ((x : P) → IsPlain deep (json x)) → (xs : List P) → IsPlain (suc deep) (each json xs)
each_plain json deep f xs =
    let items = items_plain json deep f xs in
    record { shallow = omega (arith, items.shallow); whole = items.whole; ordered = items.ordered }

sender_plain : (s : Sender) → IsPlain 1 (sender_json s)
sender_plain (sender.Client n) = record { shallow = omega arith; whole = refl; ordered = refl }
sender_plain (sender.Actor a) = record { shallow = omega arith; whole = refl; ordered = refl }

pub text_plain : (s : List ℕ) → IsPlain 0 (string s)
text_plain s = record { shallow = omega arith; whole = refl; ordered = refl }

module _ (names : List (List ℕ)) (edits : List Edit) where
  value_plain : (v : Value) → IsPlain 1 (value_json names edits v)
  value_plain (value.Int (pos n)) = record { shallow = omega arith; whole = refl; ordered = refl }
  value_plain (value.Int (negsuc n)) = record { shallow = omega arith; whole = refl; ordered = refl }
  value_plain (value.Bool b) = record { shallow = omega arith; whole = refl; ordered = refl }
  value_plain value.Nil = record { shallow = omega arith; whole = refl; ordered = refl }
  value_plain (value.Sym s) = record { shallow = omega arith; whole = refl; ordered = refl }
  value_plain (value.Class c) = record { shallow = omega arith; whole = refl; ordered = refl }
  value_plain (value.Actor a) = record { shallow = omega arith; whole = refl; ordered = refl }
  value_plain (value.Local n) = record { shallow = omega arith; whole = refl; ordered = refl }

  values_plain : (vs : List Value) → IsPlain 2 (values_json names edits vs)
  values_plain vs = each_plain (value_json names edits) 1 value_plain vs

  pub message_plain : (m : Message) → IsPlain 3 (message_json names edits m)
  message_plain m =
      let args = values_plain m.args in
      let from = sender_plain m.sender in
      record {
        shallow = omega (arith, args.shallow, from.shallow);
        whole = rw (args.whole, from.whole) refl;
        ordered = rw (args.ordered, from.ordered) refl;
      }

  object_plain : (o : Object) → IsPlain 3 (object_json names edits o)
  object_plain o =
      let slots = values_plain o.slots in
      record {
        shallow = omega (arith, slots.shallow);
        whole = rw slots.whole refl;
        ordered = rw slots.ordered refl;
      }

  frame_plain : (f : FrameView) → IsPlain 3 (frame_json names edits f)
  frame_plain f =
      let operands = values_plain f.operands in
      let receiver = value_plain f.receiver in
      let temps = values_plain f.temps in
      record {
        shallow = omega (arith, operands.shallow, receiver.shallow, temps.shallow);
        whole = rw (operands.whole, receiver.whole, temps.whole) refl;
        ordered = rw (operands.ordered, receiver.ordered, temps.ordered) refl;
      }

  phase_plain : (p : Phase) → IsPlain 5 (phase_json names edits p)
  phase_plain Fresh = record { shallow = omega arith; whole = refl; ordered = refl }
  phase_plain (Start s args) =
      let values = values_plain args in
      record {
        shallow = omega (arith, values.shallow);
        whole = rw values.whole refl;
        ordered = rw values.ordered refl;
      }
  phase_plain (Frames fs) =
      let frames = each_plain (frame_json names edits) 3 frame_plain (fs.callers ++ fs.running ∷ []) in
      record {
        shallow = omega (arith, frames.shallow);
        whole = rw frames.whole refl;
        ordered = rw frames.ordered refl;
      }
  phase_plain (Done (outcome.Answer v)) =
      let answer = value_plain v in
      record {
        shallow = omega (arith, answer.shallow);
        whole = rw answer.whole refl;
        ordered = rw answer.ordered refl;
      }
  phase_plain (Done (outcome.Fault f)) = record { shallow = omega arith; whole = refl; ordered = refl }

  body_plain : (b : Body) → IsPlain 6 (body_json names edits b)
  body_plain b =
      let objects = each_plain (object_json names edits) 3 object_plain b.objects in
      let standing = phase_plain b.phase in
      record {
        shallow = omega (arith, objects.shallow, standing.shallow);
        whole = rw (objects.whole, standing.whole) refl;
        ordered = rw (objects.ordered, standing.ordered) refl;
      }

  pub actor_plain : (a : ActorPart) → IsPlain 7 (actor_json names edits a)
  actor_plain a =
      let body = body_plain a.body in
      let pending = each_plain (message_json names edits) 3 message_plain a.pending in
      record {
        shallow = omega (arith, body.shallow, pending.shallow);
        whole = rw (body.whole, pending.whole) refl;
        ordered = rw (body.ordered, pending.ordered) refl;
      }

  pub edit_plain : (e : Edit) → IsPlain 3 (edit_json names edits e)
  edit_plain (Define name parent slots) =
      let told = each_plain string 0 text_plain slots in
      record {
        shallow = omega (arith, told.shallow);
        whole = rw told.whole refl;
        ordered = rw told.ordered refl;
      }
  edit_plain (Install c m) = record { shallow = omega arith; whole = refl; ordered = refl }
  edit_plain (Remove c s) = record { shallow = omega arith; whole = refl; ordered = refl }
  edit_plain (Reparent c parent) = record { shallow = omega arith; whole = refl; ordered = refl }

-- ---- numbers

pub items_whole : {P : Type 0} (json : P → Data) (A : P → Type 0) → ((x : P) → A x → HasWholeNumbers (json x)) → (xs : List P) → All A xs → ItemsHaveWholeNumbers (items_of (map json xs))
items_whole json A f [] h = tt
items_whole json A f (x ∷ xs) h = (f x (All-head A x xs h), items_whole json A f xs (All-tail A x xs h))

pub texts_whole : (ts : List (List ℕ)) → HasWholeNumbers (texts ts)
texts_whole [] = tt
texts_whole (t ∷ ts) = (tt, texts_whole ts)

sender_whole : (s : Sender) → SenderIsInRange s → HasWholeNumbers (sender_json s)
sender_whole (sender.Client n) h = omega (arith, h)
sender_whole (sender.Actor a) h = (omega (arith, h), tt)

module _ (names : List (List ℕ)) (edits : List Edit) where
  value_whole : (v : Value) → ValueIsInRange v → HasWholeNumbers (value_json names edits v)
  value_whole (value.Int (pos n)) h = omega (arith, h.sfits)
  value_whole (value.Int (negsuc n)) h = h.sfits
  value_whole (value.Bool b) h = tt
  value_whole value.Nil h = tt
  value_whole (value.Sym s) h = (tt, tt)
  value_whole (value.Class c) h = (tt, tt)
  value_whole (value.Actor a) h = (omega (arith, h), tt)
  value_whole (value.Local n) h = (omega (arith, h), tt)

  values_whole : (vs : List Value) → All ValueIsInRange vs → HasWholeNumbers (values_json names edits vs)
  values_whole vs h = items_whole (value_json names edits) ValueIsInRange value_whole vs h

  pub message_whole : (m : Message) → MessageIsInRange m → HasWholeNumbers (message_json names edits m)
  message_whole m h = (values_whole m.args h.args, (tt, (sender_whole m.sender h.sender, (h.seq, tt))))

  object_whole : (o : Object) → ObjectIsInRange o → HasWholeNumbers (object_json names edits o)
  object_whole o h = (tt, (values_whole o.slots h, tt))

  frame_whole : (f : FrameView) → FrameIsInRange f → HasWholeNumbers (frame_json names edits f)
  frame_whole f h =
      (omega (arith, h.method), (values_whole f.operands h.operands, (omega (arith, h.pc), (value_whole f.receiver h.receiver, (values_whole f.temps h.temps, tt)))))

  phase_whole : (p : Phase) → PhaseIsInRange p → HasWholeNumbers (phase_json names edits p)
  phase_whole Fresh h = tt
  phase_whole (Start s args) h = ((values_whole args h, (tt, tt)), tt)
  phase_whole (Frames fs) h =
      (items_whole (frame_json names edits) FrameIsInRange frame_whole (fs.callers ++ fs.running ∷ []) (All-push FrameIsInRange fs.callers fs.running h.callers h.running), tt)
  phase_whole (Done (outcome.Answer v)) h = (value_whole v h, tt)
  phase_whole (Done (outcome.Fault f)) h = (tt, tt)

  body_whole : (b : Body) → BodyIsInRange b → HasWholeNumbers (body_json names edits b)
  body_whole b h = (items_whole (object_json names edits) ObjectIsInRange object_whole b.objects h.objects, (phase_whole b.phase h.phase, tt))

  pub actor_whole : (a : ActorPart) → ActorIsInRange a → HasWholeNumbers (actor_json names edits a)
  actor_whole a h =
      let pending = items_whole (message_json names edits) MessageIsInRange message_whole a.pending h.pending in
      (body_whole a.body h.body, (omega (arith, h.capacity), (tt, (h.last, (tt, (pending, tt))))))

  pub edit_whole : (e : Edit) → HasWholeNumbers (edit_json names edits e)
  edit_whole (Define name parent slots) = ((tt, (texts_whole slots, (tt, tt))), tt)
  edit_whole (Install c m) = ((tt, (tt, tt)), tt)
  edit_whole (Remove c s) = ((tt, (tt, tt)), tt)
  edit_whole (Reparent c parent) = ((tt, (tt, tt)), tt)

  -- ---- texts

  -- what is written of an actor is read as it
  pub actor_text_again : (a : ActorPart) → ActorIsInRange a → read (compact_text (actor_json names edits a)) ≡ Some (actor_json names edits a)
  actor_text_again a h =
      let plain = actor_plain names edits a in
      read_again (actor_json names edits a) (actor_whole a h) plain.ordered (omega (arith, plain.shallow))

  -- what is written of an edit is read as it
  pub edit_text_again : (e : Edit) → read (compact_text (edit_json names edits e)) ≡ Some (edit_json names edits e)
  edit_text_again e =
      let plain = edit_plain names edits e in
      read_again (edit_json names edits e) (edit_whole e) plain.ordered (omega (arith, plain.shallow))
