-- An actor of a world names what is there.
use Rattle.std.proofs.Common.{◌≡◌, ◌<◌, ℕ, List, [], ◌∷◌, length, true, not, Option, Some, None, All, slice_get, refl, subst, arith}
use Rattle.std.specs.List.{list_all}
use Rattle.std.proofs.lemmas.Bool.{and_parts, ltb-true}
use Rattle.std.proofs.lemmas.List.Elements.{All-drop, All-weaker}
use Rattle.std.proofs.lemmas.List.Sums.{AllPass-from_list_all}
use Rattle.std.proofs.lemmas.Option.{slice_get_within}
use Rattle.st_classes.specs.declared.values.ClassId.{ClassId}
use Rattle.st_classes.specs.declared.values.Selector.{Selector}
use Rattle.st_classes.specs.declared.values.Value.{Value}
use Rattle.st_classes.specs.declared.values.Value.TheVariants.{Int, Bool as Boolean, Nil, Sym, Class, Actor, Local}
use Rattle.st_classes.specs.declared.edits.Edit.{Edit}
use Rattle.st_classes.specs.declared.methods.MethodParts.{MethodParts}
use Rattle.st_classes.specs.Classes.{class_count, is_class}
use Rattle.st_classes.specs.EditRules.{is_value_class}
use Rattle.st_classes.specs.MethodSuits.{arity_at, is_number, is_there}
use Rattle.st_classes.proofs.LawGrowing.{number_is}
use Rattle.st_turn.specs.declared.body.Object.{Object}
use Rattle.st_turn.specs.declared.body.Outcome.TheVariants as outcome
use Rattle.st_turn.specs.declared.body.Phase.{Phase}
use Rattle.st_turn.specs.declared.body.Phase.TheVariants.{Fresh, Start, Frames, Done}
use Rattle.st_turn.specs.declared.body.Body.{Body}
use Rattle.st_turn.specs.BodyFits.{has_instances, Fits, FitsPhase, IsFrame, IsObject, IsThere, Waits}
use Rattle.st_turn.specs.FrameViews.{FrameView}
use Rattle.st_turn.specs.Objects.{class_in}
use Rattle.st_mailbox.specs.declared.messages.Message.{Message}
use Rattle.st_image.specs.declared.actor_part.ActorPart.{ActorPart}
use Rattle.st_image.specs.Parts.{actor_of, part_of}
use Rattle.st_image.specs.PostRules.{argument_fits, message_fits}
use Rattle.st_image.specs.WorldInvariant.{IsWorldActor, given}
use Rattle.st_image.specs.Worlds.{WorldActor}
use Rattle.st_file.specs.Named.{ActorIsNamed, BodyIsNamed, FrameIsNamed, IsNamed, MessageIsNamed, ObjectIsNamed, PhaseIsNamed, ValueIsNamed}

-- a value that is there
named_value : (names : List (List ℕ)) (edits : List Edit) (actors objects : ℕ) (v : Value) → is_there names (class_count edits) actors objects v ≡ true → ValueIsNamed names edits v
named_value names edits actors objects (Int z) h = tt
named_value names edits actors objects (Boolean b) h = tt
named_value names edits actors objects Nil h = tt
named_value names edits actors objects (Sym s) h = ltb-true s.0 (length names) h
named_value names edits actors objects (Class c) h = h
named_value names edits actors objects (Actor a) h = tt
named_value names edits actors objects (Local n) h = tt

named_values : (names : List (List ℕ)) (edits : List Edit) (actors objects : ℕ) (vs : List Value) → All (IsThere (given names actors) edits objects) vs → All (ValueIsNamed names edits) vs
named_values names edits actors objects vs h = All-weaker _ _ (λ v t. named_value names edits actors objects v t) vs h

-- a selector that has a number of arguments
named_selector : (names : List (List ℕ)) (s : Selector) (n : ℕ) → arity_at names s ≡ Some n → IsNamed names s
named_selector names s n h = by (slice_get names s.0) refl
  where
    by : (o : Option (List ℕ)) → slice_get names s.0 ≡ o → s.0 < length names
    by (Some text) e = slice_get_within names s.0 text e
    by None e = absurd (let k : None ≡ Some n = rw e at h in cc)

pub named_message : (names : List (List ℕ)) (edits : List Edit) (actors : ℕ) (m : Message) → message_fits names (class_count edits) actors m ≡ true → MessageIsNamed names edits m
named_message names edits actors m h =
    let both = and_parts (is_number (arity_at names m.selector) (length m.args)) (list_all (argument_fits names (class_count edits) actors) m.args) h in
    record {
      selector = named_selector names m.selector (length m.args) (number_is _ _ both.0);
      args = All-weaker _ _ (λ v t. named_value names edits actors 0 v t) m.args (AllPass-from_list_all (argument_fits names (class_count edits) actors) m.args both.1);
    }

pub named_class : (edits : List Edit) (c : ClassId) → has_instances edits c ≡ true → is_class edits c ≡ true
named_class edits c h = (and_parts (is_class edits c) (not (is_value_class c)) h).0

named_object : (names : List (List ℕ)) (edits : List Edit) (actors objects : ℕ) (o : Object) → IsObject (given names actors) edits objects o → ObjectIsNamed names edits o
named_object names edits actors objects o h = record {
  class = named_class edits o.class h.class;
  slots = named_values names edits actors objects o.slots h.values;
}

module _ (names : List (List ℕ)) (edits : List Edit) (actors : ℕ) (objects : List Object) where
  named_frame : (f : FrameView) (m : MethodParts) → IsFrame (given names actors) edits objects f m → FrameIsNamed names edits f
  named_frame f m h = record {
    receiver = named_value names edits actors (length objects) f.receiver h.receiver_there;
    temps = named_values names edits actors (length objects) f.temps h.temps_there;
    operands = named_values names edits actors (length objects) f.operands h.operands_there;
  }

  named_phase : (p : Phase) → FitsPhase (given names actors) edits objects p → PhaseIsNamed names edits p
  named_phase Fresh h = tt
  named_phase (Start s args) h = (named_selector names s (length args) h.0, named_values names edits actors (length objects) args h.1)
  named_phase (Frames fs) h = record {
    callers = All-weaker _ _ (λ (f : FrameView) (w : Waits (given names actors) edits objects f). named_frame f w.method w.frame) fs.callers h.2;
    running = named_frame fs.running h.1.method h.1.frame;
  }
  named_phase (Done (outcome.Answer v)) h = named_value names edits actors (length objects) v h
  named_phase (Done (outcome.Fault e)) h = tt

named_body : (names : List (List ℕ)) (edits : List Edit) (actors : ℕ) (b : Body) → Fits (given names actors) edits b → BodyIsNamed names edits b
named_body names edits actors b h = record {
  objects = All-weaker _ _ (λ o t. named_object names edits actors (length b.objects) o t) b.objects h.objects;
  phase = named_phase names edits actors b.objects b.phase h.phase;
}

-- the class of the first of some objects
first_class : (names : List (List ℕ)) (edits : List Edit) (actors : ℕ) (objects : List Object) → 0 < length objects → All (IsObject (given names actors) edits (length objects)) objects → is_class edits (class_in objects (Local 0)) ≡ true
first_class names edits actors [] some all = absurd (omega (arith, some))
first_class names edits actors (o ∷ os) some all = named_class edits o.class (all 0 o (omega arith)).class

-- the part of an actor of a world
pub world_part_is_named : (names : List (List ℕ)) (edits : List Edit) (actors : ℕ) (b : WorldActor) → IsWorldActor names edits actors b → ActorIsNamed names edits (part_of b)
world_part_is_named names edits actors b h = record {
  class = subst (λ c. is_class edits c ≡ true) h.itself (first_class names edits actors b.body.objects h.fits.some h.fits.objects);
  body = named_body names edits actors b.body h.fits;
  pending = All-drop (MessageIsNamed names edits) (length b.begun) b.accepted (All-weaker _ _ (λ m t. named_message names edits actors m t) b.accepted h.mail);
}

-- a part whose actor is one of a world
pub world_actor_is_named : (names : List (List ℕ)) (edits : List Edit) (actors : ℕ) (part : ActorPart) → IsWorldActor names edits actors (actor_of part) → ActorIsNamed names edits part
world_actor_is_named names edits actors part h = world_part_is_named names edits actors (actor_of part) h

-- all such parts
pub world_actors_are_named : (names : List (List ℕ)) (edits : List Edit) (actors : ℕ) (parts : List ActorPart) → All (λ (p : ActorPart). IsWorldActor names edits actors (actor_of p)) parts → All (ActorIsNamed names edits) parts
world_actors_are_named names edits actors parts h = All-weaker _ _ (λ p t. world_actor_is_named names edits actors p t) parts h
