-- Bodies whose next step dispatches a message: which message that is, and that none of its arguments is a local.
use Rattle.std.proofs.Common.{arith, ltb-true, ◌≡◌, ℕ, ◌++◌, [], ◌∷◌, List, Option, Some, None, refl, ap, sym, ◌∙◌, subst, true, false, append_assoc, append-nil, inl, inr}
use Rattle.std.specs.List.{list_all, list_any}
use Rattle.std.proofs.lemmas.Bool.{and_parts}
use Rattle.st_classes.specs.declared.values.Selector.{Selector}
use Rattle.st_classes.specs.declared.values.Value.{Value}
use Rattle.st_classes.specs.declared.values.Value.TheVariants.{Int, Bool as Boolean, Nil, Sym, Class, Actor, Local}
use Rattle.st_turn.specs.declared.body.Body.{Body}
use Rattle.st_turn.specs.declared.body.Phase.{Phase}
use Rattle.st_turn.specs.declared.body.Phase.TheVariants.{Fresh, Start, Frames, Done}
use Rattle.st_turn.proofs.Leading.{IsDispatched}
use Rattle.st_mailbox.specs.declared.messages.Message.{Message}
use Rattle.st_image.specs.Worlds.{WorldActor}
use Rattle.st_image.specs.PostRules.{argument_fits}
use Rattle.st_image.specs.Replay.{is_local, with_begun, with_body}
use Rattle.st_image.specs.Starts.{StartsLast, StartsWithoutLocals, begun_by}

-- ---- no locals

-- an argument that fits a message is no local
fitting_is_not_local : (names : List (List ℕ)) (classes actors : ℕ) (v : Value) → argument_fits names classes actors v ≡ true → is_local v ≡ false
fitting_is_not_local names classes actors (Int z) e = refl
fitting_is_not_local names classes actors (Boolean b) e = refl
fitting_is_not_local names classes actors Nil e = refl
fitting_is_not_local names classes actors (Sym s) e = refl
fitting_is_not_local names classes actors (Class c) e = refl
fitting_is_not_local names classes actors (Actor a) e = refl
fitting_is_not_local names classes actors (Local n) e = absurd (omega (arith, ltb-true n 0 e))

pub fitting_is_plain : (names : List (List ℕ)) (classes actors : ℕ) (args : List Value) → list_all (argument_fits names classes actors) args ≡ true → list_any is_local args ≡ false
fitting_is_plain names classes actors [] e = refl
fitting_is_plain names classes actors (v ∷ args) e =
    let t = and_parts (argument_fits names classes actors v) (list_all (argument_fits names classes actors) args) e in
    rw (fitting_is_not_local names classes actors v t.0) (fitting_is_plain names classes actors args t.1)

pub dispatched_is_plain : (phase : Phase) → IsDispatched phase → StartsWithoutLocals phase
dispatched_is_plain Fresh h = tt
dispatched_is_plain (Start s args) h = absurd h
dispatched_is_plain (Frames fs) h = tt
dispatched_is_plain (Done outcome) h = tt

-- ---- the message

-- a base itself
pub starts_self : (b : WorldActor) → StartsLast (Some b) b
starts_self b = record { since = []; begun = sym (append-nil b.begun); starts = λ s args e. inr (refl, (b, refl, refl)) }

-- a new actor
pub starts_new : (base : Option WorldActor) (b : WorldActor) → base ≡ None → b.begun ≡ [] → b.body.phase ≡ Fresh → StartsLast base b
starts_new base b none empty fresh = record {
  since = [];
  begun = empty ∙ sym (append-nil (begun_by base) ∙ ap begun_by none);
  starts = λ s args e. cc;
}

-- an actor with the same body that has begun the same
pub starts_same : (base : Option WorldActor) (b d : WorldActor) → d.begun ≡ b.begun → d.body ≡ b.body → StartsLast base b → StartsLast base d
starts_same base b d begun body k = record {
  since = k.since;
  begun = begun ∙ k.begun;
  starts = λ s args e. elim (k.starts s args (ap (λ (x : Body). x.phase) (sym body) ∙ e)) [
    | inl last ↦ inl last
    | inr old ↦ inr (old.0, (old.1.0, old.1.1, body ∙ old.1.2))
  ];
}

start_is : (s t : Selector) (args others : List Value) → Start s args ≡ Start t others → (s ≡ t) × (args ≡ others)
start_is s t args others e = (cc, cc)

-- a message that begins is the last one
pub starts_begun : (base : Option WorldActor) (b : WorldActor) (m : Message) → StartsLast base b → StartsLast base (with_begun m b)
starts_begun base b m k = record {
  since = k.since ++ m ∷ [];
  begun = ap (λ (ms : List Message). ms ++ m ∷ []) k.begun ∙ append_assoc (begun_by base) k.since (m ∷ []);
  starts = λ s args e. let same = start_is m.selector s m.args args e in
      inl (record { earlier = k.since; last = m; messages_are = refl; selector_is = same.0; args_are = same.1 });
}

not_dispatched : (phase : Phase) (s : Selector) (args : List Value) → phase ≡ Start s args → IsDispatched phase → ⊥
not_dispatched phase s args e h = subst IsDispatched e h

-- a message that was dispatched is no more to be
pub starts_dispatched : (base : Option WorldActor) (b : WorldActor) (body : Body) → IsDispatched body.phase → StartsLast base b → StartsLast base (with_body body b)
starts_dispatched base b body h k = record {
  since = k.since;
  begun = k.begun;
  starts = λ s args e. absurd (not_dispatched body.phase s args e h);
}
