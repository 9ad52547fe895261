-- A body that can run takes its next step, and can run after it.
use Rattle.std.proofs.Common.{List, ◌≡◌, ℕ, zero, suc, ◌+◌, Option, Some, None, ap, sym, ◌∙◌, subst, option_and_then, add-one}
use Rattle.st_classes.specs.declared.values.ActorId.{ActorId}
use Rattle.st_classes.specs.declared.edits.Edit.{Edit}
use Rattle.st_turn.specs.declared.body.Body.{Body}
use Rattle.st_turn.specs.StepResults.{more, step_result}
use Rattle.st_turn.specs.Steps.{Step, next, ended, outer, body_after, own_steps, step}
use Rattle.st_turn.specs.BodyFits.{FitsSome}
use Rattle.st_turn.proofs.Keeping.{FitsStep, step_fits}
use Rattle.st_image.specs.ImageInvariant.{CanRun}

more_body : (b c : Body) → more b ≡ more c → b ≡ c
more_body b c e = cc

led_to : (s : Step) (c : Body) → more c ≡ step_result s → s ≡ next c
led_to (next d) c e = ap next (sym (more_body c d e))
led_to ended c e = cc
led_to (outer act) c e = cc

-- what a step that was taken leads to
pub record Went (edits : List Edit) (a : ActorId) (b c : Body) : Type 0 where
  pub body : body_after (step edits a b) ≡ Some c
  pub runs : CanRun edits a c

pub went : (edits : List Edit) (a : ActorId) (b c : Body) → CanRun edits a b → more c ≡ step_result (step edits a b) → Went edits a b c
went edits a b c r e =
    let t : step edits a b ≡ next c = led_to (step edits a b) c e in
    let f : FitsStep r.0 edits b (step edits a b) = step_fits r.0 edits a b r.1 r.2 r.3 r.4 r.5 r.6 in
    record {
      body = ap body_after t;
      runs = (r.0, r.1, r.2, r.3, r.4, r.5, subst (FitsStep r.0 edits b) t f);
    }

-- what fits to run fits a step
pub fits_some : (edits : List Edit) (a : ActorId) (b : Body) → CanRun edits a b → FitsSome edits a b
fits_some edits a b r = (r.0, r.2, r.4, r.5, r.6)

-- one step more
step_then : (o : Option Body) (F G : Body → Option Body) (c d : Body) → option_and_then F o ≡ Some c → ((x : Body) → F x ≡ Some c → G x ≡ Some d) → option_and_then G o ≡ Some d
step_then None F G c d e h = cc
step_then (Some x) F G c d e h = h x e

steps_suc : (edits : List Edit) (a : ActorId) (n : ℕ) (b c d : Body) → own_steps edits a n b ≡ Some c → body_after (step edits a c) ≡ Some d → own_steps edits a (suc n) b ≡ Some d
steps_suc edits a zero b c d e f =
    let same : b ≡ c = cc in
    let last : body_after (step edits a b) ≡ Some d = ap (λ (x : Body). body_after (step edits a x)) same ∙ f in
    ap (λ (o : Option Body). option_and_then (own_steps edits a zero) o) last
steps_suc edits a (suc n) b c d e f = step_then (body_after (step edits a b)) (own_steps edits a n) (own_steps edits a (suc n)) c d e (λ x g. steps_suc edits a n x c d g f)

pub steps_more : (edits : List Edit) (a : ActorId) (n : ℕ) (b c d : Body) → own_steps edits a n b ≡ Some c → body_after (step edits a c) ≡ Some d → own_steps edits a (n + 1) b ≡ Some d
steps_more edits a n b c d e f = subst (λ (k : ℕ). own_steps edits a k b ≡ Some d) (sym (add-one n)) (steps_suc edits a n b c d e f)
