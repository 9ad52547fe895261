-- Steps of an actor's own, taken again.
use Rattle.std.proofs.Common.{◌≡◌, ℕ, zero, suc, List, Option, Some, None, option_and_then, refl, ap, sym, ◌∙◌}
use Rattle.st_classes.specs.declared.values.ActorId.{ActorId}
use Rattle.st_classes.specs.declared.edits.Edit.{Edit}
use Rattle.st_turn.specs.declared.body.Body.{Body}
use Rattle.st_turn.specs.declared.body.Stop.{Stop}
use Rattle.st_turn.specs.declared.body.Stop.TheVariants.{More, Ended, Outer, Limit}
use Rattle.st_turn.specs.StepResults.{more, step_result, stop_result}
use Rattle.st_turn.specs.Steps.{Step, next, ended, outer, body_after, own_steps, step}

no_more : (edits : List Edit) (a : ActorId) (o : Option Body) (d : Body) → option_and_then (own_steps edits a zero) o ≡ Some d → o ≡ Some d
no_more edits a None d e = cc
no_more edits a (Some x) d e = e

-- a body to which so many steps lead, from which one more leads to another body
abbrev pub ComesBefore : List Edit → ActorId → Option Body → Body → Type 0
ComesBefore edits a o d = (c : Body) × (o ≡ Some c) × (body_after (step edits a c) ≡ Some d)

before_by : (edits : List Edit) (a : ActorId) (F G : Body → Option Body) (o : Option Body) (d : Body) → ((x : Body) → F x ≡ Some d → ComesBefore edits a (G x) d) → option_and_then F o ≡ Some d → ComesBefore edits a (option_and_then G o) d
before_by edits a F G None d h e = cc
before_by edits a F G (Some x) d h e = h x e

-- the last of so many steps, and the body before it
pub before_last : (edits : List Edit) (a : ActorId) (n : ℕ) (b d : Body) → own_steps edits a (suc n) b ≡ Some d → ComesBefore edits a (own_steps edits a n b) d
before_last edits a zero b d e = (b, refl, no_more edits a (body_after (step edits a b)) d e)
before_last edits a (suc n) b d e = before_by edits a (own_steps edits a (suc n)) (own_steps edits a n) (body_after (step edits a b)) d (λ x h. before_last edits a n x d h) e

first_by : (F : Body → Option Body) (o : Option Body) (d : Body) → option_and_then F o ≡ Some d → (c : Body) × (o ≡ Some c) × (F c ≡ Some d)
first_by F None d e = cc
first_by F (Some x) d e = (x, refl, e)

-- the first of so many steps, and the body after it
pub after_first : (edits : List Edit) (a : ActorId) (n : ℕ) (b d : Body) → own_steps edits a (suc n) b ≡ Some d → (c : Body) × (body_after (step edits a b) ≡ Some c) × (own_steps edits a n c ≡ Some d)
after_first edits a n b d e = first_by (own_steps edits a n) (body_after (step edits a b)) d e

-- ---- a step that is there to be taken

takes_step : (s : Step) (x : Body) → body_after s ≡ Some x → step_result s ≡ more x
takes_step (next b) x e = let same : b ≡ x = cc in ap more same
takes_step ended x e = cc
takes_step (outer act) x e = cc

more_is : (stop : Stop) (new x : Body) → stop_result stop new ≡ more x → new ≡ x
more_is More new x e = cc
more_is Ended new x e = cc
more_is Outer new x e = cc
more_is Limit new x e = cc

-- what a step leaves where one more leads somewhere
pub record WasTaken (edits : List Edit) (a : ActorId) (n : ℕ) (old new : Body) : Type 0 where
  pub result : step_result (step edits a old) ≡ more new
  pub rest : own_steps edits a n new ≡ own_steps edits a (suc n) old

pub was_taken : (edits : List Edit) (a : ActorId) (n : ℕ) (stop : Stop) (old new d : Body) → own_steps edits a (suc n) old ≡ Some d → stop_result stop new ≡ step_result (step edits a old) → WasTaken edits a n old new
was_taken edits a n stop old new d e r =
    let p = after_first edits a n old d e in
    let result : step_result (step edits a old) ≡ more p.0 = takes_step (step edits a old) p.0 p.1 in
    let same : new ≡ p.0 = more_is stop new p.0 (r ∙ result) in
    record {
      result = result ∙ ap more (sym same);
      rest = ap (own_steps edits a n) same ∙ p.2 ∙ sym e;
    }
