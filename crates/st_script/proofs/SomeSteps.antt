-- A quantum of an actor that was checked out has a step.
use Rattle.std.proofs.Common.{arith, ◌≡◌, ℕ, zero, suc, ◌+◌, ◌<◌, ◌≤◌, List, [], ◌∷◌, length, Option, Some, None, Result, Ok, Err, Bool, true, false, cond, if◌then◌else◌, refl, sym, ap, subst, ◌∙◌, inl, inr, slice_get, nat_lt}
use Rattle.std.specs.Prelude.{◌&&◌, ◌==◌, IfOk}
use Rattle.std.specs.Option.{option_map}
use Rattle.std.specs.declared.alloc.AllocError.{AllocError}
use Rattle.std.proofs.lemmas.Option.{slice_get_cases}
use Rattle.st_classes.specs.declared.values.ActorId.{ActorId}
use Rattle.st_classes.specs.declared.values.Selector.{Selector}
use Rattle.st_classes.specs.declared.instructions.Instruction.{Instruction}
use Rattle.st_classes.specs.declared.methods.MethodParts.{MethodParts}
use Rattle.st_classes.specs.declared.edits.Edit.{Edit}
use Rattle.st_classes.specs.declared.refusals.Refusal.TheVariants.{HistoryFull, NothingToDo}
use Rattle.st_classes.specs.EditLists.{method_at}
use Rattle.st_classes.specs.Refusals.{first_of}
use Rattle.st_classes.specs.declared.refusals.Refusal.{Refusal}
use Rattle.st_guard.specs.Moves.{CachesView}
use Rattle.st_turn.specs.declared.acts.Act.{Act}
use Rattle.st_turn.specs.declared.body.Body.{Body}
use Rattle.st_turn.specs.declared.body.Object.{Object}
use Rattle.st_turn.specs.declared.body.Phase.{Phase}
use Rattle.st_turn.specs.declared.body.Phase.TheVariants.{Fresh, Start, Frames, Done}
use Rattle.st_turn.specs.declared.body.Stop.{Stop}
use Rattle.st_turn.specs.declared.body.Stop.TheVariants.{More, Ended, Outer, Limit}
use Rattle.st_turn.specs.Idle.{is_idle}
use Rattle.st_turn.specs.FrameViews.{FramesView}
use Rattle.st_turn.specs.Effects.{Effect, goes, stores, sends, answers, fails, effect}
use Rattle.st_turn.specs.BodyFits.{Referents, FitsPhase, FitsSome}
use Rattle.st_turn.specs.Claims.{ClaimView, IsSound}
use Rattle.st_turn.specs.Steps.{Step, next as leads, ended, outer, act_of, act_or, arguments, effect_step, frames_step, instruction_step, is_outer, own_steps, receiver_below, send_body, send_step, step, step_in}
use Rattle.st_turn.specs.StepResults.{step_result, stop_result}
use Rattle.st_turn.specs.WorkerSteps.{Row, Runs, limited}
use Rattle.st_mailbox.specs.declared.messages.Message.{Message}
use Rattle.st_image.specs.declared.history.Item.TheVariants.{Begun}
use Rattle.st_image.specs.Worlds.{World, WorldActor, change, pending}
use Rattle.st_image.specs.Replay.{next, next_message, with_begun}
use Rattle.st_image.specs.Images.{ImageView, appended, constants, world}
use Rattle.st_image.specs.WorldInvariant.{IsLawful}
use Rattle.st_image.specs.Commits.{HasCheckedOut, Settles, body_at, checkout_rules, idle_at, steps_of, with_out}
use Rattle.st_script.specs.Runners.{GuardView, Steps, floor_of, quantum_answer}
use Rattle.st_image.proofs.Lists.{off}
use Rattle.st_image.proofs.Changing.{get-change}
use Rattle.st_image.proofs.Replays.{lawful_push}

-- ---- a body in a turn that fits has a step

act_goes : (o : Option Act) (b : Body) → act_or o (leads b) ≡ ended → ⊥
act_goes None b h = cc
act_goes (Some act) b h = cc

sent_goes : (edits : List Edit) (objects : List Object) (m : MethodParts) (fs : FramesView) (by_super : Bool) (s : Selector) (n : ℕ) → send_step edits objects m fs by_super s n ≡ ended → ⊥
sent_goes edits objects m fs false s n h = act_goes (act_of (receiver_below n fs.running.operands) s (arguments n fs.running.operands)) (send_body edits objects m fs false s n) h
sent_goes edits objects m fs true s n h = cc

followed_goes : (edits : List Edit) (objects : List Object) (m : MethodParts) (fs : FramesView) (e : Effect) → effect_step edits objects m fs e ≡ ended → ⊥
followed_goes edits objects m fs (goes f) h = cc
followed_goes edits objects m fs (stores i v f) h = cc
followed_goes edits objects m fs (sends by_super s n) h = sent_goes edits objects m fs by_super s n h
followed_goes edits objects m fs (answers v) h = cc
followed_goes edits objects m fs (fails e) h = cc

some_none : (i : Instruction) → Some i ≡ None → ⊥
some_none i f = cc

not_past : (code : List Instruction) (pc : ℕ) → slice_get code pc ≡ None → pc < length code → ⊥
not_past code pc e l = elim (slice_get_cases code pc).1 [
  | inl t ↦ absurd (some_none t.0 (sym t.2 ∙ e))
  | inr t ↦ absurd (omega (arith, t.0, l))
]

performed_goes : (edits : List Edit) (a : ActorId) (objects : List Object) (fs : FramesView) (m : MethodParts) (o : Option Instruction) → slice_get m.code fs.running.pc ≡ o → fs.running.pc < length m.code → instruction_step edits a objects fs m o ≡ ended → ⊥
performed_goes edits a objects fs m None e l h = not_past m.code fs.running.pc e l
performed_goes edits a objects fs m (Some i) e l h = followed_goes edits objects m fs (effect a objects i fs.running) h

frames_goes : (given : Referents) (edits : List Edit) (a : ActorId) (objects : List Object) (fs : FramesView) → FitsPhase given edits objects (Frames fs) → frames_step edits a objects fs (method_at edits fs.running.method) ≡ ended → ⊥
frames_goes given edits a objects fs f =
    let m : MethodParts = f.1.method in
    subst (λ (o : Option MethodParts). frames_step edits a objects fs o ≡ ended → ⊥) (sym f.1.frame.method) (λ h. performed_goes edits a objects fs m (slice_get m.code fs.running.pc) refl f.1.frame.within h)

phase_goes : (given : Referents) (edits : List Edit) (a : ActorId) (objects : List Object) (phase : Phase) → FitsPhase given edits objects phase → is_idle phase ≡ false → step_in edits a objects phase ≡ ended → ⊥
phase_goes given edits a objects Fresh f b h = cc
phase_goes given edits a objects (Start s args) f b h = cc
phase_goes given edits a objects (Frames fs) f b h = frames_goes given edits a objects fs f h
phase_goes given edits a objects (Done outcome) f b h = cc

-- ---- a claim of no steps that can go no further stands before the image's step

zero_some : (s : Step) (stop : Stop) (b : Body) → (stop ≡ More → ⊥) → (s ≡ ended → ⊥) → limited 0 (step_result s) ≡ stop_result stop b → 1 ≤ 0 + (if is_outer s then 1 else 0)
zero_some (leads c) More b other never e = absurd (other refl)
zero_some (leads c) Ended b other never e = cc
zero_some (leads c) Outer b other never e = cc
zero_some (leads c) Limit b other never e = cc
zero_some ended stop b other never e = absurd (never refl)
zero_some (outer act) stop b other never e = omega arith

stopped_some : (edits : List Edit) (a : ActorId) (k : ℕ) (before after : Body) (stop : Stop) → (stop ≡ More → ⊥) → own_steps edits a k before ≡ Some after → FitsSome edits a after → is_idle before.phase ≡ false → limited k (step_result (step edits a after)) ≡ stop_result stop after → 1 ≤ k + (if is_outer (step edits a after) then 1 else 0)
stopped_some edits a zero before after stop other own fits busy e =
    let same : before ≡ after = cc in
    let goes_on : is_idle after.phase ≡ false = subst (λ (b : Body). is_idle b.phase ≡ false) same busy in
    zero_some (step edits a after) stop after other (phase_goes fits.0 edits a after.objects after.phase fits.4.phase goes_on) e
stopped_some edits a (suc k) before after stop other own fits busy e = omega arith

-- what a row of steps keeps of a claim
pub record IsRow (n : ℕ) (c d : ClaimView) : Type 0 where
  pub steps : d.steps ≡ c.steps + n
  pub before : d.before ≡ c.before

row_keeps : {G : Type 0} (floor : G → Selector → ℕ) (n : ℕ) (v : CachesView G) (c : ClaimView) (w : CachesView G) (d : ClaimView) → Row floor n v c w d → IsRow n c d
row_keeps floor zero v c w d h = record { steps = omega (arith, ap (λ (x : ClaimView). x.steps) h.1); before = ap (λ (x : ClaimView). x.before) h.1 }
row_keeps floor (suc n) v c w d (u, e, row, takes) =
    let k = row_keeps floor n v c u e row in
    record {
      steps = omega (arith, k.steps, ap (λ (x : ClaimView). x.steps) takes.claim);
      before = ap (λ (x : ClaimView). x.before) takes.claim ∙ k.before;
    }

stops_some : (c d : ClaimView) (n : ℕ) (stop : Stop) → (stop ≡ More → ⊥) → IsRow n c d → IsSound d.actor d.edits d.before d.after d.steps d.sends → is_idle c.before.phase ≡ false → limited d.steps (step_result (step d.edits d.actor d.after)) ≡ stop_result stop d.after → 1 ≤ steps_of d
stops_some c d n stop other k sound busy e = stopped_some d.edits d.actor d.steps d.before d.after stop other sound.taken sound.fits (subst (λ (b : Body). is_idle b.phase ≡ false) (sym k.before) busy) e

-- a claim that ran, and for which memory was there, has a step to commit
pub some_steps : {G : Type 0} (floor : G → Selector → ℕ) (limit : ℕ) (v : CachesView G) (c : ClaimView) (stop : Stop) (w : CachesView G) (d : ClaimView) → 1 ≤ limit → is_idle c.before.phase ≡ false → IsSound d.actor d.edits d.before d.after d.steps d.sends → Runs {E = AllocError} floor limit v c (Ok stop) w d → 1 ≤ steps_of d
some_steps floor limit v c More w d l busy sound row = let k = row_keeps floor limit v c w d row in omega (arith, k.steps, l)
some_steps floor limit v c Ended w d l busy sound (n, few, row, e) = stops_some c d n Ended (λ x. cc) (row_keeps floor n v c w d row) sound busy e
some_steps floor limit v c Outer w d l busy sound (n, few, row, e) = stops_some c d n Outer (λ x. cc) (row_keeps floor n v c w d row) sound busy e
some_steps floor limit v c Limit w d l busy sound (n, few, row, e) = stops_some c d n Limit (λ x. cc) (row_keeps floor n v c w d row) sound busy e

-- ---- an actor that was checked out is in a turn

first_pending : (ms : List Message) → (length ms == 0) ≡ false → (m : Message) × (slice_get ms 0 ≡ Some m)
first_pending [] e = cc
first_pending (m ∷ ms) e = (m, refl)

and_true : (t u : Bool) → t ≡ true → (t && u) ≡ false → u ≡ false
and_true true u e f = f
and_true false u e f = cc

body_of : (o : Option WorldActor) (b : WorldActor) (body : Body) → o ≡ Some b → option_map (λ (x : WorldActor). x.body) o ≡ Some body → body ≡ b.body
body_of None b body e f = cc
body_of (Some x) b body e f = let same : x ≡ b = cc in let here : x.body ≡ body = cc in sym here ∙ ap (λ (y : WorldActor). y.body) same

-- the message that an idle actor begins
begins_next : (i : ImageView) (b : WorldActor) → first_of (checkout_rules i (Some b)) ≡ None → is_idle b.body.phase ≡ true → (m : Message) × (next_message (Some b) ≡ Some m)
begins_next i b rules idle =
    let both = off (is_idle b.body.phase && (length (pending b) == 0)) NothingToDo ((is_idle b.body.phase && nat_lt i.most_items (length i.history + 1), HistoryFull) ∷ []) rules in
    let some = first_pending (pending b) (and_true (is_idle b.body.phase) (length (pending b) == 0) idle both.0) in
    (some.0, ap (λ (t : Bool). cond t (slice_get (pending b) 0) None) idle ∙ some.1)

busy_by : (t : Bool) (i k : ImageView) (a : ActorId) (b : WorldActor) (body : Body) → IsLawful i → slice_get (world i).actors a.0 ≡ Some b → is_idle b.body.phase ≡ t → first_of (checkout_rules i (Some b)) ≡ None → body_at k a ≡ Some body
    → k ≡ with_out (let begun : ImageView = if t then appended i (Begun a ∷ []) else i in record begun { standing = record begun.standing { next_from = a.0 + 1 } }) k → is_idle body.phase ≡ false
busy_by false i k a b body l at busy rules there is =
    let same : world k ≡ world i = ap world is in
    let here : option_map (λ (x : WorldActor). x.body) (slice_get (world i).actors a.0) ≡ Some body = ap (λ (w : World). option_map (λ (x : WorldActor). x.body) (slice_get w.actors a.0)) (sym same) ∙ there in
    subst (λ (x : Body). is_idle x.phase ≡ false) (sym (body_of (slice_get (world i).actors a.0) b body at here)) busy
busy_by true i k a b body l at idle rules there is =
    let m = begins_next i b rules idle in
    let w : World = world i in
    let v : World = change (with_begun m.0) a w in
    let begins : next (constants i) w (Begun a) ≡ Some v = ap (λ o. option_map (λ x. change (with_begun x) a w) (next_message o)) at ∙ ap (λ o. option_map (λ x. change (with_begun x) a w) o) m.1 in
    let pushed = lawful_push (constants i) i.base i.history (Begun a) v l.lawful begins in
    let same : world k ≡ v = ap world is ∙ pushed.1 in
    let here : option_map (λ (x : WorldActor). x.body) (slice_get v.actors a.0) ≡ Some body = ap (λ (u : World). option_map (λ (x : WorldActor). x.body) (slice_get u.actors a.0)) (sym same) ∙ there in
    let now : slice_get v.actors a.0 ≡ Some (with_begun m.0 b) = get-change (with_begun m.0) a.0 w.actors b at in
    subst (λ (x : Body). is_idle x.phase ≡ false) (sym (body_of (slice_get v.actors a.0) (with_begun m.0 b) body now here)) refl

checked_by : (o : Option WorldActor) (i k : ImageView) (a : ActorId) (body : Body) → IsLawful i → slice_get (world i).actors a.0 ≡ o → first_of (checkout_rules i o) ≡ None → body_at k a ≡ Some body
    → k ≡ with_out (let begun : ImageView = if idle_at o then appended i (Begun a ∷ []) else i in record begun { standing = record begun.standing { next_from = a.0 + 1 } }) k → is_idle body.phase ≡ false
checked_by None i k a body l at rules there is = cc
checked_by (Some b) i k a body l at rules there is = busy_by (is_idle b.body.phase) i k a b body l at refl rules there is

pub checkout_busy : (i k : ImageView) (a : ActorId) (c : ClaimView) → IsLawful i → first_of (checkout_rules i (slice_get (world i).actors a.0)) ≡ None → HasCheckedOut i a c k → is_idle c.before.phase ≡ false
checkout_busy i k a c l rules h =
    let body : is_idle h.body.phase ≡ false = checked_by (slice_get (world i).actors a.0) i k a h.body l refl rules h.there h.image in
    subst (λ (x : ClaimView). is_idle x.before.phase ≡ false) (sym h.claim) body

-- ---- the answer of a quantum

answered_some : (r : Result ℕ Refusal) (ran : Result Stop AllocError) (settled : Result ℕ Refusal) (limit : ℕ) (v : CachesView GuardView) (c : ClaimView) (w : CachesView GuardView) (d : ClaimView) (k j : ImageView) → 1 ≤ limit → is_idle c.before.phase ≡ false → IsSound d.actor d.edits d.before d.after d.steps d.sends → Runs floor_of limit v c ran w d → Settles k d settled j → IfOk (quantum_answer ran settled) (λ n. 1 ≤ n)
answered_some r (Ok stop) (Ok n) limit v c w d k j l busy sound runs settles = let some = some_steps floor_of limit v c stop w d l busy sound runs in omega (arith, some, settles.steps)
answered_some r (Ok stop) (Err e) limit v c w d k j l busy sound runs settles = tt
answered_some r (Err f) (Ok n) limit v c w d k j l busy sound runs settles = tt
answered_some r (Err f) (Err e) limit v c w d k j l busy sound runs settles = tt

-- a quantum of an actor that is in a turn, where memory was there, has a step
pub quantum_some : (r : Result ℕ Refusal) (ran : Result Stop AllocError) (settled : Result ℕ Refusal) (limit : ℕ) (v : CachesView GuardView) (c : ClaimView) (w : CachesView GuardView) (d : ClaimView) (k j : ImageView) → 1 ≤ limit → is_idle c.before.phase ≡ false → IsSound d.actor d.edits d.before d.after d.steps d.sends → Steps limit v c ran w d → Settles k d settled j → r ≡ quantum_answer ran settled → IfOk r (λ n. 1 ≤ n)
quantum_some r ran settled limit v c w d k j l busy sound steps settles is = subst (λ x. IfOk x (λ n. 1 ≤ n)) (sym is) (answered_some r ran settled limit steps.0 c w d k j l busy sound steps.2 settles)
