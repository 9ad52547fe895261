-- Each step in a history has run what the walk finds at its place.
use Rattle.std.proofs.Common.{arith, ◌≡◌, ℕ, zero, suc, ◌+◌, ◌-◌, ◌<◌, ◌++◌, [], ◌∷◌, List, Option, Some, None, Bool, true, false, ◌==◌, refl, ap, sym, ◌∙◌, subst, slice_get, option_and_then, append_assoc, eqb-true, take}
use Rattle.std.specs.Prelude.{MatchOption}
use Rattle.std.specs.Option.{option_map}
use Rattle.std.proofs.lemmas.Bool.{and_parts}
use Rattle.st_classes.specs.declared.values.ClassId.{ClassId}
use Rattle.st_classes.specs.declared.values.ActorId.{ActorId}
use Rattle.st_classes.specs.declared.values.Selector.{Selector}
use Rattle.st_classes.specs.declared.values.Value.{Value}
use Rattle.st_classes.specs.declared.values.Value.TheVariants.{Int, Bool as Boolean, Nil, Sym, Class, Actor, Local}
use Rattle.st_classes.specs.declared.instructions.Instruction.{Instruction}
use Rattle.st_classes.specs.declared.instructions.Instruction.TheVariants.{Send, SuperSend}
use Rattle.st_classes.specs.declared.methods.MethodParts.{MethodParts}
use Rattle.st_classes.specs.declared.edits.Edit.{Edit}
use Rattle.st_classes.specs.declared.edits.Edit.TheVariants.{Define, Install, Remove, Reparent}
use Rattle.st_classes.specs.declared.kernel.Kernel.{Kernel}
use Rattle.st_classes.specs.declared.kernel.Found.{Found}
use Rattle.st_classes.specs.declared.kernel.Found.TheVariants.{Kernel as FoundKernel}
use Rattle.st_classes.specs.declared.kernel.Target.{Target}
use Rattle.st_classes.specs.declared.kernel.Target.TheVariants.{Primitive}
use Rattle.st_classes.specs.Refusals.{first_of}
use Rattle.st_classes.specs.Kernel.{actor_method, class_method, kernel_method}
use Rattle.st_classes.specs.Classes.{chain, classes, chain_of, parent_in}
use Rattle.st_classes.specs.EditRules.{edit_rules}
use Rattle.st_classes.specs.EditLists.{AreLawful, method_at}
use Rattle.st_classes.specs.Walks.{decided, first_own, is_at, or_else, or_missing, own, own_from, super_target, target}
use Rattle.st_classes.specs.LookupLaws.{IsTarget, decides}
use Rattle.st_classes.proofs.Accepted.{install_kernel, remove_install}
use Rattle.st_classes.proofs.LawLists.{slice_get_kept}
use Rattle.st_classes.proofs.LawLookup.{same_class, same_selector, target_stands}
use Rattle.st_turn.specs.declared.acts.Act.{Act}
use Rattle.st_turn.specs.declared.body.Body.{Body}
use Rattle.st_turn.specs.declared.body.Object.{Object}
use Rattle.st_turn.specs.declared.body.Phase.{Phase}
use Rattle.st_turn.specs.declared.body.Phase.TheVariants.{Fresh, Start, Frames, Done}
use Rattle.st_turn.specs.FrameViews.{FramesView}
use Rattle.st_turn.specs.Objects.{class_in}
use Rattle.st_turn.specs.Steps.{Asked, next as leads, act_of, act_or, actor_act, arguments, asked_by, asked_in, class_act, dispatch_body, instruction_step, frames_step, receiver_below, send_body, step, step_in}
use Rattle.st_image.specs.declared.history.Item.{Item}
use Rattle.st_image.specs.declared.history.Item.TheVariants.{Ran}
use Rattle.st_image.specs.Worlds.{Constants, World, WorldActor, change}
use Rattle.st_image.specs.Replay.{Trail, act_result, after_act, after_run, after_step, after_step_of, next, replay, trail_after, with_body}
use Rattle.st_image.specs.ActResults.{world_after}
use Rattle.st_image.specs.Images.{ImageView, constants, world}
use Rattle.st_image.specs.WorldInvariant.{IsLawful}
use Rattle.st_image.specs.SentMessages.{Sending, frame_message, instruction_message, message_in, sent_key, turn_message}
use Rattle.st_image.specs.RanTargets.{EachStepRan, HasRun, RunsAct, RunsMessage, RunsTarget, asks_of, edits_among}
use Rattle.st_image.proofs.Stepping.{after_then, bound, cond_some, ran_after, steps_after}
use Rattle.st_image.proofs.Replays.{replay_append}
use Rattle.st_image.proofs.GrowingEdits.{among_append, replay_edits, steps_edits}
use Rattle.std.specs.Prelude.{nat_lt}

some_same : {X : Type 0} (x y : X) → Some x ≡ Some y → x ≡ y
some_same x y e = cc

-- ---- the kernel's methods stay

-- each edit was accepted at some table
abbrev WereAccepted : List Edit → Type 0
WereAccepted es = (place : ℕ) (e : Edit) → slice_get es place ≡ Some e → (at : List Edit) × (first_of (edit_rules at e) ≡ None)

were_accepted : (es more : List Edit) → AreLawful (es ++ more) → WereAccepted es
were_accepted es more l place e at = (take place (es ++ more), l place e (slice_get_kept es more place e at))

not_true : (b : Bool) → (b ≡ true → ⊥) → b ≡ false
not_true true h = absurd (h refl)
not_true false h = refl

not_here : (c d : ClassId) (s t : Selector) (k : Kernel) → kernel_method c s ≡ Some k → kernel_method d t ≡ None → is_at d t c s ≡ true → ⊥
not_here c d s t k there none h =
    let both = and_parts (d.0 == c.0) (t.0 == s.0) h in
    let class : d ≡ c = same_class d c (eqb-true d.0 c.0 both.0) in
    let name : t ≡ s = same_selector t s (eqb-true t.0 s.0 both.1) in
    let moved : kernel_method c s ≡ None = subst (λ (x : ClassId). kernel_method x s ≡ None) class (subst (λ (x : Selector). kernel_method d x ≡ None) name none) in
    let no : Some k ≡ None = sym there ∙ moved in
    cc

leaves : (e : Edit) (at : List Edit) (c : ClassId) (s : Selector) (k : Kernel) → kernel_method c s ≡ Some k → first_of (edit_rules at e) ≡ None → decides e c s ≡ false
leaves (Define name parent slots) at c s k there h = refl
leaves (Install d m) at c s k there h = not_true (is_at d m.selector c s) (not_here c d s m.selector k there (install_kernel at d m.selector h))
leaves (Remove d t) at c s k there h = not_true (is_at d t c s) (not_here c d s t k there (install_kernel at d t (remove_install at d t h)))
leaves (Reparent d p) at c s k there h = refl

left_alone : (e : Edit) (place : ℕ) (found : Option Found) (c : ClassId) (s : Selector) → decides e c s ≡ false → decided e place found c s ≡ found
left_alone (Define name up added) place found c s h = refl
left_alone (Install d m) place found c s h = rw h
left_alone (Remove d t) place found c s h = rw h
left_alone (Reparent d p) place found c s h = refl

own_stays : (es : List Edit) (place : ℕ) (found : Option Found) (c : ClassId) (s : Selector) (k : Kernel) → kernel_method c s ≡ Some k → WereAccepted es → own_from place found es c s ≡ found
own_stays [] place found c s k there h = refl
own_stays (e ∷ es) place found c s k there h =
    let here = h zero e refl in
    own_stays es (place + 1) (decided e place found c s) c s k there (λ n d at. h (suc n) d at)
    ∙ left_alone e place found c s (leaves e here.0 c s k there here.1)

own_kernel : (es : List Edit) (c : ClassId) (s : Selector) (k : Kernel) → kernel_method c s ≡ Some k → WereAccepted es → own es c s ≡ Some (FoundKernel k)
own_kernel es c s k there h = own_stays es 0 (option_map FoundKernel (kernel_method c s)) c s k there h ∙ ap (option_map FoundKernel) there

target_kernel : (es : List Edit) (c : ClassId) (s : Selector) (k : Kernel) → kernel_method c s ≡ Some k → WereAccepted es → target es c s ≡ Primitive k
target_kernel es c s k there h = ap (λ (o : Option Found). or_missing es c (or_else o (first_own es (chain_of (classes es) 63 (parent_in (classes es) c)) s))) (own_kernel es c s k there h)

-- ---- what asks for an act is a method of the kernel

asks_kernel : (objects : List Object) (v : Value) (s : Selector) (args : List Value) (act : Act) → act_of v s args ≡ Some act → (k : Kernel) × (kernel_method (class_in objects v) s ≡ Some k) × (asks_of v args k ≡ Some act)
asks_kernel objects (Actor a) s args act e = let p = bound (actor_act a args) (actor_method s.0) act e in p
asks_kernel objects (Class c) s [] act e = let p = bound (class_act c) (class_method s.0) act e in p
asks_kernel objects (Class c) s (x ∷ xs) act e = cc
asks_kernel objects (Int z) s args act e = cc
asks_kernel objects (Boolean b) s args act e = cc
asks_kernel objects Nil s args act e = cc
asks_kernel objects (Sym t) s args act e = cc
asks_kernel objects (Local n) s args act e = cc

-- ---- a step that sends

abbrev body_of : List Object → Phase → Body
body_of objects phase = record { objects = objects; phase = phase }

went_to : (c : Constants) (a : ActorId) (w v : World) (body : Body) → after_step_of c a w (leads body) ≡ Some v → v ≡ change (with_body body) a w
went_to c a w v body e = sym (some_same (change (with_body body) a w) v e)

-- a send, by whether it asks for an act
ran_send : (c : Constants) (a : ActorId) (w v : World) (objects : List Object) (fs : FramesView) (m : MethodParts) (s : Selector) (n : ℕ) (o : Option Act)
    → WereAccepted w.edits → act_of (receiver_below n fs.running.operands) s (arguments n fs.running.operands) ≡ o
    → after_step_of c a w (act_or o (leads (send_body w.edits objects m fs false s n))) ≡ Some v
    → MatchOption o (RunsTarget a (body_of objects (Frames fs)) (frame_message m objects fs false s n) w v) (λ act. RunsAct c a (body_of objects (Frames fs)) (frame_message m objects fs false s n) act w v)
ran_send c a w v objects fs m s n None l h e = record {
  target = target w.edits (class_in objects (receiver_below n fs.running.operands)) s;
  found = target_stands.send w.edits (class_in objects (receiver_below n fs.running.operands)) s;
  ran = went_to c a w v (send_body w.edits objects m fs false s n) e;
}
ran_send c a w v objects fs m s n (Some act) l h e =
    let class : ClassId = class_in objects (receiver_below n fs.running.operands) in
    let p = asks_kernel objects (receiver_below n fs.running.operands) s (arguments n fs.running.operands) act h in
    record {
      kernel = p.0;
      found = subst (λ (t : Target). IsTarget w.edits class (chain w.edits class) s t) (target_kernel w.edits class s p.0 p.1 l) (target_stands.send w.edits class s);
      asks = p.2;
      ran = sym (some_same (after_act a act (act_result c a w act)) v e);
    }

-- a super send
ran_super : (c : Constants) (a : ActorId) (w v : World) (objects : List Object) (fs : FramesView) (m : MethodParts) (s : Selector) (n : ℕ)
    → after_step_of c a w (leads (send_body w.edits objects m fs true s n)) ≡ Some v
    → RunsTarget a (body_of objects (Frames fs)) (frame_message m objects fs true s n) w v
ran_super c a w v objects fs m s n e = record {
  target = super_target w.edits m.holder (class_in objects fs.running.receiver) s;
  found = target_stands.super_send w.edits m.holder (class_in objects fs.running.receiver) s;
  ran = went_to c a w v (send_body w.edits objects m fs true s n) e;
}

-- the dispatch of a turn
ran_dispatch : (c : Constants) (a : ActorId) (w v : World) (objects : List Object) (s : Selector) (args : List Value)
    → after_step_of c a w (leads (dispatch_body w.edits objects s args)) ≡ Some v
    → RunsTarget a (body_of objects (Start s args)) (turn_message objects s args) w v
ran_dispatch c a w v objects s args e = record {
  target = target w.edits (class_in objects (Local 0)) s;
  found = target_stands.send w.edits (class_in objects (Local 0)) s;
  ran = went_to c a w v (dispatch_body w.edits objects s args) e;
}

ran_instruction : (c : Constants) (a : ActorId) (w v : World) (objects : List Object) (fs : FramesView) (m : MethodParts) (o : Option Instruction) (x : Sending)
    → WereAccepted w.edits → after_step_of c a w (instruction_step w.edits a objects fs m o) ≡ Some v → instruction_message m objects fs o ≡ Some x
    → RunsMessage c a (body_of objects (Frames fs)) w v x
ran_instruction c a w v objects fs m (Some (Send s n)) x l e h =
    subst (λ (y : Sending). RunsMessage c a (body_of objects (Frames fs)) w v y) (some_same (frame_message m objects fs false s n) x h)
    (ran_send c a w v objects fs m s n (act_of (receiver_below n fs.running.operands) s (arguments n fs.running.operands)) l refl e)
ran_instruction c a w v objects fs m (Some (SuperSend s n)) x l e h =
    subst (λ (y : Sending). RunsMessage c a (body_of objects (Frames fs)) w v y) (some_same (frame_message m objects fs true s n) x h)
    (ran_super c a w v objects fs m s n e)
ran_instruction c a w v objects fs m o x l e h = cc

ran_phase : (c : Constants) (a : ActorId) (w v : World) (objects : List Object) (phase : Phase) (x : Sending)
    → WereAccepted w.edits → after_step_of c a w (step_in w.edits a objects phase) ≡ Some v → message_in w.edits objects phase ≡ Some x
    → RunsMessage c a (body_of objects phase) w v x
ran_phase c a w v objects Fresh x l e h = cc
ran_phase c a w v objects (Done outcome) x l e h = cc
ran_phase c a w v objects (Start s args) x l e h =
    subst (λ (y : Sending). RunsMessage c a (body_of objects (Start s args)) w v y) (some_same (turn_message objects s args) x h)
    (ran_dispatch c a w v objects s args e)
ran_phase c a w v objects (Frames fs) x l e h =
    let p = bound (λ (m : MethodParts). instruction_message m objects fs (slice_get m.code fs.running.pc)) (method_at w.edits fs.running.method) x h in
    let taken : after_step_of c a w (instruction_step w.edits a objects fs p.0 (slice_get p.0.code fs.running.pc)) ≡ Some v = ap (λ (o : Option MethodParts). after_step_of c a w (frames_step w.edits a objects fs o)) (sym p.1) ∙ e in
    ran_instruction c a w v objects fs p.0 (slice_get p.0.code fs.running.pc) x l taken p.2

-- ---- what a step looks up

keys_instruction : (edits : List Edit) (objects : List Object) (fs : FramesView) (m : MethodParts) (o : Option Instruction) → option_map (λ (q : Asked). q.key) (asked_by m objects fs.running o) ≡ option_map (sent_key (body_of objects (Frames fs))) (instruction_message m objects fs o)
keys_instruction edits objects fs m (Some (Send s n)) = refl
keys_instruction edits objects fs m (Some (SuperSend s n)) = refl
keys_instruction edits objects fs m o = refl

keys_frames : (edits : List Edit) (objects : List Object) (fs : FramesView) (o : Option MethodParts) → option_map (λ (q : Asked). q.key) (option_and_then (λ (m : MethodParts). asked_by m objects fs.running (slice_get m.code fs.running.pc)) o) ≡ option_map (sent_key (body_of objects (Frames fs))) (option_and_then (λ (m : MethodParts). instruction_message m objects fs (slice_get m.code fs.running.pc)) o)
keys_frames edits objects fs None = refl
keys_frames edits objects fs (Some m) = keys_instruction edits objects fs m (slice_get m.code fs.running.pc)

keys_phase : (edits : List Edit) (objects : List Object) (phase : Phase) → option_map (λ (q : Asked). q.key) (asked_in edits objects phase) ≡ option_map (sent_key (body_of objects phase)) (message_in edits objects phase)
keys_phase edits objects Fresh = refl
keys_phase edits objects (Done outcome) = refl
keys_phase edits objects (Start s args) = refl
keys_phase edits objects (Frames fs) = keys_frames edits objects fs (method_at edits fs.running.method)

-- ---- a step of a history

-- a run of an actor, cut at one of its steps
record Cut (c : Constants) (a : ActorId) (place : ℕ) (start : World) : Type 0 where
  pub w : World
  pub v : World
  pub comes : world_after c a place start ≡ Some w
  pub step : after_step c a w ≡ Some v

cut_after : (c : Constants) (a : ActorId) (place more : ℕ) (start last : World) → world_after c a (place + suc more) start ≡ Some last → Cut c a place start
cut_after c a place more start last e =
    let p = bound (world_after c a (suc more)) (world_after c a place start) last (after_then c a place (suc more) start ∙ e) in
    let q = bound (world_after c a more) (after_step c a p.0) last p.2 in
    record { w = p.0; v = q.0; comes = p.1; step = q.1 }

cut_run : (c : Constants) (a : ActorId) (n place : ℕ) (start last : World) → place < n → after_run c start a n ≡ Some last → Cut c a place start
cut_run c a n place start last within e =
    let whole : world_after c a n start ≡ Some last = (cond_some (nat_lt 0 n) (world_after c a n start) last (sym (ran_after c start a n) ∙ e)).1 in
    let parts : n ≡ place + suc (n - place - 1) = omega (arith, within) in
    cut_after c a place (n - place - 1) start last (subst (λ (k : ℕ). world_after c a k start ≡ Some last) parts whole)

trail_comes : (c : Constants) (a : ActorId) (place : ℕ) (start w : World) → world_after c a place start ≡ Some w → option_map (λ (t : Trail). t.world) (trail_after c a place (record { world = start; asked = [] })) ≡ Some w
trail_comes c a place start w e = steps_after c a place (record { world = start; asked = [] }) ∙ e

has_run : (i : ImageView) (before rest : List Item) (a : ActorId) (start w v : World) (b : WorldActor) → slice_get w.actors a.0 ≡ Some b → w.edits ≡ i.base.edits ++ edits_among before → AreLawful (w.edits ++ edits_among rest) → after_step_of (constants i) a w (step w.edits a b.body) ≡ Some v → HasRun i before a w v
has_run i before rest a start w v b at table l e = record {
  actor = b;
  there = at;
  table = table;
  keys = keys_phase w.edits b.body.objects b.body.phase;
  runs = λ x h. ran_phase (constants i) a w v b.body.objects b.body.phase x (were_accepted w.edits (edits_among rest) l) e h;
}

pub each_step_ran : (i : ImageView) → IsLawful i → EachStepRan i
each_step_ran i lawful before later a n place is within =
    let c : Constants = constants i in
    let rest : List Item = Ran a n ∷ later in
    let whole : replay c i.base (before ++ rest) ≡ Some (world i) = ap (replay c i.base) (sym is) ∙ lawful.lawful in
    let p = bound (λ (u : World). replay c u rest) (replay c i.base before) (world i) (sym (replay_append c i.base before rest) ∙ whole) in
    let start : World = p.0 in
    let q = bound (λ (u : World). replay c u later) (next c start (Ran a n)) (world i) p.2 in
    let k = cut_run c a n place start q.0 within q.1 in
    let o = bound (λ (b : WorldActor). after_step_of c a k.w (step k.w.edits a b.body)) (slice_get k.w.actors a.0) k.v k.step in
    let same : k.w.edits ≡ start.edits = steps_edits c a place start k.w k.comes in
    let table : k.w.edits ≡ i.base.edits ++ edits_among before = same ∙ replay_edits c i.base start before p.1 in
    let longer : (world i).edits ≡ k.w.edits ++ edits_among rest = replay_edits c i.base (world i) (before ++ rest) whole ∙ ap (λ es. i.base.edits ++ es) (among_append before rest) ∙ sym (append_assoc i.base.edits (edits_among before) (edits_among rest)) ∙ ap (λ es. es ++ edits_among rest) (sym table) in
    let accepted : AreLawful (k.w.edits ++ edits_among rest) = subst AreLawful longer lawful.standing.lawful in (
      k.w,
      k.v,
      record { start = start; begins = p.1; comes = trail_comes c a place start k.w k.comes; step = k.step },
      has_run i before rest a start k.w k.v o.0 o.1 table accepted o.2,
    )
