-- The image's step of an actor, by its parts.
use Rattle.std.proofs.Common.{arith, ◌≡◌, ℕ, ◌+◌, ◌<◌, ◌≤◌, List, Some, Result, Ok, Err, Bool, true, false, refl, ap, sym, ◌∙◌, subst, length, slice_get, option_and_then, is_some}
use Rattle.std.specs.Prelude.{All, IfOk, OnErr}
use Rattle.std.proofs.lemmas.Bool.Decides.{nat_tests}
use Rattle.std.proofs.lemmas.Option.{slice_get_within}
use Rattle.st_classes.specs.declared.values.ActorId.{ActorId}
use Rattle.st_classes.specs.declared.values.ClassId.{ClassId}
use Rattle.st_classes.specs.declared.values.Value.{Value}
use Rattle.st_classes.specs.declared.faults.Fault.{Fault}
use Rattle.st_classes.specs.declared.edits.Edit.{Edit}
use Rattle.st_classes.specs.Classes.{class_count, is_class}
use Rattle.st_turn.specs.declared.acts.Act.{Act}
use Rattle.st_turn.specs.declared.acts.Act.TheVariants.{Post, Close, Create}
use Rattle.st_turn.specs.declared.body.Body.{Body}
use Rattle.st_turn.specs.Steps.{Step, next as leads, ended, is_outer, outer, reply_body, step}
use Rattle.st_turn.specs.StepResults.{IsAct, act_in}
use Rattle.st_turn.specs.BodyFits.{FitsSome, Referents}
use Rattle.st_turn.specs.Idle.{is_idle}
use Rattle.st_turn.proofs.Keeping.{FitsStep}
use Rattle.st_turn.proofs.KeepingActs.{FitsAct}
use Rattle.st_image.specs.Worlds.{Constants, World, WorldActor, change_at}
use Rattle.st_image.specs.Replay.{ActResult, after_act, act_result, after_step, after_step_of, with_body}
use Rattle.st_image.specs.WorldInvariant.{given}
use Rattle.st_image.specs.ActorViews.{ActorView, Shows, actor_view, view_after_steps}
use Rattle.st_image.specs.ImageInvariant.{CanRun}
use Rattle.st_image.specs.ActResults.{Does, GrowsByOne, IsShown, NamesClasses, StandsBefore, constants_of}
use Rattle.st_image.proofs.NewestResults.{view_steps}
use Rattle.st_image.proofs.Changing.{All-change, within_back}
use Rattle.st_image.proofs.Showing.{being_at_kept, kept_at, shows_change}
use Rattle.st_image.proofs.Keeping.{being_at}
use Rattle.st_image.proofs.Lasting.{KeepsAct, act_keeps, fits_step, kernel_known, outer_busy}
use Rattle.st_image.proofs.Running.{fits_some}
use Rattle.st_image.proofs.Acts.{some_kept}

pub if_ok : {T E : Type 0} (P Q : T → Type 0) (r : Result T E) → ((t : T) → P t → Q t) → IfOk r P → IfOk r Q
if_ok P Q (Ok t) f h = f t h
if_ok P Q (Err e) f h = tt

-- ---- bodies that can run

-- the body of an actor that is kept can run
pub shown_runs : (names : List (List ℕ)) (capacity : ℕ) (edits : List Edit) (actors : List ActorView) (w : World) (a : ActorId) (k : ActorView) → IsShown names capacity edits actors w → slice_get actors a.0 ≡ Some k → CanRun edits a k.body
shown_runs names capacity edits actors w a k i at =
    let b = being_at_kept edits actors w a.0 k i.shows at in
    let body : b.0.body ≡ k.body = ap (λ (x : ActorView). x.body) b.2 in
    let runs : CanRun w.edits a b.0.body = (given names (length w.actors), i.world.lawful, i.world.suited, i.world.sound, kernel_known names i.world.constants.kernel, slice_get_within w.actors a.0 b.0 b.1, (being_at (constants_of names capacity) w a.0 b.0 i.world b.1).fits) in
    subst (λ (es : List Edit). CanRun es a k.body) (sym i.shows.edits_are) (subst (CanRun w.edits a) body runs)

-- an actor with a number is there
pub kept_there : (actors : List ActorView) (n : ℕ) → n < length actors → (k : ActorView) × (slice_get actors n ≡ Some k)
kept_there actors n h = within_back actors n (length actors) h refl

-- ---- what comes next

-- an act is next where one is seen
pub act_outer : (s : Step) (act : Act) → act_in s ≡ Some act → s ≡ outer act
act_outer (leads b) act e = cc
act_outer ended act e = cc
act_outer (outer x) act e = cc

-- the step that comes next, by what is kept
pub next_kept : (edits : List Edit) (actors : List ActorView) (w : World) (a : ActorId) (b : WorldActor) (k : ActorView) → Shows edits actors w → slice_get w.actors a.0 ≡ Some b → slice_get actors a.0 ≡ Some k → step w.edits a b.body ≡ step edits a k.body
next_kept edits actors w a b k s there at =
    let same : actor_view b ≡ k = some_kept (actor_view b) k (sym (kept_at edits actors w a.0 b s there) ∙ at) in
    ap (λ (es : List Edit). step es a b.body) (sym s.edits_are) ∙ ap (λ (x : ActorView). step edits a x.body) same

-- whether the image's step comes next
pub stands_by : (edits : List Edit) (actors : List ActorView) (w : World) (a : ActorId) (k : ActorView) (t : Bool) → Shows edits actors w → slice_get actors a.0 ≡ Some k → is_some (act_in (step edits a k.body)) ≡ t → StandsBefore a w t
stands_by edits actors w a k t s at e = λ b there. ap is_outer (next_kept edits actors w a b k s there at) ∙ e

-- ---- acts

names_class : (edits : List Edit) (g : Referents) (n : ℕ) (act : Act) → FitsAct g edits n act → NamesClasses edits act
names_class edits g n (Post to args) f = tt
names_class edits g n (Close to) f = tt
names_class edits g n (Create class) f = class_there edits class f
  where
    class_there : (es : List Edit) (c : ClassId) → c.0 < class_count es → is_class es c ≡ true
    class_there es c h = grind (arith, nat_tests)

-- an act that was done: the actor stands before it still, and can take its answer
pub record Performed (names : List (List ℕ)) (capacity : ℕ) (edits : List Edit) (middle : List ActorView) (a : ActorId) (w : World) (act : Act) (answer : Result Value Fault) : Type 0 where
  pub kept : ActorView
  pub there : slice_get middle a.0 ≡ Some kept
  pub runs : CanRun edits a kept.body
  pub next : step edits a kept.body ≡ outer act
  pub busy : is_idle kept.body.phase ≡ false
  pub shows : (after : List ActorView) → after ≡ change_at (view_after_steps (reply_body act answer kept.body)) a.0 middle → (v : World) × (after_step (constants_of names capacity) a w ≡ Some v) × Shows edits after v

pub performed : (names : List (List ℕ)) (capacity : ℕ) (edits : List Edit) (actors middle : List ActorView) (w : World) (a : ActorId) (k : ActorView) (act : Act) (answer : Result Value Fault) → IsShown names capacity edits actors w → slice_get actors a.0 ≡ Some k → act_in (step edits a k.body) ≡ Some act
    → Does edits middle (act_result (constants_of names capacity) a w act) answer → Performed names capacity edits middle a w act answer
performed names capacity edits actors middle w a k act answer i at is does =
    let c : Constants = constants_of names capacity in
    let d : ActResult = act_result c a w act in
    let b = being_at_kept edits actors w a.0 k i.shows at in
    let e : step w.edits a b.0.body ≡ outer act = next_kept edits actors w a b.0 k i.shows b.1 at ∙ act_outer (step edits a k.body) act is in
    let fits = subst (FitsStep (given names (length w.actors)) w.edits b.0.body) e (fits_step c w a b.0 i.world b.1) in
    let keeps : KeepsAct c w d = act_keeps c a w (length b.0.body.objects) act i.world fits.0 in
    let shown : IsShown names capacity edits middle d.world = record { shows = does.0; world = keeps.keeps.world } in
    let x = keeps.bodies.bodies a.0 b.0 b.1 in
    let there : slice_get middle a.0 ≡ Some (actor_view x.0) = kept_at edits middle d.world a.0 x.0 does.0 x.1 in
    let e' : step edits a x.0.body ≡ outer act = ap (step edits a) x.2 ∙ ap (λ (es : List Edit). step es a b.0.body) i.shows.edits_are ∙ e in
    record {
      kept = actor_view x.0;
      there = there;
      runs = shown_runs names capacity edits middle d.world a (actor_view x.0) shown there;
      next = e';
      busy = outer_busy edits a x.0.body.objects x.0.body.phase act e';
      shows = λ after put.
          let go : after_step c a w ≡ Some (after_act a act d) = ap (option_and_then (λ (y : WorldActor). after_step_of c a w (step w.edits a y.body))) b.1 ∙ ap (after_step_of c a w) e in (
            after_act a act d,
            go,
            shows_change edits middle after d.world a (λ (y : WorldActor). with_body (reply_body act d.answer y.body) y) (view_after_steps (reply_body act answer x.0.body)) does.0 (λ y at'.
                let same : x.0 ≡ y = some_being x.0 y (sym x.1 ∙ at') in
                subst (λ (z : WorldActor). actor_view (with_body (reply_body act d.answer z.body) z) ≡ view_after_steps (reply_body act answer x.0.body) (actor_view z)) same (view_steps (reply_body act d.answer x.0.body) x.0 ∙ ap (λ (r : Result Value Fault). view_after_steps (reply_body act r x.0.body) (actor_view x.0)) does.1)) put,
          );
    }
  where
    some_being : (j k : WorldActor) → Some j ≡ Some k → j ≡ k
    some_being j k e = cc

-- the class that the next act names is there
pub next_names : (names : List (List ℕ)) (capacity : ℕ) (edits : List Edit) (actors : List ActorView) (w : World) (a : ActorId) (k : ActorView) (act : Act) → IsShown names capacity edits actors w → slice_get actors a.0 ≡ Some k → act_in (step edits a k.body) ≡ Some act → NamesClasses edits act
next_names names capacity edits actors w a k act i at is =
    let c : Constants = constants_of names capacity in
    let b = being_at_kept edits actors w a.0 k i.shows at in
    let e : step w.edits a b.0.body ≡ outer act = next_kept edits actors w a b.0 k i.shows b.1 at ∙ act_outer (step edits a k.body) act is in
    let fits = subst (FitsStep (given names (length w.actors)) w.edits b.0.body) e (fits_step c w a b.0 i.world b.1) in
    subst (λ (es : List Edit). NamesClasses es act) (sym i.shows.edits_are) (names_class w.edits (given names (length w.actors)) (length b.0.body.objects) act fits.0)

-- ---- what a caller sees

pub on_err : {T E : Type 0} (r : Result T E) (P : Type 0) → P → OnErr r P
on_err (Ok t) P p = tt
on_err (Err e) P p = p

-- the mailboxes after the step
pub stepped_grows : (actors middle after : List ActorView) (body : Body) (a : ℕ) → GrowsByOne actors middle → after ≡ change_at (view_after_steps body) a middle → GrowsByOne actors after
stepped_grows actors middle after body a grown put = λ bound h. subst (All (λ (k : ActorView). k.accepted ≤ bound + 1)) (sym put) (All-change (λ (k : ActorView). k.accepted ≤ bound + 1) (view_after_steps body) a middle (λ k at l. l) (grown bound h))

same_kept : (middle : List ActorView) (n : ℕ) (j k : ActorView) → slice_get middle n ≡ Some j → slice_get middle n ≡ Some k → j ≡ k
same_kept middle n j k e f = some_kept j k (sym e ∙ f)

pub performed_fits : (names : List (List ℕ)) (capacity : ℕ) (edits : List Edit) (middle : List ActorView) (a : ActorId) (w : World) (act : Act) (answer : Result Value Fault) → Performed names capacity edits middle a w act answer → (k : ActorView) → slice_get middle a.0 ≡ Some k → FitsSome edits a k.body
performed_fits names capacity edits middle a w act answer p k at = subst (λ (x : ActorView). FitsSome edits a x.body) (same_kept middle a.0 p.kept k p.there at) (fits_some edits a p.kept.body p.runs)

pub performed_busy : (names : List (List ℕ)) (capacity : ℕ) (edits : List Edit) (middle : List ActorView) (a : ActorId) (w : World) (act : Act) (answer : Result Value Fault) → Performed names capacity edits middle a w act answer → (k : ActorView) → slice_get middle a.0 ≡ Some k → is_idle k.body.phase ≡ false
performed_busy names capacity edits middle a w act answer p k at = subst (λ (x : ActorView). is_idle x.body.phase ≡ false) (same_kept middle a.0 p.kept k p.there at) p.busy

-- its step is still the image's
pub performed_next : (names : List (List ℕ)) (capacity : ℕ) (edits : List Edit) (middle : List ActorView) (a : ActorId) (w : World) (act : Act) (answer : Result Value Fault) → Performed names capacity edits middle a w act answer → (k : ActorView) → slice_get middle a.0 ≡ Some k → IsAct (step edits a k.body)
performed_next names capacity edits middle a w act answer p k at = subst (λ (x : ActorView). IsAct (step edits a x.body)) (same_kept middle a.0 p.kept k p.there at) (act, p.next)

-- the answer is given
pub performed_given : (names : List (List ℕ)) (capacity : ℕ) (edits : List Edit) (middle after : List ActorView) (a : ActorId) (w : World) (act : Act) (answer : Result Value Fault) → Performed names capacity edits middle a w act answer → ((k : ActorView) (x : Act) → slice_get middle a.0 ≡ Some k → step edits a k.body ≡ outer x → after ≡ change_at (view_after_steps (reply_body x answer k.body)) a.0 middle) → (v : World) × (after_step (constants_of names capacity) a w ≡ Some v) × Shows edits after v
performed_given names capacity edits middle after a w act answer p f = p.shows after (f p.kept act p.there p.next)

pub performed_grows : (names : List (List ℕ)) (capacity : ℕ) (edits : List Edit) (actors middle after : List ActorView) (a : ActorId) (w : World) (act : Act) (answer : Result Value Fault) → Performed names capacity edits middle a w act answer → GrowsByOne actors middle → ((k : ActorView) (x : Act) → slice_get middle a.0 ≡ Some k → step edits a k.body ≡ outer x → after ≡ change_at (view_after_steps (reply_body x answer k.body)) a.0 middle) → GrowsByOne actors after
performed_grows names capacity edits actors middle after a w act answer p grown f = stepped_grows actors middle after (reply_body act answer p.kept.body) a.0 grown (f p.kept act p.there p.next)
