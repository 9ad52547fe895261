-- Steps lead worlds that show the same parts to such worlds.
use Rattle.std.proofs.Common.{◌≡◌, ◌+◌, ◌-◌, ◌^◌, ℕ, zero, suc, List, [], ◌∷◌, Bool, true, false, cond, Option, Some, None, option_map, option_and_then, length, slice_get, refl, sym, ap, subst, ◌∙◌}
use Rattle.std.specs.Prelude.{Result, Ok, not, nat_le, nat_lt}
use Rattle.std.specs.List.{list_any}
use Rattle.std.proofs.lemmas.Option.{same_Some}
use Rattle.st_classes.specs.declared.values.ActorId.{ActorId}
use Rattle.st_classes.specs.declared.values.ClassId.{ClassId}
use Rattle.st_classes.specs.declared.values.Selector.{Selector}
use Rattle.st_classes.specs.declared.values.Value.{Value}
use Rattle.st_classes.specs.declared.values.Value.TheVariants.{Int, Bool as Boolean, Nil, Sym, Class, Actor as Reference, Local}
use Rattle.st_classes.specs.declared.edits.Edit.{Edit}
use Rattle.st_classes.specs.declared.faults.Fault.{Fault}
use Rattle.st_classes.specs.declared.faults.Fault.TheVariants.{BadArgument, LocalArgument, TooManyActors}
use Rattle.st_classes.specs.EditRules.{is_value_class}
use Rattle.st_classes.specs.MethodSuits.{arity_at, is_number}
use Rattle.st_turn.specs.declared.acts.Act.{Act}
use Rattle.st_turn.specs.declared.acts.Act.TheVariants.{Post, Close, Create}
use Rattle.st_turn.specs.declared.body.Body.{Body}
use Rattle.st_turn.specs.Steps.{Step, next as leads, ended, outer, reply_body, step}
use Rattle.st_mailbox.specs.declared.messages.Sender.TheVariants.{Actor as Acting}
use Rattle.st_image.specs.declared.actor_part.ActorPart.{ActorPart}
use Rattle.st_image.specs.ActResults.{world_after}
use Rattle.st_image.specs.Parts.{part_of}
use Rattle.st_image.specs.Replay.{ActResult, act_result, after_close, after_post, after_post_by, after_run, after_step, after_step_of, attempted_act, create_result, failed_act, is_local, post_result, with_body, with_new}
use Rattle.st_image.specs.Worlds.{Constants, World, WorldActor}
use Rattle.st_image.proofs.Stepping.{ran_after}
use Rattle.st_journal.proofs.AlikeWorlds.{Alike, Alikes, Changes, as_many, at_parts, change_alike, then_alike}
use Rattle.st_journal.proofs.AlikeItems.{closed_alike, new_alike, posted_alike}

-- ---- acts

-- acts with one answer, that leave worlds alike
record ActsAlike (d e : ActResult) : Type 0 where
  world : Alike d.world e.world
  answer : d.answer ≡ e.answer

failed_alike : (v w : World) (f : Fault) → Alike v w → ActsAlike (failed_act v f) (failed_act w f)
failed_alike v w f al = record { world = al; answer = refl }

attempted_alike : (v w : World) (o p : Option World) → Alike v w → Alikes o p → ActsAlike (attempted_act v o) (attempted_act w p)
attempted_alike v w None None al h = record { world = al; answer = refl }
attempted_alike v w None (Some y) al h = absurd h
attempted_alike v w (Some x) None al h = absurd h
attempted_alike v w (Some x) (Some y) al h = record { world = h; answer = refl }

either_alike : (b : Bool) (d e x y : ActResult) → ActsAlike d x → ActsAlike e y → ActsAlike (cond b d e) (cond b x y)
either_alike true d e x y h k = h
either_alike false d e x y h k = k

if_there : (b : Bool) (o p : Option World) → Alikes o p → Alikes (cond b o None) (cond b p None)
if_there true o p h = h
if_there false o p h = tt

-- a post with the number after this one
abbrev numbered : Constants → ActorId → Selector → List Value → ActorId → World → ℕ → Option World
numbered c to s args a w n =
    cond (nat_lt n (2 ^ 64 - 1)) (after_post c w to (record { sender = Acting a; seq = n + 1; selector = s; args = args })) None

numbered_alike : (c : Constants) (to : ActorId) (s : Selector) (args : List Value) (a : ActorId) (v w : World) (n : ℕ) → Alike v w → Alikes (numbered c to s args a v n) (numbered c to s args a w n)
numbered_alike c to s args a v w n al =
    if_there (nat_lt n (2 ^ 64 - 1)) _ _ (posted_alike c v w to (record { sender = Acting a; seq = n + 1; selector = s; args = args }) al)

by_alike : (c : Constants) (to : ActorId) (s : Selector) (args : List Value) (a : ActorId) (v w : World) (o p : Option WorldActor) → Alike v w → option_map part_of o ≡ option_map part_of p → Alikes (after_post_by c to s args a v o) (after_post_by c to s args a w p)
by_alike c to s args a v w None None al same = tt
by_alike c to s args a v w None (Some d) al same = absurd (cc same)
by_alike c to s args a v w (Some b) None al same = absurd (cc same)
by_alike c to s args a v w (Some b) (Some d) al same =
    let last : b.last ≡ d.last = ap (λ (p : ActorPart). p.last) (same_Some (part_of b) (part_of d) same) in
    subst (λ (n : ℕ). Alikes (numbered c to s args a v b.last) (numbered c to s args a w n)) last (numbered_alike c to s args a v w b.last al)

post_alike : (c : Constants) (to : ActorId) (s : Selector) (args : List Value) (a : ActorId) (v w : World) → Alike v w → ActsAlike (post_result c to s args a v) (post_result c to s args a w)
post_alike c to s args a v w al =
    let o : Option World = after_post_by c to s args a v (slice_get v.actors a.0) in
    let p : Option World = after_post_by c to s args a w (slice_get w.actors a.0) in
    either_alike (not (is_number (arity_at c.names s) (length args))) (failed_act v BadArgument) (cond (list_any is_local args) (failed_act v LocalArgument) (attempted_act v o)) (failed_act w BadArgument) (cond (list_any is_local args) (failed_act w LocalArgument) (attempted_act w p))
    (failed_alike v w BadArgument al)
    (either_alike (list_any is_local args) (failed_act v LocalArgument) (attempted_act v o) (failed_act w LocalArgument) (attempted_act w p)
    (failed_alike v w LocalArgument al)
    (attempted_alike v w o p al (by_alike c to s args a v w (slice_get v.actors a.0) (slice_get w.actors a.0) al (at_parts v w a.0 al))))

-- a new actor, where there are this many
abbrev made : Constants → ClassId → World → ℕ → ActResult
made c class w n = record { world = with_new c class w; answer = Ok (Reference (record { 0 = n })) }

abbrev made_if : Constants → ClassId → World → ℕ → ActResult
made_if c class w n = cond (nat_le 65536 n) (failed_act w TooManyActors) (made c class w n)

create_alike : (c : Constants) (class : ClassId) (v w : World) → Alike v w → ActsAlike (create_result c class v) (create_result c class w)
create_alike c class v w al =
    let n : ℕ = length v.actors in
    let some : ActsAlike (made_if c class v n) (made_if c class w n) =
    either_alike (nat_le 65536 n) (failed_act v TooManyActors) (made c class v n) (failed_act w TooManyActors) (made c class w n) (failed_alike v w TooManyActors al) (record { world = new_alike c v w class al; answer = refl }) in
    subst (λ (k : ℕ). ActsAlike (cond (is_value_class class) (failed_act v BadArgument) (made_if c class v n)) (cond (is_value_class class) (failed_act w BadArgument) (made_if c class w k))) (as_many v w al)
    (either_alike (is_value_class class) (failed_act v BadArgument) (made_if c class v n) (failed_act w BadArgument) (made_if c class w n) (failed_alike v w BadArgument al) some)

act_alike : (c : Constants) (a : ActorId) (v w : World) (act : Act) → Alike v w → ActsAlike (act_result c a v act) (act_result c a w act)
act_alike c a v w (Post to (Sym s ∷ args)) al = post_alike c to s args a v w al
act_alike c a v w (Post to []) al = failed_alike v w BadArgument al
act_alike c a v w (Post to (Int z ∷ args)) al = failed_alike v w BadArgument al
act_alike c a v w (Post to (Boolean b ∷ args)) al = failed_alike v w BadArgument al
act_alike c a v w (Post to (Nil ∷ args)) al = failed_alike v w BadArgument al
act_alike c a v w (Post to (Class d ∷ args)) al = failed_alike v w BadArgument al
act_alike c a v w (Post to (Reference d ∷ args)) al = failed_alike v w BadArgument al
act_alike c a v w (Post to (Local n ∷ args)) al = failed_alike v w BadArgument al
act_alike c a v w (Close to) al = attempted_alike v w (after_close v to) (after_close w to) al (closed_alike v w to al)
act_alike c a v w (Create class) al = create_alike c class v w al

-- ---- a step

stepping : (w : World) (a : ActorId) (body : Body) → Changes w a (with_body body) (λ p. record p { body = body })
stepping w a body = record { part = λ b at few. refl; few = λ b at few. few }

replying : (w : World) (a : ActorId) (act : Act) (answer other : Result Value Fault) → other ≡ answer → Changes w a (λ b. with_body (reply_body act other b.body) b) (λ p. record p { body = reply_body act answer p.body })
replying w a act answer other same = record {
  part = λ b at few. ap (λ (r : Result Value Fault). record (part_of b) { body = reply_body act r b.body }) same;
  few = λ b at few. few;
}

taken_alike : (c : Constants) (a : ActorId) (v w : World) (s : Step) → Alike v w → Alikes (after_step_of c a v s) (after_step_of c a w s)
taken_alike c a v w (leads body) al = change_alike v w a _ _ _ al (stepping v a body) (stepping w a body)
taken_alike c a v w ended al = tt
taken_alike c a v w (outer act) al =
    let d : ActResult = act_result c a v act in
    let e : ActResult = act_result c a w act in
    let h : ActsAlike d e = act_alike c a v w act al in
    change_alike d.world e.world a _ _ _ h.world (replying d.world a act d.answer d.answer refl) (replying e.world a act d.answer e.answer (sym h.answer))

step_by : (c : Constants) (a : ActorId) (v w : World) (o p : Option WorldActor) → Alike v w → option_map part_of o ≡ option_map part_of p → Alikes (option_and_then (λ b. after_step_of c a v (step v.edits a b.body)) o) (option_and_then (λ b. after_step_of c a w (step w.edits a b.body)) p)
step_by c a v w None None al same = tt
step_by c a v w None (Some d) al same = absurd (cc same)
step_by c a v w (Some b) None al same = absurd (cc same)
step_by c a v w (Some b) (Some d) al same =
    let bodies : b.body ≡ d.body = ap (λ (p : ActorPart). p.body) (same_Some (part_of b) (part_of d) same) in
    let steps : step v.edits a b.body ≡ step w.edits a d.body = ap (λ (es : List Edit). step es a b.body) al.edits ∙ ap (λ (x : Body). step w.edits a x) bodies in
    subst (λ (s : Step). Alikes (after_step_of c a v (step v.edits a b.body)) (after_step_of c a w s)) steps (taken_alike c a v w (step v.edits a b.body) al)

step_alike : (c : Constants) (a : ActorId) (v w : World) → Alike v w → Alikes (after_step c a v) (after_step c a w)
step_alike c a v w al = step_by c a v w (slice_get v.actors a.0) (slice_get w.actors a.0) al (at_parts v w a.0 al)

-- ---- steps

steps_alike : (c : Constants) (a : ActorId) (n : ℕ) (v w : World) → Alike v w → Alikes (world_after c a n v) (world_after c a n w)
steps_alike c a zero v w al = al
steps_alike c a (suc n) v w al = then_alike (after_step c a v) (after_step c a w) (world_after c a n) (world_after c a n) (step_alike c a v w al) (steps_alike c a n)

pub ran_alike : (c : Constants) (v w : World) (a : ActorId) (n : ℕ) → Alike v w → Alikes (after_run c v a n) (after_run c w a n)
ran_alike c v w a n al =
    subst (λ (o : Option World). Alikes o (after_run c w a n)) (sym (ran_after c v a n))
    (subst (λ (p : Option World). Alikes (cond (nat_lt 0 n) (world_after c a n v) None) p) (sym (ran_after c w a n))
    (if_there (nat_lt 0 n) (world_after c a n v) (world_after c a n w) (steps_alike c a n v w al)))
