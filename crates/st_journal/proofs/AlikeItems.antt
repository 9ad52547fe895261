-- Items but steps lead worlds that show the same parts to such worlds.
use Rattle.std.proofs.Common.{◌≡◌, ◌<◌, ℕ, zero, suc, List, [], ◌∷◌, ◌++◌, Bool, false, cond, Option, Some, None, option_map, length, drop, slice_get, refl, sym, ap, subst, ◌∙◌, arith, length-append, length-drop}
use Rattle.std.specs.Prelude.{not, is_none, ◌&&◌}
use Rattle.std.proofs.lemmas.List.{drop-append-le}
use Rattle.std.proofs.lemmas.Option.{same_Some, slice_get_within}
use Rattle.st_classes.specs.declared.values.ActorId.{ActorId}
use Rattle.st_classes.specs.declared.values.ClassId.{ClassId}
use Rattle.st_classes.specs.declared.edits.Edit.{Edit}
use Rattle.st_classes.specs.declared.refusals.Refusal.TheVariants.{BadArguments}
use Rattle.st_classes.specs.Classes.{class_count}
use Rattle.st_classes.specs.EditRules.{edit_rules}
use Rattle.st_classes.specs.MethodSuits.{edit_suits}
use Rattle.st_classes.specs.Refusals.{Rule, first_of}
use Rattle.st_turn.specs.declared.body.Phase.TheVariants.{Start}
use Rattle.st_turn.specs.BodyFits.{has_instances}
use Rattle.st_turn.specs.Idle.{is_idle}
use Rattle.st_mailbox.specs.Mailboxes.{box_rules}
use Rattle.st_mailbox.specs.declared.messages.Message.{Message}
use Rattle.st_mailbox.specs.declared.messages.Sender.{Sender}
use Rattle.st_mailbox.specs.declared.messages.Sender.TheVariants.{Client, Actor}
use Rattle.st_image.specs.declared.actor_part.ActorPart.{ActorPart}
use Rattle.st_image.specs.Parts.{part_of}
use Rattle.st_image.specs.PostRules.{last_at, message_fits, message_suits, number_rule, old_rule, post_rules, sender_last}
use Rattle.st_image.specs.Replay.{after_begin, after_close, after_create, after_edit, after_post, is_open_at, new_world_actor, next_message, with_accepted, with_begun, with_last, with_new}
use Rattle.st_image.specs.Worlds.{Constants, World, WorldActor, change, client_last, pending, put_number}
use Rattle.st_image.proofs.Stepping.{cond_some}
use Rattle.st_journal.proofs.AlikeWorlds.{Alike, Alikes, Changes, Few, as_many, at_parts, change_alike, if_alike, push_alike}

-- ---- edits and new actors

pub edited_alike : (c : Constants) (v w : World) (e : Edit) → Alike v w → Alikes (after_edit c v e) (after_edit c w e)
edited_alike c v w e al =
    if_alike _ _ (record v { edits = v.edits ++ e ∷ [] }) (record w { edits = w.edits ++ e ∷ [] })
    (ap (λ (es : List Edit). is_none (first_of (edit_rules es e)) && edit_suits c.names es e) al.edits)
    (record { edits = ap (λ (es : List Edit). es ++ e ∷ []) al.edits; parts = al.parts; clients = al.clients; few = al.few; few_there = al.few_there })

pub new_alike : (c : Constants) (v w : World) (class : ClassId) → Alike v w → Alike (with_new c class v) (with_new c class w)
new_alike c v w class al =
    push_alike v w (new_world_actor v.edits class c.capacity) (new_world_actor w.edits class c.capacity) al
    (ap (λ (es : List Edit). part_of (new_world_actor es class c.capacity)) al.edits)
    (omega arith) (omega arith)

pub created_alike : (c : Constants) (v w : World) (class : ClassId) → Alike v w → Alikes (after_create c v class) (after_create c w class)
created_alike c v w class al =
    if_alike _ _ (with_new c class v) (with_new c class w) (ap (λ (es : List Edit). has_instances es class) al.edits) (new_alike c v w class al)

-- ---- posts

last_part : (o : Option WorldActor) → last_at o ≡ option_map (λ (p : ActorPart). p.last) (option_map part_of o)
last_part None = refl
last_part (Some b) = refl

last_alike : (v w : World) (s : Sender) → Alike v w → sender_last v s ≡ sender_last w s
last_alike v w (Client s) al = ap (λ (cs : List (ℕ × ℕ)). Some (client_last s cs)) al.clients
last_alike v w (Actor a) al =
    last_part (slice_get v.actors a.0)
    ∙ ap (λ (o : Option ActorPart). option_map (λ (p : ActorPart). p.last) o) (at_parts v w a.0 al)
    ∙ sym (last_part (slice_get w.actors a.0))

rules_there : (names : List (List ℕ)) (v w : World) (b d : WorldActor) (m : Message) → Alike v w → part_of b ≡ part_of d → post_rules names v (Some b) m ≡ post_rules names w (Some d) m
rules_there names v w b d m al same =
    let boxes : ActorPart → List Rule = λ (p : ActorPart). box_rules p.is_open p.capacity (length p.pending) in
    ap (λ (es : List Edit). (not (message_fits names (class_count es) (length v.actors) m), BadArguments) ∷ number_rule v m.sender m.seq ∷ boxes (part_of b)) al.edits
    ∙ ap (λ (n : ℕ). (not (message_fits names (class_count w.edits) n m), BadArguments) ∷ number_rule v m.sender m.seq ∷ boxes (part_of b)) (as_many v w al)
    ∙ ap (λ (o : Option ℕ). (not (message_suits names w m), BadArguments) ∷ old_rule o m.seq ∷ boxes (part_of b)) (last_alike v w m.sender al)
    ∙ ap (λ (p : ActorPart). (not (message_suits names w m), BadArguments) ∷ number_rule w m.sender m.seq ∷ boxes p) same

rules_by : (names : List (List ℕ)) (v w : World) (o p : Option WorldActor) (m : Message) → Alike v w → option_map part_of o ≡ option_map part_of p → post_rules names v o m ≡ post_rules names w p m
rules_by names v w None None m al same = refl
rules_by names v w None (Some d) m al same = absurd (cc same)
rules_by names v w (Some b) None m al same = absurd (cc same)
rules_by names v w (Some b) (Some d) m al same = rules_there names v w b d m al (same_Some (part_of b) (part_of d) same)

accepted_part : (m : Message) (b : WorldActor) → Few b → part_of (with_accepted m b) ≡ record (part_of b) { pending = pending b ++ m ∷ [] }
accepted_part m b few = ap (λ (ms : List Message). record (part_of b) { pending = ms }) (drop-append-le (length b.begun) b.accepted (m ∷ []) few)

accepting : (w : World) (a : ActorId) (m : Message) → Changes w a (with_accepted m) (λ p. record p { pending = p.pending ++ m ∷ [] })
accepting w a m = record {
  part = λ b at few. accepted_part m b few;
  few = λ b at few. omega (arith, length-append b.accepted (m ∷ []));
}

numbering : (w : World) (a : ActorId) (n : ℕ) → Changes w a (λ b. record b { last = n }) (λ p. record p { last = n })
numbering w a n = record { part = λ b at few. refl; few = λ b at few. few }

with_last_alike : (s : Sender) (n : ℕ) (v w : World) → Alike v w → Alike (with_last s n v) (with_last s n w)
with_last_alike (Client s) n v w al = record { edits = al.edits; parts = al.parts; clients = ap (λ (cs : List (ℕ × ℕ)). put_number s n cs) al.clients; few = al.few; few_there = al.few_there }
with_last_alike (Actor a) n v w al = change_alike v w a _ _ _ al (numbering v a n) (numbering w a n)

pub posted_alike : (c : Constants) (v w : World) (a : ActorId) (m : Message) → Alike v w → Alikes (after_post c v a m) (after_post c w a m)
posted_alike c v w a m al =
    if_alike _ _ (with_last m.sender m.seq (change (with_accepted m) a v)) (with_last m.sender m.seq (change (with_accepted m) a w))
    (ap (λ (rules : List Rule). is_none (first_of rules)) (rules_by c.names v w (slice_get v.actors a.0) (slice_get w.actors a.0) m al (at_parts v w a.0 al)))
    (with_last_alike m.sender m.seq (change (with_accepted m) a v) (change (with_accepted m) a w) (change_alike v w a _ _ _ al (accepting v a m) (accepting w a m)))

-- ---- closes

open_part : Option ActorPart → Bool
open_part None = false
open_part (Some p) = p.is_open

open_at : (o : Option WorldActor) → is_open_at o ≡ open_part (option_map part_of o)
unfolding open_part
open_at None = refl
open_at (Some b) = refl

closing : (w : World) (a : ActorId) → Changes w a (λ b. record b { is_open = false }) (λ p. record p { is_open = false })
closing w a = record { part = λ b at few. refl; few = λ b at few. few }

pub closed_alike : (v w : World) (a : ActorId) → Alike v w → Alikes (after_close v a) (after_close w a)
closed_alike v w a al =
    if_alike _ _ (change (λ b. record b { is_open = false }) a v) (change (λ b. record b { is_open = false }) a w)
    (open_at (slice_get v.actors a.0) ∙ ap open_part (at_parts v w a.0 al) ∙ sym (open_at (slice_get w.actors a.0)))
    (change_alike v w a _ _ _ al (closing v a) (closing w a))

-- ---- beginnings

message_part : Option ActorPart → Option Message
message_part None = None
message_part (Some p) = cond (is_idle p.body.phase) (slice_get p.pending 0) None

message_at : (o : Option WorldActor) → next_message o ≡ message_part (option_map part_of o)
unfolding message_part
message_at None = refl
message_at (Some b) = refl

drop_suc : {X : Type 0} (n : ℕ) (xs : List X) → drop (suc n) xs ≡ drop 1 (drop n xs)
drop_suc zero [] = refl
drop_suc zero (x ∷ xs) = refl
drop_suc (suc n) [] = refl
drop_suc (suc n) (x ∷ xs) = drop_suc n xs

one_longer : {X : Type 0} (xs : List X) (x : X) → length (xs ++ x ∷ []) ≡ suc (length xs)
one_longer [] x = refl
one_longer (y ∷ xs) x = ap suc (one_longer xs x)

begun_part : (m : Message) (b : WorldActor) → part_of (with_begun m b) ≡ record (part_of b) { pending = drop 1 (pending b); body = record b.body { phase = Start m.selector m.args } }
begun_part m b =
    ap (λ (ms : List Message). record (part_of b) { pending = ms; body = record b.body { phase = Start m.selector m.args } })
    (ap (λ (n : ℕ). drop n b.accepted) (one_longer b.begun m) ∙ drop_suc (length b.begun) b.accepted)

-- a message is pending
some_pending : (b : WorldActor) (m : Message) → next_message (Some b) ≡ Some m → length b.begun < length b.accepted
some_pending b m e =
    let there : slice_get (pending b) 0 ≡ Some m = (cond_some (is_idle b.body.phase) (slice_get (pending b) 0) m e).1 in
    omega (arith, slice_get_within (pending b) 0 m there, length-drop (length b.begun) b.accepted)

beginning : (w : World) (a : ActorId) (m : Message) → next_message (slice_get w.actors a.0) ≡ Some m → Changes w a (with_begun m) (λ p. record p { pending = drop 1 p.pending; body = record p.body { phase = Start m.selector m.args } })
beginning w a m e = record {
  part = λ b at few. begun_part m b;
  few = λ b at few. omega (arith, some_pending b m (ap next_message (sym at) ∙ e), one_longer b.begun m);
}

begun_by : (v w : World) (a : ActorId) (o : Option Message) → Alike v w → next_message (slice_get v.actors a.0) ≡ o → next_message (slice_get w.actors a.0) ≡ o → Alikes (option_map (λ m. change (with_begun m) a v) o) (option_map (λ m. change (with_begun m) a w) o)
begun_by v w a None al e f = tt
begun_by v w a (Some m) al e f = change_alike v w a _ _ _ al (beginning v a m e) (beginning w a m f)

pub begun_alike : (v w : World) (a : ActorId) → Alike v w → Alikes (after_begin v a) (after_begin w a)
begun_alike v w a al =
    let o : Option Message = next_message (slice_get v.actors a.0) in
    let same : o ≡ next_message (slice_get w.actors a.0) = message_at (slice_get v.actors a.0) ∙ ap message_part (at_parts v w a.0 al) ∙ sym (message_at (slice_get w.actors a.0)) in
    subst (λ (p : Option Message). Alikes (option_map (λ m. change (with_begun m) a v) o) (option_map (λ m. change (with_begun m) a w) p)) same (begun_by v w a o al refl (sym same))
