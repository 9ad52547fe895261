-- A world as a base: its actors by their parts, and the numbers of its senders.
use Rattle.std.proofs.Common.{◌≡◌, ◌≤◌, ◌<◌, ◌+◌, ℕ, zero, suc, List, [], ◌∷◌, Option, Some, None, option_map, length, map, drop, get_or, slice_get, true, refl, sym, ap, subst, ◌∙◌, arith}
use Rattle.std.specs.Prelude.{All}
use Rattle.std.proofs.lemmas.List.{append-nil, length-map}
use Rattle.std.proofs.lemmas.List.Elements.{All-cons, All-drop, All-map, All-nil, All-weaker}
use Rattle.std.proofs.lemmas.Option.{slice_get-get_or, slice_get-map, slice_get_within}
use Rattle.st_classes.specs.declared.edits.Edit.{Edit}
use Rattle.st_classes.specs.Classes.{class_count}
use Rattle.st_turn.specs.declared.body.Object.{Object}
use Rattle.st_turn.specs.declared.body.Outcome.{Outcome}
use Rattle.st_turn.specs.declared.body.Phase.{Phase}
use Rattle.st_turn.specs.declared.body.Phase.TheVariants.{Fresh, Start, Frames, Done}
use Rattle.st_turn.specs.BodyFits.{FitsPhase, Referents}
use Rattle.st_mailbox.specs.declared.messages.Message.{Message}
use Rattle.st_mailbox.specs.declared.messages.Sender.{Sender}
use Rattle.st_mailbox.specs.declared.messages.Sender.TheVariants.{Client, Actor}
use Rattle.st_image.specs.declared.actor_part.ActorPart.{ActorPart}
use Rattle.st_image.specs.Delivery.{HasDelivered}
use Rattle.st_image.specs.Images.{ImageView, world}
use Rattle.st_image.specs.Loaded.{AreBaseActors, AreBaseSenders}
use Rattle.st_image.specs.Parts.{actor_of, part_of, rebase, rebased, result_of, world_of_parts}
use Rattle.st_image.specs.PostRules.{message_fits}
use Rattle.st_image.specs.SenderNumbers.{HasSenders, IsSenderAmong}
use Rattle.st_image.specs.Senders.{InSendingOrder, IsAccepted, actor_last, last_number}
use Rattle.st_image.specs.WorldInvariant.{IsLawful, IsWorld, IsWorldActor, given}
use Rattle.st_image.specs.Worlds.{Constants, World, WorldActor, pending}

-- ---- lists

all_there : {X : Type 0} (P : X → Type 0) (xs : List X) → ((k : ℕ) (x : X) → slice_get xs k ≡ Some x → P x) → All P xs
all_there P xs f k d h = f k (get_or xs k d) (slice_get-get_or xs k d h)

-- what stands behind some items
behind : {X : Type 0} (xs : List X) (n k place : ℕ) (x : X) → place ≡ n + k → slice_get (drop n xs) k ≡ Some x → slice_get xs place ≡ Some x
behind xs zero k place x e h = subst (λ (p : ℕ). slice_get xs p ≡ Some x) (omega (arith, e)) h
behind [] (suc n) k place x e h = cc
behind (y ∷ xs) (suc n) k zero x e h = absurd (omega (arith, e))
behind (y ∷ xs) (suc n) k (suc place) x e h = behind xs n k place x (omega (arith, e)) h

twice_mapped : (bs : List WorldActor) → map actor_of (map part_of bs) ≡ map rebased bs
twice_mapped [] = refl
twice_mapped (b ∷ bs) = ap (λ (cs : List WorldActor). rebased b ∷ cs) (twice_mapped bs)

-- the world as a base is the world of its parts
pub rebase_is : (w : World) → rebase w ≡ world_of_parts w.edits (map part_of w.actors) w.clients
rebase_is w = ap (λ (bs : List WorldActor). record w { actors = bs }) (sym (twice_mapped w.actors))

-- ---- actors

result_fits : (refs : Referents) (edits : List Edit) (objects : List Object) (p : Phase) → FitsPhase refs edits objects p → All (λ (o : Outcome). FitsPhase refs edits objects (Done o)) (result_of p)
result_fits refs edits objects Fresh h = All-nil (λ (o : Outcome). FitsPhase refs edits objects (Done o))
result_fits refs edits objects (Start s args) h = All-nil (λ (o : Outcome). FitsPhase refs edits objects (Done o))
result_fits refs edits objects (Frames fs) h = All-nil (λ (o : Outcome). FitsPhase refs edits objects (Done o))
result_fits refs edits objects (Done o) h = All-cons (λ (p : Outcome). FitsPhase refs edits objects (Done p)) o [] h (All-nil (λ (p : Outcome). FitsPhase refs edits objects (Done p)))

pub rebased_fits : (names : List (List ℕ)) (edits : List Edit) (actors : ℕ) (b : WorldActor) → IsWorldActor names edits actors b → IsWorldActor names edits actors (rebased b)
rebased_fits names edits actors b h = record {
  fits = h.fits;
  itself = h.itself;
  plain = h.plain;
  some_capacity = h.some_capacity;
  few_messages = h.few_messages;
  within = h.within;
  begins = (pending b, refl);
  mail = All-drop (λ (m : Message). message_fits names (class_count edits) actors m ≡ true) (length b.begun) b.accepted h.mail;
  told = result_fits (given names actors) edits b.body.objects b.body.phase h.fits.phase;
}

-- ---- senders

-- who has sent a message is there
is_among : (w : World) (s : Sender) (seq : ℕ) → 1 ≤ seq → seq ≤ last_number w s → IsSenderAmong (length w.actors) s
is_among w (Client s) seq some most = tt
is_among w (Actor a) seq some most = by (slice_get w.actors a.0) refl
  where
    by : (o : Option WorldActor) → slice_get w.actors a.0 ≡ o → a.0 < length w.actors
    by None e =
        let none : seq ≤ 0 = subst (λ (o : Option WorldActor). seq ≤ actor_last o) e most in
        absurd (omega (arith, none, some))
    by (Some b) e = slice_get_within w.actors a.0 b e

have_senders : (w : World) → InSendingOrder w → (a : ℕ) (b : WorldActor) → slice_get w.actors a ≡ Some b → HasSenders (length w.actors) (part_of b)
have_senders w order a b at = all_there (λ (m : Message). IsSenderAmong (length w.actors) m.sender) (pending b) (λ k m there.
    let place : ℕ = length b.begun + k in
    let accepted : IsAccepted w a place m = (b, at, behind b.accepted (length b.begun) k place m refl there) in
    is_among w m.sender m.seq (order.positive a place m accepted) (order.bounded a place m accepted))

-- the parts of a world are those of the actors of a base
pub base_actors : (c : Constants) (w : World) → IsWorld c w → InSendingOrder w → length w.actors ≤ 65536 → AreBaseActors c.names w.edits (map part_of w.actors)
base_actors c w h order few =
    let n : ℕ = length w.actors in
    let parts : List ActorPart = map part_of w.actors in
    let long : n ≡ length parts = sym (length-map w.actors part_of) in
    let each : All (λ (b : WorldActor). IsWorldActor c.names w.edits n (rebased b)) w.actors = All-weaker (IsWorldActor c.names w.edits n) (λ (b : WorldActor). IsWorldActor c.names w.edits n (rebased b)) (rebased_fits c.names w.edits n) w.actors h.actors in
    let senders : All (λ (b : WorldActor). HasSenders n (part_of b)) w.actors = all_there (λ (b : WorldActor). HasSenders n (part_of b)) w.actors (have_senders w order) in
    record {
      few = subst (λ (k : ℕ). k ≤ 65536) long few;
      each = subst (λ (k : ℕ). All (λ (p : ActorPart). IsWorldActor c.names w.edits k (actor_of p)) parts) long (All-map (λ (p : ActorPart). IsWorldActor c.names w.edits n (actor_of p)) part_of w.actors each);
      senders = subst (λ (k : ℕ). All (HasSenders k) parts) long (All-map (HasSenders n) part_of w.actors senders);
    }

-- ---- numbers

begun_before : Option WorldActor → ℕ
begun_before None = 0
begun_before (Some b) = length b.begun

rebased_from : (o : Option WorldActor) (r : WorldActor) → option_map rebased o ≡ Some r → (b : WorldActor) × (o ≡ Some b) × (rebased b ≡ r)
rebased_from None r e = cc
rebased_from (Some b) r e = (b, refl, cc)

-- what is accepted in a world as a base was accepted in the world, behind what was begun
was_accepted : (w : World) (a i : ℕ) (m : Message) → IsAccepted (rebase w) a i m → IsAccepted w a (begun_before (slice_get w.actors a) + i) m
unfolding begun_before
was_accepted w a i m h =
    let p = rebased_from (slice_get w.actors a) h.0 (sym (slice_get-map rebased w.actors a) ∙ h.1) in
    let there : slice_get (pending p.0) i ≡ Some m = subst (λ (r : WorldActor). slice_get r.accepted i ≡ Some m) (sym p.2) h.2 in
    let before : begun_before (slice_get w.actors a) ≡ length p.0.begun = ap begun_before p.1 in
    (p.0, p.1, behind p.0.accepted (length p.0.begun) i (begun_before (slice_get w.actors a) + i) m (ap (λ (n : ℕ). n + i) before) there)

same_last : (o : Option WorldActor) → actor_last (option_map rebased o) ≡ actor_last o
same_last None = refl
same_last (Some b) = refl

last_is : (w : World) (s : Sender) → last_number w s ≡ last_number (rebase w) s
last_is w (Client s) = refl
last_is w (Actor a) = sym (ap actor_last (slice_get-map rebased w.actors a.0) ∙ same_last (slice_get w.actors a.0))

rebased_order : (w : World) → InSendingOrder w → InSendingOrder (rebase w)
rebased_order w order = record {
  rising = λ a i j m n p q same less. order.rising a _ _ m n (was_accepted w a i m p) (was_accepted w a j n q) same (omega (arith, less));
  positive = λ a i m p. order.positive a _ m (was_accepted w a i m p);
  bounded = λ a i m p. subst (λ (last : ℕ). m.seq ≤ last) (last_is w m.sender) (order.bounded a _ m (was_accepted w a i m p));
  apart = λ a c i j m n p q same equal. order.apart a c _ _ m n (was_accepted w a i m p) (was_accepted w c j n q) same equal;
}

-- the numbers of a world's senders are those of a base's
pub base_senders : (c : Constants) (w : World) → IsWorld c w → InSendingOrder w → AreBaseSenders w.edits (map part_of w.actors) w.clients
base_senders c w h order = (h.clients, subst InSendingOrder (rebase_is w) (rebased_order w order))

-- what an image has delivered is in sending order
pub delivered_order : (i : ImageView) → IsLawful i → HasDelivered i → InSendingOrder (world i)
delivered_order i lawful delivered =
    let d = delivered i.history [] (sym (append-nil i.history)) in
    let there : Some d.0 ≡ Some (world i) = sym d.1 ∙ lawful.lawful in
    let same : d.0 ≡ world i = cc in
    subst InSendingOrder same d.2.senders
