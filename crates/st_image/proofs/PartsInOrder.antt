-- A world of parts is in sending order just where its mailboxes are.
use Rattle.std.proofs.Common.{◌≡◌, ◌<◌, ◌≤◌, ◌⊎◌, inl, inr, ℕ, zero, suc, List, Option, Some, None, option_map, get_or, take, refl, sym, ap, ◌∙◌, subst, slice_get, arith}
use Rattle.std.specs.Prelude.{All}
use Rattle.std.proofs.lemmas.List.{length-take}
use Rattle.std.proofs.lemmas.Option.{slice_get_within, slice_get-get_or, slice_get-map}
use Rattle.st_classes.specs.declared.edits.Edit.{Edit}
use Rattle.st_classes.proofs.LawLists.{slice_get_take}
use Rattle.st_mailbox.specs.declared.messages.Message.{Message}
use Rattle.st_mailbox.specs.declared.messages.Sender.{Sender}
use Rattle.st_mailbox.specs.declared.messages.Sender.TheVariants.{Client, Actor}
use Rattle.st_image.specs.declared.actor_part.ActorPart.{ActorPart}
use Rattle.st_image.specs.Clients.{number_of}
use Rattle.st_image.specs.Parts.{actor_of, world_of_parts}
use Rattle.st_image.specs.SenderNumbers.{AfterOthers, IsApart, IsBelow, IsMailed, IsNumbered, IsSent, last_in, part_last}
use Rattle.st_image.specs.Senders.{InSendingOrder, IsAccepted, actor_last, last_number}
use Rattle.st_image.specs.Worlds.{WorldActor, client_last}
use Rattle.st_image.proofs.Places.{at_all}

-- ---- fronts of lists

in_front : {X : Type 0} (xs : List X) (n i : ℕ) (x : X) → i < n → slice_get xs i ≡ Some x → slice_get (take n xs) i ≡ Some x
in_front xs n i x h e = slice_get_take xs n i h ∙ e

of_front : {X : Type 0} (xs : List X) (n i : ℕ) (x : X) → slice_get (take n xs) i ≡ Some x → (i < n) × (slice_get xs i ≡ Some x)
of_front xs n i x e =
    let less : i < n = omega (arith, length-take n xs, slice_get_within (take n xs) i x e) in
    (less, sym (slice_get_take xs n i less) ∙ e)

-- each item by its place
all_there : {X : Type 0} (P : X → Type 0) (xs : List X) → ((k : ℕ) (x : X) → slice_get xs k ≡ Some x → P x) → All P xs
all_there P xs f k d h = f k (get_or xs k d) (slice_get-get_or xs k d h)

-- ---- messages that were accepted

-- a message stands at a place of the mailbox of an actor
abbrev pub Stands : List ActorPart → ℕ → ℕ → Message → Type 0
Stands parts a i m = (p : ActorPart) × (slice_get parts a ≡ Some p) × (slice_get p.pending i ≡ Some m)

part_of : (o : Option ActorPart) (b : WorldActor) → option_map actor_of o ≡ Some b → (p : ActorPart) × (o ≡ Some p) × (actor_of p ≡ b)
part_of None b e = cc
part_of (Some p) b e = (p, refl, one p b e)
  where
    one : (p : ActorPart) (b : WorldActor) → option_map actor_of (Some p) ≡ Some b → actor_of p ≡ b
    one p b e = cc

stands : (edits : List Edit) (parts : List ActorPart) (clients : List (ℕ × ℕ)) (a i : ℕ) (m : Message) → IsAccepted (world_of_parts edits parts clients) a i m → Stands parts a i m
stands edits parts clients a i m h =
    let p = part_of (slice_get parts a) h.0 (sym (slice_get-map actor_of parts a) ∙ h.1) in
    (p.0, p.1, subst (λ (b : WorldActor). slice_get b.accepted i ≡ Some m) (sym p.2) h.2)

accepted : (edits : List Edit) (parts : List ActorPart) (clients : List (ℕ × ℕ)) (a i : ℕ) (m : Message) → Stands parts a i m → IsAccepted (world_of_parts edits parts clients) a i m
accepted edits parts clients a i m s = (actor_of s.0, slice_get-map actor_of parts a ∙ ap (option_map actor_of) s.1, s.2)

-- ---- last numbers

actor_is : (o : Option ActorPart) → part_last o ≡ actor_last (option_map actor_of o)
actor_is None = refl
actor_is (Some p) = refl

last_is : (edits : List Edit) (parts : List ActorPart) (clients : List (ℕ × ℕ)) (numbers : List ℕ) → ((s : ℕ) → number_of numbers s ≡ client_last s clients) → (s : Sender) → last_in numbers parts s ≡ last_number (world_of_parts edits parts clients) s
last_is edits parts clients numbers h (Client s) = h s
last_is edits parts clients numbers h (Actor a) = actor_is (slice_get parts a.0) ∙ ap actor_last (sym (slice_get-map actor_of parts a.0))

-- ---- both ways

same_part : (parts : List ActorPart) (a : ℕ) (p q : ActorPart) → slice_get parts a ≡ Some p → slice_get parts a ≡ Some q → p ≡ q
same_part parts a p q e f = let k : Some p ≡ Some q = sym e ∙ f in cc

order : (m n : ℕ) → (m < n) ⊎ ((m ≡ n) ⊎ (n < m))
order zero zero = inr (inl refl)
order zero (suc n) = inl (omega arith)
order (suc m) zero = inr (inr (omega arith))
order (suc m) (suc n) = elim (order m n) [
  | inl less ↦ inl (omega (arith, less))
  | inr rest ↦ elim rest [ inl same ↦ inr (inl (ap suc same)) | inr more ↦ inr (inr (omega (arith, more))) ]
]

-- a number stands in the mailbox of an earlier actor
twice : (parts : List ActorPart) (a c i j : ℕ) (m n : Message) → AfterOthers IsApart parts → Stands parts a i m → Stands parts c j n → m.sender ≡ n.sender → m.seq ≡ n.seq → a < c → ⊥
twice parts a c i j m n apart p q same number less =
    at_all (λ (x : Message). IsSent (take c parts) x.sender x.seq → ⊥) q.0.pending j n (apart c q.0 q.1) q.2 (a, p.0, in_front parts c a p.0 less p.1, (i, m, p.2, same, number))

pub parts_in_order : (edits : List Edit) (parts : List ActorPart) (clients : List (ℕ × ℕ)) (numbers : List ℕ) → ((s : ℕ) → number_of numbers s ≡ client_last s clients)
    → All (IsMailed numbers parts) parts → AfterOthers IsApart parts → InSendingOrder (world_of_parts edits parts clients)
parts_in_order edits parts clients numbers lasts mailed apart = record {
  rising = λ a i j m n p q same less.
      let s = stands edits parts clients a i m p in
      let t = stands edits parts clients a j n q in
      let here : slice_get s.0.pending j ≡ Some n = subst (λ (x : ActorPart). slice_get x.pending j ≡ Some n) (same_part parts a t.0 s.0 t.1 s.1) t.2 in
      at_all (IsBelow n) (take j s.0.pending) i m ((at_all (IsMailed numbers parts) parts a s.0 mailed s.1).rising j n here) (in_front s.0.pending j i m less s.2) same;
  positive = λ a i m p.
      let s = stands edits parts clients a i m p in
      (at_all (IsNumbered numbers parts) s.0.pending i m (at_all (IsMailed numbers parts) parts a s.0 mailed s.1).numbered s.2).0;
  bounded = λ a i m p.
      let s = stands edits parts clients a i m p in
      subst (λ (l : ℕ). m.seq ≤ l) (last_is edits parts clients numbers lasts m.sender) (at_all (IsNumbered numbers parts) s.0.pending i m (at_all (IsMailed numbers parts) parts a s.0 mailed s.1).numbered s.2).1;
  apart = λ a c i j m n p q same number.
      let s = stands edits parts clients a i m p in
      let t = stands edits parts clients c j n q in
      elim (order a c) [
        | inl less ↦ absurd (twice parts a c i j m n apart s t same number less)
        | inr rest ↦ elim rest [
          | inl equal ↦ equal
          | inr more ↦ absurd (twice parts c a j i n m apart t s (sym same) (sym number) more)
        ]
      ];
}

pub mailed_in_order : (edits : List Edit) (parts : List ActorPart) (clients : List (ℕ × ℕ)) (numbers : List ℕ) → ((s : ℕ) → number_of numbers s ≡ client_last s clients)
    → InSendingOrder (world_of_parts edits parts clients) → All (IsMailed numbers parts) parts
mailed_in_order edits parts clients numbers lasts h = all_there (IsMailed numbers parts) parts (λ a p at. record {
  rising = λ j n later. all_there (IsBelow n) (take j p.pending) (λ i m earlier.
      let front = of_front p.pending j i m earlier in
      λ same. h.rising a i j m n (accepted edits parts clients a i m (p, at, front.1)) (accepted edits parts clients a j n (p, at, later)) same front.0);
  numbered = all_there (IsNumbered numbers parts) p.pending (λ i m there.
      let mail = accepted edits parts clients a i m (p, at, there) in
      (h.positive a i m mail, subst (λ (l : ℕ). m.seq ≤ l) (sym (last_is edits parts clients numbers lasts m.sender)) (h.bounded a i m mail)));
})

pub apart_in_order : (edits : List Edit) (parts : List ActorPart) (clients : List (ℕ × ℕ)) → InSendingOrder (world_of_parts edits parts clients) → AfterOthers IsApart parts
apart_in_order edits parts clients h c q at = all_there (λ (x : Message). IsSent (take c parts) x.sender x.seq → ⊥) q.pending (λ j n there sent.
    let front = of_front parts c sent.0 sent.1 sent.2 in
    let m = sent.3.1 in
    let same : sent.0 ≡ c = h.apart sent.0 c sent.3.0 j m n (accepted edits parts clients sent.0 sent.3.0 m (sent.1, front.1, sent.3.2)) (accepted edits parts clients c j n (q, at, there)) sent.3.3 sent.3.4 in
    absurd (omega (arith, front.0, same)))
