-- The numbers of senders: message by message, and mailbox by mailbox.
use Rattle.std.proofs.Common.{◌≡◌, ◌<◌, ◌≤◌, ◌+◌, ◌⊎◌, inl, inr, ℕ, Bool, List, [], ◌∷◌, ◌++◌, Some, true, false, cond, length, get_or, take, refl, sym, ap, ◌∙◌, subst, slice_get, arith, add-one}
use Rattle.std.specs.Prelude.{All, Decides}
use Rattle.std.specs.Cmp.{IsTotalOrder}
use Rattle.std.specs.Ordering.{nat_cmp, is_eq}
use Rattle.std.specs.declared.cmp.Ordering.{Ordering}
use Rattle.std.specs.declared.cmp.Ordering.TheVariants.{Less, Equal, Greater}
use Rattle.std.specs.BTreeMap.{is_at}
use Rattle.std.specs.BTreeSet.{BTreeSet, Updates, contains}
use Rattle.std.proofs.lemmas.Cmp.{nat_cmp_total, on_total, then_total, tied_itself}
use Rattle.std.proofs.lemmas.Map.Lookups.{CmpEqualImpliesEq, exact_pairs, exact_unsigned}
use Rattle.std.proofs.lemmas.Option.{slice_get_within, slice_get-get_or}
use Rattle.st_classes.specs.declared.values.ActorId.{ActorId}
use Rattle.st_classes.proofs.LawLists.{slice_get_kept, slice_get_last, slice_get_push, take_at_place}
use Rattle.st_mailbox.specs.declared.messages.Message.{Message}
use Rattle.st_mailbox.specs.declared.messages.Sender.{Sender}
use Rattle.st_mailbox.specs.declared.messages.Sender.TheVariants.{Client, Actor}
use Rattle.st_image.specs.declared.actor_part.ActorPart.{ActorPart}
use Rattle.st_image.specs.declared.sequence_numbers.seen.SeenNumbers.{SeenNumbers}
use Rattle.st_image.specs.SenderNumbers.{AfterOthers, AreSeen, IsApart, IsIn, IsSent, has, number_cmp}

-- ---- each item of a list, with those before it

-- each of so many items
abbrev pub Before : {X : Type 0} → (List X → X → Type 0) → List X → ℕ → Type 0
Before {X} Q xs n = (k : ℕ) (x : X) → k < n → slice_get xs k ≡ Some x → Q (take k xs) x

pub before_all : {X : Type 0} (Q : List X → X → Type 0) (xs : List X) (n : ℕ) → length xs ≤ n → Before Q xs n → AfterOthers Q xs
before_all Q xs n h b k x e = b k x (omega (arith, h, slice_get_within xs k x e)) e

there_is : {X : Type 0} (xs : List X) (n : ℕ) (x : X) → n < length xs → x ≡ get_or xs n x → slice_get xs n ≡ Some x
there_is xs n x h e = slice_get-get_or xs n x h ∙ ap Some (sym e)

at_most : (k n : ℕ) → k < n + 1 → (k < n) ⊎ (k ≡ n)
at_most k n h = grind arith

one_there : {X : Type 0} (x y : X) → Some x ≡ Some y → x ≡ y
one_there x y e = cc

pub before_more : {X : Type 0} (Q : List X → X → Type 0) (xs : List X) (n : ℕ) (x : X) → n < length xs → x ≡ get_or xs n x → Before Q xs n → Q (take n xs) x → Before Q xs (n + 1)
before_more {X} Q xs n x h e b q k y less there = elim (at_most k n less) [
  | inl below ↦ b k y below there
  | inr same ↦
      let here : slice_get xs n ≡ Some y = subst (λ (i : ℕ). slice_get xs i ≡ Some y) same there in
      let item : x ≡ y = one_there x y (sym (there_is xs n x h e) ∙ here) in
      subst (λ (i : ℕ). Q (take i xs) y) (sym same) (subst (Q (take n xs)) item q)
]

-- ---- a front with one item more

front_is : {X : Type 0} (xs : List X) (n : ℕ) (x : X) → n < length xs → x ≡ get_or xs n x → take (n + 1) xs ≡ take n xs ++ x ∷ []
front_is {X} xs n x h e = ap (λ (k : ℕ). take k xs) (add-one n) ∙ take_at_place xs n x (there_is xs n x h e)

in_front : {X : Type 0} (xs : List X) (n : ℕ) (x : X) (k : ℕ) (y : X) → n < length xs → x ≡ get_or xs n x → slice_get (take (n + 1) xs) k ≡ Some y → (slice_get (take n xs) k ≡ Some y) ⊎ (x ≡ y)
in_front {X} xs n x k y h e at = elim (slice_get_push (take n xs) x y k (subst (λ (zs : List X). slice_get zs k ≡ Some y) (front_is xs n x h e) at)) [
  | inl old ↦ inl old.1
  | inr new ↦ inr new.1
]

stays_in_front : {X : Type 0} (xs : List X) (n : ℕ) (x : X) (k : ℕ) (y : X) → n < length xs → x ≡ get_or xs n x → slice_get (take n xs) k ≡ Some y → slice_get (take (n + 1) xs) k ≡ Some y
stays_in_front {X} xs n x k y h e at = subst (λ (zs : List X). slice_get zs k ≡ Some y) (sym (front_is xs n x h e)) (slice_get_kept (take n xs) (x ∷ []) k y at)

last_in_front : {X : Type 0} (xs : List X) (n : ℕ) (x : X) → n < length xs → x ≡ get_or xs n x → slice_get (take (n + 1) xs) (length (take n xs)) ≡ Some x
last_in_front {X} xs n x h e = subst (λ (zs : List X). slice_get zs (length (take n xs)) ≡ Some x) (sym (front_is xs n x h e)) (slice_get_last (take n xs) x)

-- the numbers of a front of messages
in_more : (ms : List Message) (k : ℕ) (m : Message) (s : Sender) (n : ℕ) → k < length ms → m ≡ get_or ms k m → IsIn (take (k + 1) ms) s n → IsIn (take k ms) s n ⊎ ((s ≡ m.sender) × (n ≡ m.seq))
in_more ms k m s n h e i = elim (in_front ms k m i.0 i.1 h e i.2) [
  | inl old ↦ inl (i.0, i.1, old, i.3, i.4)
  | inr new ↦ inr (sym i.3 ∙ ap (λ (x : Message). x.sender) (sym new), sym i.4 ∙ ap (λ (x : Message). x.seq) (sym new))
]

old_in : (ms : List Message) (k : ℕ) (m : Message) (s : Sender) (n : ℕ) → k < length ms → m ≡ get_or ms k m → IsIn (take k ms) s n → IsIn (take (k + 1) ms) s n
old_in ms k m s n h e i = (i.0, i.1, stays_in_front ms k m i.0 i.1 h e i.2, i.3, i.4)

new_in : (ms : List Message) (k : ℕ) (m : Message) (s : Sender) (n : ℕ) → k < length ms → m ≡ get_or ms k m → (s ≡ m.sender) × (n ≡ m.seq) → IsIn (take (k + 1) ms) s n
new_in ms k m s n h e same = (length (take k ms), m, last_in_front ms k m h e, sym same.0, sym same.1)

-- the numbers of a front of actors
sent_more : (parts : List ActorPart) (k : ℕ) (p : ActorPart) (s : Sender) (n : ℕ) → k < length parts → p ≡ get_or parts k p → IsSent (take (k + 1) parts) s n → IsSent (take k parts) s n ⊎ IsIn p.pending s n
sent_more parts k p s n h e i = elim (in_front parts k p i.0 i.1 h e i.2) [
  | inl old ↦ inl (i.0, i.1, old, i.3)
  | inr new ↦ inr (subst (λ (q : ActorPart). IsIn q.pending s n) (sym new) i.3)
]

old_sent : (parts : List ActorPart) (k : ℕ) (p : ActorPart) (s : Sender) (n : ℕ) → k < length parts → p ≡ get_or parts k p → IsSent (take k parts) s n → IsSent (take (k + 1) parts) s n
old_sent parts k p s n h e i = (i.0, i.1, stays_in_front parts k p i.0 i.1 h e i.2, i.3)

new_sent : (parts : List ActorPart) (k : ℕ) (p : ActorPart) (s : Sender) (n : ℕ) → k < length parts → p ≡ get_or parts k p → IsIn p.pending s n → IsSent (take (k + 1) parts) s n
new_sent parts k p s n h e i = (length (take k parts), p, last_in_front parts k p h e, i)

-- ---- a set with a key more

is_equal : (o : Ordering) → is_eq o ≡ true → o ≡ Equal
is_equal Less e = cc
is_equal Equal e = refl
is_equal Greater e = cc

exact_numbers : CmpEqualImpliesEq number_cmp
exact_numbers = exact_pairs nat_cmp nat_cmp exact_unsigned exact_unsigned

numbers_total : IsTotalOrder number_cmp
numbers_total = then_total (on_total (λ p. p.0) nat_cmp_total) (on_total (λ p. p.1) nat_cmp_total)

at_itself : (k : ℕ × ℕ) → is_at (number_cmp k) k ≡ true
at_itself k = ap is_eq (tied_itself numbers_total k)

differ : (b : Bool) → b ≡ false → b ≡ true → ⊥
differ true e f = cc
differ false e f = cc

key_more : (old new : BTreeSet (ℕ × ℕ)) (k q : ℕ × ℕ) → Updates number_cmp old new k true → Decides (contains number_cmp new q) ((contains number_cmp old q ≡ true) ⊎ (k ≡ q))
key_more old new k q u = by (is_at (number_cmp k) q) refl
  where
    by : (here : Bool) → is_at (number_cmp k) q ≡ here → Decides (contains number_cmp new q) ((contains number_cmp old q ≡ true) ⊎ (k ≡ q))
    by true e =
        let there : contains number_cmp new q ≡ true = u.0 q ∙ ap (λ (b : Bool). cond b true (contains number_cmp old q)) e in
        (λ t. inr (exact_numbers k q (is_equal (number_cmp k q) e)), λ d. there)
    by false e =
        let same : contains number_cmp new q ≡ contains number_cmp old q = u.0 q ∙ ap (λ (b : Bool). cond b true (contains number_cmp old q)) e in (
          λ t. inl (sym same ∙ t),
          λ d. elim d [
            | inl old ↦ same ∙ old
            | inr key ↦ absurd (differ (is_at (number_cmp k) q) e (subst (λ (r : ℕ × ℕ). is_at (number_cmp k) r ≡ true) key (at_itself k)))
          ],
        )

-- ---- numbers that were seen

abbrev pub seen_of : BTreeSet (ℕ × ℕ) → BTreeSet (ℕ × ℕ) → SeenNumbers
seen_of clients actors = record { of_clients = clients; of_actors = actors }

pair_is : (a b c d : ℕ) → ◌≡◌ {A = ℕ × ℕ} (a, b) (c, d) → (a ≡ c) × (b ≡ d)
pair_is a b c d e = (ap (λ (p : ℕ × ℕ). p.0) e, ap (λ (p : ℕ × ℕ). p.1) e)

pair_of : (a b c d : ℕ) → a ≡ c → b ≡ d → ◌≡◌ {A = ℕ × ℕ} (a, b) (c, d)
pair_of a b c d e f = ap (λ (x : ℕ). (x, b)) e ∙ ap (λ (y : ℕ). (c, y)) f

client_is : (s t : ℕ) → Client s ≡ Client t → s ≡ t
client_is s t e = cc

no_client : (a : ActorId) (s : ℕ) → Actor a ≡ Client s → ⊥
no_client a s e = cc

no_actor : (s : ℕ) (a : ActorId) → Client s ≡ Actor a → ⊥
no_actor s a e = cc

abbrev actor_at : ℕ → ActorId
actor_at n = record { 0 = n }

actor_number : (a b : ActorId) → Actor a ≡ Actor b → a.0 ≡ b.0
actor_number a b e = let same : a ≡ b = cc in ap (λ (x : ActorId). x.0) same

-- a client's number is seen
pub client_added : (old new actors : BTreeSet (ℕ × ℕ)) (sender : Sender) (client number : ℕ) → sender ≡ Client client → Updates number_cmp old new (client, number) true
    → AreSeen (seen_of new actors) (λ s n. (has (seen_of old actors) s n ≡ true) ⊎ ((s ≡ sender) × (n ≡ number)))
client_added old new actors sender client number is u (Client t) n =
    let d = key_more old new (client, number) (t, n) u in (
      λ h. elim (d.0 h) [
        | inl before ↦ inl before
        | inr key ↦ let same = pair_is client number t n key in inr (ap (λ (k : ℕ). Client k) (sym same.0) ∙ sym is, sym same.1)
      ],
      λ h. d.1 (elim h [
        | inl before ↦ inl before
        | inr same ↦ inr (pair_of client number t n (sym (client_is t client (same.0 ∙ is))) (sym same.1))
      ]),
    )
client_added old new actors sender client number is u (Actor a) n = (
  λ h. inl h,
  λ h. elim h [
    | inl before ↦ before
    | inr same ↦ absurd (no_client a client (same.0 ∙ is))
  ],
)

-- an actor's
pub actor_added : (old new clients : BTreeSet (ℕ × ℕ)) (sender : Sender) (actor : ActorId) (number : ℕ) → sender ≡ Actor actor → Updates number_cmp old new (actor.0, number) true
    → AreSeen (seen_of clients new) (λ s n. (has (seen_of clients old) s n ≡ true) ⊎ ((s ≡ sender) × (n ≡ number)))
actor_added old new clients sender actor number is u (Client t) n = (
  λ h. inl h,
  λ h. elim h [
    | inl before ↦ before
    | inr same ↦ absurd (no_actor t actor (same.0 ∙ is))
  ],
)
actor_added old new clients sender actor number is u (Actor a) n =
    let d = key_more old new (actor.0, number) (a.0, n) u in (
      λ h. elim (d.0 h) [
        | inl before ↦ inl before
        | inr key ↦ let same = pair_is actor.0 number a.0 n key in inr (ap (λ (k : ℕ). Actor (actor_at k)) (sym same.0) ∙ sym is, sym same.1)
      ],
      λ h. d.1 (elim h [
        | inl before ↦ inl before
        | inr same ↦ inr (pair_of actor.0 number a.0 n (sym (actor_number a actor (same.0 ∙ is))) (sym same.1))
      ]),
    )

-- a message more
pub seen_more : (old seen next : SeenNumbers) (ms : List Message) (k : ℕ) (m : Message) → k < length ms → m ≡ get_or ms k m
    → AreSeen seen (λ s n. (has old s n ≡ true) ⊎ IsIn (take k ms) s n)
    → AreSeen next (λ s n. (has seen s n ≡ true) ⊎ ((s ≡ m.sender) × (n ≡ m.seq)))
    → AreSeen next (λ s n. (has old s n ≡ true) ⊎ IsIn (take (k + 1) ms) s n)
seen_more old seen next ms k m h e a b s n = (
  λ t. elim ((b s n).0 t) [
    | inl before ↦ elim ((a s n).0 before) [ inl first ↦ inl first | inr some ↦ inr (old_in ms k m s n h e some) ]
    | inr same ↦ inr (new_in ms k m s n h e same)
  ],
  λ t. (b s n).1 (elim t [
    | inl first ↦ inl ((a s n).1 (inl first))
    | inr some ↦ elim (in_more ms k m s n h e some) [ inl old ↦ inl ((a s n).1 (inr old)) | inr same ↦ inr same ]
  ]),
)

-- an actor more
pub seen_actor : (seen next : SeenNumbers) (parts : List ActorPart) (k : ℕ) (p : ActorPart) (ms : List Message) → k < length parts → p ≡ get_or parts k p → ms ≡ p.pending
    → AreSeen seen (IsSent (take k parts))
    → AreSeen next (λ s n. (has seen s n ≡ true) ⊎ IsIn ms s n)
    → AreSeen next (IsSent (take (k + 1) parts))
seen_actor seen next parts k p ms h e is a b s n = (
  λ t. elim ((b s n).0 t) [
    | inl before ↦ old_sent parts k p s n h e ((a s n).0 before)
    | inr some ↦ new_sent parts k p s n h e (subst (λ (xs : List Message). IsIn xs s n) is some)
  ],
  λ t. (b s n).1 (elim (sent_more parts k p s n h e t) [
    | inl old ↦ inl ((a s n).1 old)
    | inr new ↦ inr (subst (λ (xs : List Message). IsIn xs s n) (sym is) new)
  ]),
)

-- ---- actors that are apart from earlier ones

unseen : (b : Bool) → (b ≡ true → ⊥) → b ≡ false
unseen true f = absurd (f refl)
unseen false f = refl

-- the number of a message was not seen
abbrev IsNew : SeenNumbers → Message → Type 0
IsNew seen m = has seen m.sender m.seq ≡ false

pub apart_new : (seen : SeenNumbers) (earlier : List ActorPart) (p : ActorPart) → AreSeen seen (IsSent earlier) → IsApart earlier p → All (IsNew seen) p.pending
apart_new seen earlier p a h k d less = let m = get_or p.pending k d in unseen (has seen m.sender m.seq) (λ t. h k d less ((a m.sender m.seq).0 t))

pub new_apart : (seen : SeenNumbers) (earlier : List ActorPart) (p : ActorPart) (ms : List Message) → ms ≡ p.pending → AreSeen seen (IsSent earlier) → All (IsNew seen) ms → IsApart earlier p
new_apart seen earlier p ms is a h k d less sent =
    let m = get_or p.pending k d in
    differ (has seen m.sender m.seq) (subst (All (IsNew seen)) is h k d less) ((a m.sender m.seq).1 sent)

-- where one is not apart from the earlier ones not all are
pub one_not_apart : (seen : SeenNumbers) (parts : List ActorPart) (k : ℕ) (p : ActorPart) (ms : List Message) (are : Bool) → k < length parts → p ≡ get_or parts k p → ms ≡ p.pending → AreSeen seen (IsSent (take k parts))
    → Decides are (All (IsNew seen) ms) → are ≡ false → AfterOthers IsApart parts → ⊥
one_not_apart seen parts k p ms are h e is a d fails all = differ are fails (d.1 (subst (All (IsNew seen)) (sym is) (apart_new seen (take k parts) p a (all k p (there_is parts k p h e)))))
