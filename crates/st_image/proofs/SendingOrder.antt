-- Senders' numbers: what keeps the sending order.
use Rattle.std.proofs.Common.{arith, ◌≡◌, ◌<◌, ◌≤◌, ◌⊎◌, ◌==◌, ℕ, zero, suc, [], ◌∷◌, ◌++◌, List, Option, Some, None, refl, ap, sym, ◌∙◌, subst, length, slice_get, Bool, true, false, inl, inr, cond}
use Rattle.std.specs.Prelude.{All, nat_lt, is_none}
use Rattle.std.proofs.lemmas.Bool.Decides.{nat_tests}
use Rattle.std.proofs.lemmas.Option.{slice_get_within}
use Rattle.st_classes.specs.declared.values.ActorId.{ActorId}
use Rattle.st_classes.specs.declared.values.ClassId.{ClassId}
use Rattle.st_classes.specs.declared.edits.Edit.{Edit}
use Rattle.st_classes.specs.Refusals.{first_of}
use Rattle.st_classes.proofs.LawLists.{slice_get_kept, slice_get_push}
use Rattle.st_mailbox.specs.declared.messages.Message.{Message}
use Rattle.st_mailbox.specs.declared.messages.Sender.{Sender}
use Rattle.st_mailbox.specs.declared.messages.Sender.TheVariants.{Client, Actor}
use Rattle.st_image.specs.Worlds.{Constants, World, WorldActor, start, change, change_at, client_last, put_number}
use Rattle.st_image.specs.PostRules.{last_at, number_rule, old_rule, post_rules}
use Rattle.st_image.specs.Replay.{new_world_actor, with_accepted, with_last, with_new}
use Rattle.st_image.specs.Delivery.{BeginsInOrder}
use Rattle.st_image.specs.Senders.{AcceptedOnce, BegunInSendingOrder, HasBegun, InSendingOrder, IsAccepted, actor_last, last_number}
use Rattle.st_image.proofs.Places.{at_all}
use Rattle.st_image.proofs.Changing.{get-change, get-change-any, get-change-back, get-push-back}
use Rattle.st_image.proofs.PostFacts.{MayPost, above, may_post, rules_of}

-- ---- a world that has no more mail, and no smaller last numbers

pub record Follows (w v : World) : Type 0 where
  pub mail : (a i : ℕ) (m : Message) → IsAccepted v a i m → IsAccepted w a i m
  pub lasts : (s : Sender) → last_number w s ≤ last_number v s

pub order_follows : (w v : World) → Follows w v → InSendingOrder w → InSendingOrder v
order_follows w v f h = record {
  rising = λ a i j m n p q same less. h.rising a i j m n (f.mail a i m p) (f.mail a j n q) same less;
  positive = λ a i m p. h.positive a i m (f.mail a i m p);
  bounded = λ a i m p. omega (arith, h.bounded a i m (f.mail a i m p), f.lasts m.sender);
  apart = λ a c i j m n p q same number. h.apart a c i j m n (f.mail a i m p) (f.mail c j n q) same number;
}

pub follows_refl : (w : World) → Follows w w
follows_refl w = record { mail = λ a i m p. p; lasts = λ s. omega arith }

-- what changes of an actor's that keep what it accepted and no smaller last number
abbrev pub KeepsMail : WorldActor → WorldActor → Type 0
KeepsMail b d = (d.accepted ≡ b.accepted) × (b.last ≤ d.last)

last_by : (f : WorldActor → WorldActor) (k : ℕ) (actors : List WorldActor) (j : ℕ) (o : Option WorldActor)
    → slice_get actors j ≡ o
    → ((b : WorldActor) → slice_get actors k ≡ Some b → b.last ≤ (f b).last)
    → actor_last o ≤ actor_last (slice_get (change_at f k actors) j)
last_by f k actors j None e h = omega arith
last_by f k actors j (Some b) e h = elim (get-change-any f k actors j b e) [
  | inl there ↦ subst (λ (o : Option WorldActor). b.last ≤ actor_last o) (sym there) (omega arith)
  | inr s ↦ subst (λ (o : Option WorldActor). b.last ≤ actor_last o) (sym s.1) (h b (subst (λ (n : ℕ). slice_get actors n ≡ Some b) s.0 e))
]

lasts_change : (w : World) (a : ActorId) (f : WorldActor → WorldActor)
    → ((b : WorldActor) → slice_get w.actors a.0 ≡ Some b → b.last ≤ (f b).last)
    → (s : Sender) → last_number w s ≤ last_number (change f a w) s
lasts_change w a f h (Client s) = omega arith
lasts_change w a f h (Actor c) = last_by f a.0 w.actors c.0 (slice_get w.actors c.0) refl h

mail_change : (w : World) (a : ActorId) (f : WorldActor → WorldActor)
    → ((b : WorldActor) → slice_get w.actors a.0 ≡ Some b → (f b).accepted ≡ b.accepted)
    → (k i : ℕ) (m : Message) → IsAccepted (change f a w) k i m → IsAccepted w k i m
mail_change w a f h k i m p =
    let back = get-change-back f a.0 w.actors k p.0 p.1 in
    let same : p.0.accepted ≡ back.0.accepted = elim back.2 [
      | inl e ↦ ap (λ (b : WorldActor). b.accepted) e
      | inr s ↦ ap (λ (b : WorldActor). b.accepted) s.1 ∙ h back.0 (subst (λ (n : ℕ). slice_get w.actors n ≡ Some back.0) s.0 back.1)
    ] in
    (back.0, back.1, ap (λ (ms : List Message). slice_get ms i) (sym same) ∙ p.2)

pub follows_change : (w : World) (a : ActorId) (f : WorldActor → WorldActor)
    → ((b : WorldActor) → slice_get w.actors a.0 ≡ Some b → KeepsMail b (f b)) → Follows w (change f a w)
follows_change w a f h = record {
  mail = mail_change w a f (λ b at. (h b at).0);
  lasts = lasts_change w a f (λ b at. (h b at).1);
}

-- an edit
pub follows_edits : (w : World) (edits : List Edit) → Follows w (record w { edits = edits })
follows_edits w edits = record { mail = λ a i m p. p; lasts = λ s. lasts_edits w edits s }
  where
    lasts_edits : (w : World) (edits : List Edit) (s : Sender) → last_number w s ≤ last_number (record w { edits = edits }) s
    lasts_edits w edits (Client s) = omega arith
    lasts_edits w edits (Actor a) = omega arith

pushed_last : (x : WorldActor) (actors : List WorldActor) (j : ℕ) (o : Option WorldActor) → slice_get actors j ≡ o → actor_last o ≤ actor_last (slice_get (actors ++ x ∷ []) j)
pushed_last x actors j None e = omega arith
pushed_last x actors j (Some b) e = subst (λ (o : Option WorldActor). b.last ≤ actor_last o) (sym (slice_get_kept actors (x ∷ []) j b e)) (omega arith)

no_mail : (i : ℕ) (m : Message) → slice_get [] i ≡ Some m → ⊥
no_mail i m e = cc

-- a new actor
pub follows_new : (c : Constants) (class : ClassId) (w : World) → Follows w (with_new c class w)
follows_new c class w = record { mail = mail; lasts = lasts }
  where
    x : WorldActor
    x = new_world_actor w.edits class c.capacity

    mail : (a i : ℕ) (m : Message) → IsAccepted (with_new c class w) a i m → IsAccepted w a i m
    mail a i m p = elim (get-push-back w.actors x a p.0 p.1) [
      | inl there ↦ (p.0, there, p.2)
      | inr new ↦ absurd (no_mail i m (subst (λ (d : WorldActor). slice_get d.accepted i ≡ Some m) new.1 p.2))
    ]

    lasts : (s : Sender) → last_number w s ≤ last_number (with_new c class w) s
    lasts (Client s) = omega arith
    lasts (Actor a) = pushed_last x w.actors a.0 (slice_get w.actors a.0) refl

-- ---- a message more

-- a mailbox has a message more, of which the number is above its sender's last, and is that then
pub record Receives (w v : World) (a place : ℕ) (m : Message) : Type 0 where
  pub mail : (k i : ℕ) (n : Message) → IsAccepted v k i n → IsAccepted w k i n ⊎ ((k ≡ a) × (i ≡ place) × (n ≡ m))
  pub within : (i : ℕ) (n : Message) → IsAccepted w a i n → i < place
  pub above : last_number w m.sender < m.seq
  pub last : last_number v m.sender ≡ m.seq
  pub lasts : (s : Sender) → last_number w s ≤ last_number v s

-- an earlier message of the sender has a smaller number
earlier : (w : World) (m : Message) (k i : ℕ) (n : Message) → InSendingOrder w → last_number w m.sender < m.seq
    → IsAccepted w k i n → n.sender ≡ m.sender → n.seq < m.seq
earlier w m k i n h above p same =
    omega (arith, above, subst (λ (s : Sender). n.seq ≤ last_number w s) same (h.bounded k i n p))

sender_is : (m n : Message) → n ≡ m → n.sender ≡ m.sender
sender_is m n e = ap (λ (x : Message). x.sender) e

seq_is : (m n : Message) → n ≡ m → n.seq ≡ m.seq
seq_is m n e = ap (λ (x : Message). x.seq) e

pub order_receives : (w v : World) (a place : ℕ) (m : Message) → Receives w v a place m → InSendingOrder w → InSendingOrder v
order_receives w v a place m r h = record {
  rising = λ k i j x y p q same less. elim (r.mail k i x p) [
    | inl p' ↦ elim (r.mail k j y q) [
      | inl q' ↦ h.rising k i j x y p' q' same less
      | inr new ↦ omega (arith, earlier w m k i x h r.above p' (same ∙ sender_is m y new.2), seq_is m y new.2)
    ]
    | inr old ↦ elim (r.mail k j y q) [
      | inl q' ↦ absurd (omega (arith, less, old.1, r.within j y (subst (λ (n : ℕ). IsAccepted w n j y) old.0 q')))
      | inr new ↦ absurd (omega (arith, less, old.1, new.1))
    ]
  ];
  positive = λ k i x p. elim (r.mail k i x p) [
    | inl p' ↦ h.positive k i x p'
    | inr new ↦ omega (arith, seq_is m x new.2, r.above)
  ];
  bounded = λ k i x p. elim (r.mail k i x p) [
    | inl p' ↦ omega (arith, h.bounded k i x p', r.lasts x.sender)
    | inr new ↦ omega (arith, seq_is m x new.2, r.last, ap (last_number v) (sender_is m x new.2))
  ];
  apart = λ k c i j x y p q same number. elim (r.mail k i x p) [
    | inl p' ↦ elim (r.mail c j y q) [
      | inl q' ↦ h.apart k c i j x y p' q' same number
      | inr new ↦ absurd (omega (arith, earlier w m k i x h r.above p' (same ∙ sender_is m y new.2), seq_is m y new.2, number))
    ]
    | inr old ↦ elim (r.mail c j y q) [
      | inl q' ↦ absurd (omega (arith, earlier w m c j y h r.above q' (sym same ∙ sender_is m x old.2), seq_is m x old.2, number))
      | inr new ↦ old.0 ∙ sym new.0
    ]
  ];
}

-- ---- the numbers of clients

eq_refl : (s : ℕ) → (s == s) ≡ true
eq_refl s = grind (arith, nat_tests)

first_is : (s n : ℕ) (ps : List (ℕ × ℕ)) → client_last s ((s, n) ∷ ps) ≡ n
first_is s n ps = ap (λ (b : Bool). cond b n (client_last s ps)) (eq_refl s)

later_is : (t : ℕ) (p : ℕ × ℕ) (ps : List (ℕ × ℕ)) → (t == p.0) ≡ false → client_last t (p ∷ ps) ≡ client_last t ps
later_is t p ps e = ap (λ (b : Bool). cond b p.1 (client_last t ps)) e

not_here : (s t q : ℕ) → (s == q) ≡ true → (t == s) ≡ false → (t == q) ≡ false
not_here s t q e other = grind (arith, nat_tests)

pub put_same : (s n : ℕ) (ps : List (ℕ × ℕ)) → client_last s (put_number s n ps) ≡ n
put_same s n [] = first_is s n []
put_same s n (p ∷ ps) = by (put_same s n ps) (s == p.0) (nat_lt s p.0) refl
  where
    by : client_last s (put_number s n ps) ≡ n → (here before : Bool) → (s == p.0) ≡ here
        → client_last s (cond here ((s, n) ∷ ps) (cond before ((s, n) ∷ p ∷ ps) (p ∷ put_number s n ps))) ≡ n
    by rest true before e = first_is s n ps
    by rest false true e = first_is s n (p ∷ ps)
    by rest false false e = later_is s p (put_number s n ps) e ∙ rest

pub put_other : (s t n : ℕ) (ps : List (ℕ × ℕ)) → (t == s) ≡ false → client_last t (put_number s n ps) ≡ client_last t ps
put_other s t n [] other = later_is t (s, n) [] other
put_other s t n (p ∷ ps) other = by (put_other s t n ps other) (s == p.0) (nat_lt s p.0) refl
  where
    by : client_last t (put_number s n ps) ≡ client_last t ps → (here before : Bool) → (s == p.0) ≡ here
        → client_last t (cond here ((s, n) ∷ ps) (cond before ((s, n) ∷ p ∷ ps) (p ∷ put_number s n ps))) ≡ client_last t (p ∷ ps)
    by rest true before e = later_is t (s, n) ps other ∙ sym (later_is t p ps (not_here s t p.0 e other))
    by rest false true e = later_is t (s, n) (p ∷ ps) other
    by rest false false e = ap (λ (k : ℕ). cond (t == p.0) p.1 k) rest

put_lasts : (s t n : ℕ) (ps : List (ℕ × ℕ)) → client_last s ps < n → client_last t ps ≤ client_last t (put_number s n ps)
put_lasts s t n ps h = by (t == s) refl
  where
    by : (same : Bool) → (t == s) ≡ same → client_last t ps ≤ client_last t (put_number s n ps)
    by true e =
        let is_same : t ≡ s = grind (arith, nat_tests) in
        subst (λ (k : ℕ). client_last k ps ≤ client_last k (put_number s n ps)) (sym is_same) (omega (arith, put_same s n ps, h))
    by false e = omega (arith, put_other s t n ps e)

-- ---- a post

above_by : (o : Option WorldActor) (n : ℕ) → (old_rule (last_at o) n).0 ≡ false → (b : WorldActor) × (o ≡ Some b) × (b.last < n)
above_by None n e = cc
above_by (Some b) n e = (b, refl, above n b.last e)

-- a number that is not refused is above its sender's last
pub number_above : (w : World) (s : Sender) (n : ℕ) → (number_rule w s n).0 ≡ false → last_number w s < n
number_above w (Client s) n e = above n (client_last s w.clients) e
number_above w (Actor c) n e =
    let t = above_by (slice_get w.actors c.0) n e in
    subst (λ (o : Option WorldActor). actor_last o < n) (sym t.1) t.2

-- the sender's last number, in a world in which a message was accepted
sender_after : (w : World) (a c : ActorId) (m : Message) (b : WorldActor) → slice_get w.actors c.0 ≡ Some b
    → (d : WorldActor) × (slice_get (change (with_accepted m) a w).actors c.0 ≡ Some d)
sender_after w a c m b e = elim (get-change-any (with_accepted m) a.0 w.actors c.0 b e) [
  | inl there ↦ (b, there)
  | inr s ↦ (with_accepted m b, s.1)
]

last_is_kept : (w : World) (a c : ActorId) (m : Message) (d : WorldActor) → slice_get (change (with_accepted m) a w).actors c.0 ≡ Some d
    → (b : WorldActor) × (slice_get w.actors c.0 ≡ Some b) × (d.last ≡ b.last)
last_is_kept w a c m d e =
    let back = get-change-back (with_accepted m) a.0 w.actors c.0 d e in
    (back.0, back.1, elim back.2 [ inl same ↦ ap (λ (b : WorldActor). b.last) same | inr s ↦ ap (λ (b : WorldActor). b.last) s.1 ])

mail_last : (w : World) (s : Sender) (n : ℕ) (k i : ℕ) (m : Message) → IsAccepted (with_last s n w) k i m → IsAccepted w k i m
mail_last w (Client s) n k i m p = p
mail_last w (Actor c) n k i m p = mail_change w c (λ b. record b { last = n }) (λ b at. refl) k i m p

some_same : (b d : WorldActor) → Some b ≡ Some d → b ≡ d
some_same b d e = cc

mail_post : (w : World) (a : ActorId) (m : Message) (b : WorldActor) → slice_get w.actors a.0 ≡ Some b
    → (k i : ℕ) (n : Message) → IsAccepted (change (with_accepted m) a w) k i n
    → IsAccepted w k i n ⊎ ((k ≡ a.0) × (i ≡ length b.accepted) × (n ≡ m))
mail_post w a m b at k i n p =
    let back = get-change-back (with_accepted m) a.0 w.actors k p.0 p.1 in
    elim back.2 [
      | inl same ↦ inl (back.0, back.1, subst (λ (d : WorldActor). slice_get d.accepted i ≡ Some n) same p.2)
      | inr s ↦
          let new : slice_get (back.0.accepted ++ m ∷ []) i ≡ Some n = subst (λ (d : WorldActor). slice_get d.accepted i ≡ Some n) s.1 p.2 in
          let here : back.0 ≡ b = some_same back.0 b (sym back.1 ∙ ap (λ (j : ℕ). slice_get w.actors j) s.0 ∙ at) in
          elim (slice_get_push back.0.accepted m n i new) [
            | inl old ↦ inl (back.0, back.1, old.1)
            | inr last ↦ inr (s.0, last.0 ∙ ap (λ (d : WorldActor). length d.accepted) here, sym last.1)
          ]
    ]

last_post : (w u : World) (s : Sender) (n : ℕ) → (number_rule w s n).0 ≡ false
    → ((c : ActorId) (b : WorldActor) → slice_get w.actors c.0 ≡ Some b → (d : WorldActor) × (slice_get u.actors c.0 ≡ Some d))
    → last_number (with_last s n u) s ≡ n
last_post w u (Client s) n e h = put_same s n u.clients
last_post w u (Actor c) n e h =
    let t = above_by (slice_get w.actors c.0) n e in
    let d = h c t.0 t.1 in
    ap actor_last (get-change (λ b. record b { last = n }) c.0 u.actors d.0 d.1)

lasts_post : (w : World) (a : ActorId) (m : Message) (s : Sender) (n : ℕ) → (number_rule w s n).0 ≡ false
    → (t : Sender) → last_number (change (with_accepted m) a w) t ≤ last_number (with_last s n (change (with_accepted m) a w)) t
lasts_post w a m (Client s) n e (Client t) = put_lasts s t n w.clients (number_above w (Client s) n e)
lasts_post w a m (Client s) n e (Actor d) = omega arith
lasts_post w a m (Actor c) n e (Client t) = omega arith
lasts_post w a m (Actor c) n e (Actor d) = lasts_change (change (with_accepted m) a w) c (λ b. record b { last = n })
    (λ x at. let kept = last_is_kept w a c m x at in
    let below = above_by (slice_get w.actors c.0) n e in
    let same : below.0 ≡ kept.0 = some_same below.0 kept.0 (sym below.1 ∙ kept.1) in
    omega (arith, kept.2, below.2, ap (λ (b : WorldActor). b.last) same)) (Actor d)

-- the actor to which a message is posted is there, and may get it
pub post_there : (c : Constants) (w : World) (a : ActorId) (m : Message)
    → is_none (first_of (post_rules c.names w (slice_get w.actors a.0) m)) ≡ true
    → (b : WorldActor) × (slice_get w.actors a.0 ≡ Some b) × MayPost c w m b
post_there c w a m h = by (slice_get w.actors a.0) h
  where
    by : (o : Option WorldActor) → is_none (first_of (post_rules c.names w o m)) ≡ true → (b : WorldActor) × (o ≡ Some b) × MayPost c w m b
    by None e = cc
    by (Some b) e = (b, refl, may_post c w m b (rules_of c w m (Some b) b refl e))

-- a post is a message more
pub post_receives : (c : Constants) (w : World) (a : ActorId) (m : Message) (b : WorldActor) → slice_get w.actors a.0 ≡ Some b → MayPost c w m b
    → Receives w (with_last m.sender m.seq (change (with_accepted m) a w)) a.0 (length b.accepted) m
post_receives c w a m b at may = record {
  mail = λ k i n p. mail_post w a m b at k i n (mail_last (change (with_accepted m) a w) m.sender m.seq k i n p);
  within = λ i n p. subst (λ (d : WorldActor). i < length d.accepted) (some_same p.0 b (sym p.1 ∙ at)) (slice_get_within p.0.accepted i n p.2);
  above = number_above w m.sender m.seq may.number;
  last = last_post w (change (with_accepted m) a w) m.sender m.seq may.number (λ s x e. sender_after w a s m x e);
  lasts = λ s. omega (arith, lasts_change w a (with_accepted m) (λ x e. omega arith) s, lasts_post w a m m.sender m.seq may.number s);
}

-- ---- accepted once

pub accepted_once : (w : World) → InSendingOrder w → AcceptedOnce w
accepted_once w h a c i j m n p q same number =
    let here : a ≡ c = h.apart a c i j m n p q same number in
    let q' : IsAccepted w a j n = subst (λ (k : ℕ). IsAccepted w k j n) (sym here) q in (
      here,
      elim (less_or_not i j) [
        | inl less ↦ absurd (omega (arith, h.rising a i j m n p q' same less, number))
        | inr rest ↦ elim rest [
          | inl more ↦ absurd (omega (arith, h.rising a j i n m q' p (sym same) more, number))
          | inr equal ↦ equal
        ]
      ],
    )
  where
    less_or_not : (i j : ℕ) → (i < j) ⊎ ((j < i) ⊎ (i ≡ j))
    less_or_not zero zero = inr (inr refl)
    less_or_not zero (suc j) = inl (omega arith)
    less_or_not (suc i) zero = inr (inl (omega arith))
    less_or_not (suc i) (suc j) = elim (less_or_not i j) [
      | inl less ↦ inl (omega (arith, less))
      | inr rest ↦ elim rest [ inl more ↦ inr (inl (omega (arith, more))) | inr equal ↦ inr (inr (ap suc equal)) ]
    ]

-- ---- what is begun

-- what an actor has begun it accepted, at the same place
begun_accepted : (w : World) → All BeginsInOrder w.actors → (a i : ℕ) (m : Message) → HasBegun w a i m → IsAccepted w a i m
begun_accepted w all a i m p =
    let begins : BeginsInOrder p.0 = at_all BeginsInOrder w.actors a p.0 all p.1 in
    (p.0, p.1, ap (λ (ms : List Message). slice_get ms i) begins.1 ∙ slice_get_kept p.0.begun begins.0 i m p.2)

pub begun_in_order : (w : World) → All BeginsInOrder w.actors → InSendingOrder w → BegunInSendingOrder w
begun_in_order w all h = record {
  rising = λ a i j m n p q same less. h.rising a i j m n (begun_accepted w all a i m p) (begun_accepted w all a j n q) same less;
  once = λ a c i j m n p q same number. accepted_once w h a c i j m n (begun_accepted w all a i m p) (begun_accepted w all c j n q) same number;
}

-- ---- a new image

no_actor : (a : ℕ) (b : WorldActor) → slice_get [] a ≡ Some b → ⊥
no_actor a b e = cc

-- nothing was accepted yet
pub start_in_order : InSendingOrder start
start_in_order = record {
  rising = λ a i j m n p q same less. absurd (no_actor a p.0 p.1);
  positive = λ a i m p. absurd (no_actor a p.0 p.1);
  bounded = λ a i m p. absurd (no_actor a p.0 p.1);
  apart = λ a c i j m n p q same number. absurd (no_actor a p.0 p.1);
}
