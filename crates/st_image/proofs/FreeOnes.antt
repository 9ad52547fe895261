-- The flags of the actors that may be checked out, where one of them changes.
use Rattle.std.proofs.Common.{arith, ◌≡◌, ℕ, zero, suc, ◌<◌, ◌++◌, [], ◌∷◌, List, length, Some, Bool, true, false, cond, refl, ap, sym, ◌∙◌, subst, slice_get, slice_set, get_or, nat_eq, length-append}
use Rattle.std.specs.Prelude.{not, ◌||◌, ◌&&◌, ◌==◌}
use Rattle.std.proofs.Math.Dec.{eqb-suc-zero, eqb-zero-suc, eqb-suc-suc}
use Rattle.std.proofs.Math.ListN.{length-set}
use Rattle.std.proofs.Math.Seq.{set-append_seam}
use Rattle.std.proofs.lemmas.Bool.Decides.{nat_tests}
use Rattle.std.proofs.lemmas.List.{set-get_or, get_or_read}
use Rattle.std.proofs.lemmas.Option.{slice_get-get_or}
use Rattle.st_bitset.specs.BitSet.{is_raised}
use Rattle.st_turn.specs.Idle.{is_idle}
use Rattle.st_turn.specs.declared.body.Phase.TheVariants.{Fresh}
use Rattle.st_mailbox.specs.declared.messages.Message.{Message}
use Rattle.st_image.specs.Worlds.{change_at}
use Rattle.st_image.specs.ClaimsOut.{claims_of, one_more}
use Rattle.st_image.specs.ActorViews.{AreActors, ActorView, ActorsView, view_begins, view_after_begin, is_ready_in, is_ready_view, view_with_message}
use Rattle.st_image.proofs.Lists.{set_at_same}
use Rattle.st_image.proofs.Changing.{change_here, within_back}

-- an actor that is there
pub here : (ks : List ActorView) (a : ℕ) (k : ActorView) → a < length ks → k ≡ get_or ks a k → slice_get ks a ≡ Some k
here ks a k h e = slice_get-get_or ks a k h ∙ ap (λ (x : ActorView). Some x) (sym e)

same_kept : (k l : ActorView) → Some k ≡ Some l → k ≡ l
same_kept k l e = cc

pub only_one : (ks : List ActorView) (a : ℕ) (k l : ActorView) → slice_get ks a ≡ Some k → slice_get ks a ≡ Some l → k ≡ l
only_one ks a k l e f = same_kept k l (sym e ∙ f)

-- a change of an actor that is there
pub put_is : (f : ActorView → ActorView) (ks old : List ActorView) (a : ℕ) (k k' : ActorView) → ks ≡ old → slice_get ks a ≡ Some k → k' ≡ f k → slice_set ks a k' ≡ change_at f a old
put_is f ks old a k k' same at e = ap (slice_set ks a) e ∙ sym (change_here f a ks k at) ∙ ap (change_at f a) same

ready_set : (ks : List ActorView) (a q : ℕ) (k k' : ActorView) → slice_get ks a ≡ Some k → is_ready_in (slice_set ks a k') q ≡ cond (nat_eq a q) (is_ready_view k') (is_ready_in ks q)
ready_set [] a q k k' e = cc
ready_set (x ∷ ks) zero zero k k' e = refl
ready_set (x ∷ ks) zero (suc q) k k' e = ap (λ (t : Bool). cond t (is_ready_view k') (is_ready_in (x ∷ ks) (suc q))) (sym (eqb-zero-suc q))
ready_set (x ∷ ks) (suc a) zero k k' e = ap (λ (t : Bool). cond t (is_ready_view k') (is_ready_in (x ∷ ks) zero)) (sym (eqb-suc-zero a))
ready_set (x ∷ ks) (suc a) (suc q) k k' e = ready_set ks a q k k' e ∙ ap (λ (t : Bool). cond t (is_ready_view k') (is_ready_in ks q)) (sym (eqb-suc-suc a q))

ready_push : (ks : List ActorView) (k : ActorView) (q : ℕ) → is_ready_view k ≡ false → is_ready_in (ks ++ k ∷ []) q ≡ is_ready_in ks q
ready_push [] k zero h = h
ready_push [] k (suc q) h = refl
ready_push (x ∷ ks) k zero h = refl
ready_push (x ∷ ks) k (suc q) h = ready_push ks k q h

same_number : (a q : ℕ) → nat_eq a q ≡ true → a ≡ q
same_number a q h = grind (arith, nat_tests)

ready_at : (ks : List ActorView) (a : ℕ) (k : ActorView) → slice_get ks a ≡ Some k → is_ready_in ks a ≡ is_ready_view k
ready_at ks a k e = rw e refl

-- an item in the place of another
index_set : {X : Type 0} (xs : List X) (a q : ℕ) (x d : X) → a < length xs → get_or (slice_set xs a x) q d ≡ cond (nat_eq a q) x (get_or xs q d)
index_set [] a q x d h = absurd (omega (arith, h))
index_set (y ∷ ys) zero zero x d h = refl
index_set (y ∷ ys) zero (suc q) x d h = ap (λ (t : Bool). cond t x (get_or (y ∷ ys) (suc q) d)) (sym (eqb-zero-suc q))
index_set (y ∷ ys) (suc a) zero x d h = ap (λ (t : Bool). cond t x (get_or (y ∷ ys) zero d)) (sym (eqb-suc-zero a))
index_set (y ∷ ys) (suc a) (suc q) x d h = index_set ys a q x d (omega (arith, h)) ∙ ap (λ (t : Bool). cond t x (get_or ys q d)) (sym (eqb-suc-suc a q))

-- one more at the end, which is what is past the end
pub index_push : {X : Type 0} (xs : List X) (d : X) (q : ℕ) → get_or (xs ++ d ∷ []) q d ≡ get_or xs q d
index_push [] d zero = refl
index_push [] d (suc q) = refl
index_push (y ∷ ys) d zero = refl
index_push (y ∷ ys) d (suc q) = index_push ys d q

one_of : (e r s f : Bool) (n m : ℕ) → f ≡ (r && (m == 0)) → cond e (s && (n == 0)) f ≡ (cond e s r && (cond e n m == 0))
one_of true r s f n m h = refl
one_of false r s f n m h = h

-- an actor and the count of its claims in the place of others, with its flag
pub put_free : (v : ActorsView) (free : List Bool) (a : ℕ) (k : ActorView) (n : ℕ) → AreActors v free → a < length v.list → AreActors (record { list = slice_set v.list a k; out = slice_set v.out a n }) (slice_set free a (is_ready_view k && (n == 0)))
put_free v free a k n h there =
    let old = within_back v.list a (length v.list) there refl in
    record {
      flags = λ q.
          index_set free a q (is_ready_view k && (n == 0)) false (omega (arith, h.each_flag, there))
          ∙ one_of (nat_eq a q) (is_ready_in v.list q) (is_ready_view k) (is_raised free q) n (claims_of v.out q) (h.flags q)
          ∙ ap (λ (t : Bool). t && (cond (nat_eq a q) n (claims_of v.out q) == 0)) (sym (ready_set v.list a q old.0 k old.1))
          ∙ ap (λ (m : ℕ). is_ready_in (slice_set v.list a k) q && (m == 0)) (sym (index_set v.out a q n 0 (omega (arith, h.each_count, there))));
      each_flag = omega (arith, h.each_flag, length-set free a (is_ready_view k && (n == 0)), length-set v.list a k);
      each_count = omega (arith, h.each_count, length-set v.out a n, length-set v.list a k);
      few = omega (arith, h.few, length-set v.list a k);
    }

-- with the count as it was
pub put_kept : (v : ActorsView) (free : List Bool) (a : ℕ) (k : ActorView) → AreActors v free → a < length v.list → AreActors (record { list = slice_set v.list a k; out = v.out }) (slice_set free a (is_ready_view k && (claims_of v.out a == 0)))
put_kept v free a k h there = subst (λ (ns : List ℕ). AreActors (record { list = slice_set v.list a k; out = ns }) (slice_set free a (is_ready_view k && (claims_of v.out a == 0)))) (set-get_or v.out a 0) (put_free v free a k (claims_of v.out a) h there)

-- the count of an actor that is there
pub count_here : (ns : List ℕ) (a n : ℕ) → a < length ns → n ≡ get_or ns a n → n ≡ claims_of ns a
count_here ns a n h e = get_or_read ns a n h e 0

-- the same, with the flag by its parts
pub mark_kept : (v : ActorsView) (free free' : List Bool) (a : ℕ) (k : ActorView) (r t : Bool) (n : ℕ) → AreActors v free → a < length v.list → n ≡ get_or v.out a n → r ≡ is_ready_view k → t ≡ (r && (n == 0)) → free' ≡ slice_set free a t → AreActors (record { list = slice_set v.list a k; out = v.out }) free'
mark_kept v free free' a k r t n h there e f g put =
    let count : n ≡ claims_of v.out a = count_here v.out a n (omega (arith, h.each_count, there)) e in
    let flag : t ≡ (is_ready_view k && (claims_of v.out a == 0)) = g ∙ ap (λ (b : Bool). b && (n == 0)) f ∙ ap (λ (m : ℕ). is_ready_view k && (m == 0)) count in
    subst (AreActors (record { list = slice_set v.list a k; out = v.out })) (sym (put ∙ ap (slice_set free a) flag)) (put_kept v free a k h there)

-- with the actor as it was
pub put_out : (v : ActorsView) (free : List Bool) (a : ℕ) (k : ActorView) (n : ℕ) → AreActors v free → slice_get v.list a ≡ Some k → a < length v.list → AreActors (record { list = v.list; out = slice_set v.out a n }) (slice_set free a (is_ready_view k && (n == 0)))
put_out v free a k n h at there = subst (λ (ks : List ActorView). AreActors (record { list = ks; out = slice_set v.out a n }) (slice_set free a (is_ready_view k && (n == 0)))) (set_at_same v.list a k at) (put_free v free a k n h there)

stays_by : (ks : List ActorView) (a q : ℕ) (k : ActorView) (b t : Bool) → nat_eq a q ≡ t → slice_get ks a ≡ Some k → b ≡ is_ready_view k → is_ready_in ks q ≡ cond t b (is_ready_in ks q)
stays_by ks a q k b true e at same = sym (ap (is_ready_in ks) (same_number a q e)) ∙ ready_at ks a k at ∙ sym same
stays_by ks a q k b false e at same = refl

-- an actor in the place of another that was as ready
pub same_free : (v : ActorsView) (free : List Bool) (a : ℕ) (k k' : ActorView) → AreActors v free → slice_get v.list a ≡ Some k → is_ready_view k' ≡ is_ready_view k → AreActors (record { list = slice_set v.list a k'; out = v.out }) free
same_free v free a k k' h at same = record {
  flags = λ q. h.flags q ∙ ap (λ (t : Bool). t && (claims_of v.out q == 0)) (stays_by v.list a q k (is_ready_view k') (nat_eq a q) refl at same ∙ sym (ready_set v.list a q k k' at));
  each_flag = omega (arith, h.each_flag, length-set v.list a k');
  each_count = omega (arith, h.each_count, length-set v.list a k');
  few = omega (arith, h.few, length-set v.list a k');
}

-- a new actor that is not ready
pub push_free : (v : ActorsView) (free : List Bool) (k : ActorView) → AreActors v free → length v.list < 65536 → is_ready_view k ≡ false → AreActors (record { list = v.list ++ k ∷ []; out = v.out ++ 0 ∷ [] }) (free ++ false ∷ [])
push_free v free k h few idle = record {
  flags = λ q.
      index_push free false q ∙ h.flags q
      ∙ ap (λ (t : Bool). t && (claims_of v.out q == 0)) (sym (ready_push v.list k q idle))
      ∙ ap (λ (m : ℕ). is_ready_in (v.list ++ k ∷ []) q && (m == 0)) (sym (index_push v.out 0 q));
  each_flag = omega (arith, h.each_flag, length-append free (false ∷ []), length-append v.list (k ∷ []));
  each_count = omega (arith, h.each_count, length-append v.out (0 ∷ []), length-append v.list (k ∷ []));
  few = omega (arith, few, length-append v.list (k ∷ []));
}

or_true : (b : Bool) → (b || true) ≡ true
or_true true = refl
or_true false = refl

some_last : (xs : List Message) (m : Message) → (length (xs ++ m ∷ []) == 0) ≡ false
some_last [] m = refl
some_last (x ∷ xs) m = eqb-suc-zero (length (xs ++ m ∷ []))

pub ready_taken : (m : Message) (k : ActorView) → is_ready_view (view_with_message m k) ≡ true
ready_taken m k = rw (some_last k.pending m) (or_true (not (is_idle k.body.phase)))

ready_by : (k : ActorView) (ms : List Message) → k.pending ≡ ms → is_ready_view (view_begins k ms) ≡ is_ready_view k
ready_by k [] e = refl
ready_by k (m ∷ ms) e = sym (ap (λ (xs : List Message). not (is_idle k.body.phase) || not (length xs == 0)) e ∙ ap (λ (t : Bool). not (is_idle k.body.phase) || not t) (eqb-suc-zero (length ms)) ∙ or_true (not (is_idle k.body.phase)))

-- to begin a message leaves an actor as ready as it was
pub ready_begun : (k : ActorView) → is_ready_view (view_after_begin k) ≡ is_ready_view k
ready_begun k = ready_by k k.pending refl

-- a change of an actor that is there, as callers see it
pub put_view : (f : ActorView → ActorView) (v old : ActorsView) (a : ℕ) (k k' : ActorView) → v ≡ old → slice_get v.list a ≡ Some k → k' ≡ f k → (let new : ActorsView = record { list = slice_set v.list a k'; out = v.out } in new) ≡ (let after : ActorsView = record old { list = change_at f a old.list } in after)
put_view f v old a k k' same at e =
    let put : slice_set v.list a k' ≡ change_at f a v.list = ap (slice_set v.list a) e ∙ sym (change_here f a v.list k at) in
    ap (λ (ks : List ActorView). let new : ActorsView = record { list = ks; out = v.out } in new) put ∙ ap (λ (x : ActorsView). let new : ActorsView = record x { list = change_at f a x.list } in new) same

-- an actor that is there and stays as it was
pub put_same : (v : ActorsView) (a : ℕ) (k k' : ActorView) → slice_get v.list a ≡ Some k → k' ≡ k → (let new : ActorsView = record { list = slice_set v.list a k'; out = v.out } in new) ≡ v
put_same v a k k' at e = ap (λ (ks : List ActorView). let new : ActorsView = record { list = ks; out = v.out } in new) (ap (slice_set v.list a) e ∙ set_at_same v.list a k at)

-- ---- the counts of claims

-- the same, with another count and the flag by its parts
pub mark_out : (v : ActorsView) (free free' : List Bool) (a : ℕ) (k : ActorView) (r t : Bool) (n : ℕ) → AreActors v free → slice_get v.list a ≡ Some k → a < length v.list → r ≡ is_ready_view k → t ≡ (r && (n == 0)) → free' ≡ slice_set free a t → AreActors (record { list = v.list; out = slice_set v.out a n }) free'
mark_out v free free' a k r t n h at there e f put =
    let flag : t ≡ (is_ready_view k && (n == 0)) = f ∙ ap (λ (b : Bool). b && (n == 0)) e in
    subst (AreActors (record { list = v.list; out = slice_set v.out a n })) (sym (put ∙ ap (slice_set free a) flag)) (put_out v free a k n h at there)

and_no : (b : Bool) → (b && false) ≡ false
and_no true = refl
and_no false = refl

some_out : (m : ℕ) → (one_more m == 0) ≡ false
some_out m = grind (arith, nat_tests)

-- an actor with a claim more out is not free
pub mark_more : (v : ActorsView) (free free' : List Bool) (a : ℕ) (k : ActorView) (m n : ℕ) → AreActors v free → a < length v.list → n ≡ one_more m → free' ≡ slice_set free a false → AreActors (record { list = slice_set v.list a k; out = slice_set v.out a n }) free'
mark_more v free free' a k m n h there e put =
    let none : (is_ready_view k && (n == 0)) ≡ false = ap (λ (x : ℕ). is_ready_view k && (x == 0)) e ∙ ap (λ (b : Bool). is_ready_view k && b) (some_out m) ∙ and_no (is_ready_view k) in
    subst (AreActors (record { list = slice_set v.list a k; out = slice_set v.out a n })) (sym (put ∙ ap (slice_set free a) (sym none))) (put_free v free a k n h there)

-- a count that was changed
pub put_count : (f : ℕ → ℕ) (ns : List ℕ) (a m n : ℕ) → a < length ns → m ≡ get_or ns a m → n ≡ f m → slice_set ns a n ≡ change_at f a ns
put_count f ns a m n h e g =
    let at : slice_get ns a ≡ Some m = slice_get-get_or ns a m h ∙ ap Some (sym e) in
    ap (slice_set ns a) g ∙ sym (change_here f a ns m at)

-- ---- an actor that is put last, ready or not

set_last : {X : Type 0} (xs : List X) (x y : X) (n : ℕ) → n ≡ length xs → slice_set (xs ++ x ∷ []) n y ≡ xs ++ y ∷ []
set_last xs x y n e = ap (λ (m : ℕ). slice_set (xs ++ x ∷ []) m y) e ∙ set-append_seam xs x [] y

-- an actor in its place that is not ready
abbrev pub at_rest : ActorView → ActorView
at_rest k = record k { pending = []; body = record k.body { phase = Fresh } }

and_none : (b : Bool) → (b && (0 == 0)) ≡ b
and_none true = refl
and_none false = refl

pub push_any : (v : ActorsView) (free free' : List Bool) (k : ActorView) (n : ℕ) (r : Bool) → AreActors v free → length v.list < 65536 → n ≡ length v.list → r ≡ is_ready_view k → free' ≡ slice_set (free ++ false ∷ []) n r → AreActors (record { list = v.list ++ k ∷ []; out = v.out ++ 0 ∷ [] }) free'
push_any v free free' k n r h few place ready set =
    let rest : AreActors (record { list = v.list ++ at_rest k ∷ []; out = v.out ++ 0 ∷ [] }) (free ++ false ∷ []) = push_free v free (at_rest k) h few refl in
    let within : n < length (v.list ++ at_rest k ∷ []) = omega (arith, place, length-append v.list (at_rest k ∷ [])) in
    let put = put_free (record { list = v.list ++ at_rest k ∷ []; out = v.out ++ 0 ∷ [] }) (free ++ false ∷ []) n k 0 rest within in
    let kept : slice_set (v.list ++ at_rest k ∷ []) n k ≡ v.list ++ k ∷ [] = set_last v.list (at_rest k) k n place in
    let out : slice_set (v.out ++ 0 ∷ []) n 0 ≡ v.out ++ 0 ∷ [] = set_last v.out 0 0 n (place ∙ sym h.each_count) in
    let flags : slice_set (free ++ false ∷ []) n (is_ready_view k && (0 == 0)) ≡ free' = ap (slice_set (free ++ false ∷ []) n) (and_none (is_ready_view k) ∙ sym ready) ∙ sym set in
    rw (kept, out, flags) at put
