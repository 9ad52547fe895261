-- Values of replies stay tidy while they are put together.
use Rattle.std.proofs.Common.{◌≡◌, ℕ, List, [], ◌∷◌, ◌++◌, Bool, true, false, ◌&&◌, ◌||◌, Ordering, Less, Equal, Greater, nat_cmp, refl, ap, ◌∙◌, true≢false, sym, subst, Result, Ok, Err, String, Global}
use Rattle.std.specs.Prelude.{OnOk, OnErr}
use Rattle.std.proofs.lemmas.Bool.{and_parts}
use Rattle.std.proofs.lemmas.Cmp.{nat_list_cmp_total}
use Rattle.std.specs.Cmp.Lexicographic.{slice_cmp}
use Rattle.std.specs.Ordering.{match_ordering, ordering_reverse}
use Rattle.serde_json.specs.Data.{Data, Members, no_members, member, put}
use Rattle.serde_json.specs.View.{view, items_view, members_view}
use Rattle.serde_json.specs.Written.{has_float, items_have_float, members_have_float}
use Rattle.serde_json.specs.declared.value.Value.{Value}
use Rattle.st_wire.specs.Json.{comes_first, keys_rise, keys_rise_in_items, keys_rise_in_members}
use Rattle.st_wire.specs.Told.{IsTidy, AreTidyItems, AreTidyMembers}

both : {a b : Bool} → a ≡ true → b ≡ true → (a && b) ≡ true
both p q = rw (p, q) refl

neither : {a b : Bool} → a ≡ false → b ≡ false → (a || b) ≡ false
neither p q = rw (p, q) refl

none_of : (a b : Bool) → (a || b) ≡ false → (a ≡ false) × (b ≡ false)
none_of true b h = absurd (true≢false h)
none_of false b h = (refl, h)

-- ---- no floats

put_whole : (k : List ℕ) (d : Data) (ms : Members) → has_float d ≡ false → members_have_float ms ≡ false → members_have_float (put k d ms) ≡ false
put_whole k d no_members h g = neither h refl
put_whole k d (member l e ms) h g = by (slice_cmp nat_cmp k l) (put_whole k d ms h (none_of (has_float e) _ g).1)
  where
    by : (o : Ordering) → members_have_float (put k d ms) ≡ false → members_have_float (match_ordering o (member k d (member l e ms)) (member l d ms) (member l e (put k d ms))) ≡ false
    by Less later = neither h g
    by Equal later = neither h (none_of (has_float e) _ g).1
    by Greater later = neither (none_of (has_float e) _ g).0 later

-- ---- keys in their order

first_put : (l k : List ℕ) (d : Data) (ms : Members) → slice_cmp nat_cmp l k ≡ Less → comes_first l ms ≡ true → comes_first l (put k d ms) ≡ true
first_put l k d no_members less h = rw less refl
first_put l k d (member m e ms) less h = by (slice_cmp nat_cmp k m)
  where
    by : (o : Ordering) → comes_first l (match_ordering o (member k d (member m e ms)) (member m d ms) (member m e (put k d ms))) ≡ true
    by Less = rw less refl
    by Equal = h
    by Greater = h

put_ordered : (k : List ℕ) (d : Data) (ms : Members) → keys_rise d ≡ true → keys_rise_in_members ms ≡ true → keys_rise_in_members (put k d ms) ≡ true
put_ordered k d no_members h g = both (both h refl) refl
put_ordered k d (member l e ms) h g = by (slice_cmp nat_cmp k l) refl (put_ordered k d ms h parts.2)
  where
    parts : (keys_rise e ≡ true) × (comes_first l ms ≡ true) × (keys_rise_in_members ms ≡ true)
    parts =
        let outer = and_parts (keys_rise e && comes_first l ms) (keys_rise_in_members ms) g in
        let inner = and_parts (keys_rise e) (comes_first l ms) outer.0 in
        (inner.0, inner.1, outer.1)

    by : (o : Ordering) → slice_cmp nat_cmp k l ≡ o → keys_rise_in_members (put k d ms) ≡ true → keys_rise_in_members (match_ordering o (member k d (member l e ms)) (member l d ms) (member l e (put k d ms))) ≡ true
    by Less is later = both (both h (rw is refl)) g
    by Equal is later = both (both h parts.1) parts.2
    by Greater is later =
        let below : slice_cmp nat_cmp l k ≡ Less = nat_list_cmp_total.antisymm l k ∙ ap ordering_reverse is in
        both (both parts.0 (first_put l k d ms below parts.1)) later

pub put_tidy : (k : List ℕ) (d : Data) (ms : Members) → IsTidy d → AreTidyMembers ms → AreTidyMembers (put k d ms)
put_tidy k d ms h g = record { whole = put_whole k d ms h.whole g.whole; ordered = put_ordered k d ms h.ordered g.ordered }

-- a value is put, unless memory runs out
pub put_keeps : {E : Type 0} (r : Result (Unit {0}) E) (k : List ℕ) (d : Data) (old new : List (String Global × Value)) → OnOk r (members_view new ≡ put k d (members_view old)) → OnErr r (new ≡ old) → IsTidy d → AreTidyMembers (members_view old) → AreTidyMembers (members_view new)
put_keeps (Ok u) k d old new ok err h g = subst AreTidyMembers (sym ok) (put_tidy k d (members_view old) h g)
put_keeps (Err e) k d old new ok err h g = subst (λ es. AreTidyMembers (members_view es)) (sym err) g

-- ---- one item more

push_whole : (vs : List Value) (v : Value) → has_float (view v) ≡ false → items_have_float (items_view vs) ≡ false → items_have_float (items_view (vs ++ v ∷ [])) ≡ false
push_whole [] v h g = neither h refl
push_whole (w ∷ vs) v h g = let parts = none_of (has_float (view w)) _ g in neither parts.0 (push_whole vs v h parts.1)

push_ordered : (vs : List Value) (v : Value) → keys_rise (view v) ≡ true → keys_rise_in_items (items_view vs) ≡ true → keys_rise_in_items (items_view (vs ++ v ∷ [])) ≡ true
push_ordered [] v h g = both h refl
push_ordered (w ∷ vs) v h g = let parts = and_parts (keys_rise (view w)) (keys_rise_in_items (items_view vs)) g in both parts.0 (push_ordered vs v h parts.1)

pub push_tidy : (vs : List Value) (v : Value) → IsTidy (view v) → AreTidyItems (items_view vs) → AreTidyItems (items_view (vs ++ v ∷ []))
push_tidy vs v h g = record { whole = push_whole vs v h.whole g.whole; ordered = push_ordered vs v h.ordered g.ordered }
