-- The failures of a history, and what is kept of them.
use Rattle.std.proofs.Common.{arith, refl, ◌≡◌, ℕ, zero, suc, ◌+◌, ◌≤◌, List, [], ◌∷◌, ◌++◌, Option, Some, None, ap, sym, ◌∙◌, subst, length, option_and_then, append_assoc, append-nil}
use Rattle.std.specs.Prelude.{All, nat_lt, slice_get}
use Rattle.std.specs.Option.{option_to_list}
use Rattle.std.proofs.lemmas.List.{length-append}
use Rattle.std.proofs.lemmas.List.Elements.{All-head, All-tail}
use Rattle.st_classes.specs.declared.values.ActorId.{ActorId}
use Rattle.st_classes.specs.declared.edits.Edit.{Edit}
use Rattle.st_image.specs.declared.history.Item.{Item}
use Rattle.st_image.specs.declared.history.Item.TheVariants.{Edited, Created, Posted, Closed, Begun, Ran}
use Rattle.st_image.specs.declared.settings.Settings.{Settings}
use Rattle.st_image.specs.Worlds.{Constants, World}
use Rattle.st_image.specs.Replay.{after_step, next, replay}
use Rattle.st_image.specs.Counts.{ran_of, weigh}
use Rattle.st_image.specs.Images.{world_of}
use Rattle.st_image.specs.ActorViews.{ActorView}
use Rattle.st_image.specs.ActResults.{constants_of, world_after}
use Rattle.st_image.specs.WorldInvariant.{IsSoundItem, IsWorld, first_turn}
use Rattle.st_image.specs.ImageInvariant.{IsImage}
use Rattle.st_image.specs.NewestResults.{newest}
use Rattle.st_image.specs.Failures.{Failure, KeptFailures, failure_at, failure_by, failure_in, failures_from, failures_kept, failures_through, kept_after}
use Rattle.st_image.proofs.Stepping.{after_then, bound, cond_some, ran_after}
use Rattle.st_image.proofs.Lasting.{named_more, next_keeps, stepped_keeps}
use Rattle.st_image.proofs.NewestResults.{newest_push}
use Rattle.st_image.proofs.Counting.{item_more, some_world, stepped_more}

-- ---- one item more

nothing_from : (o : Option World) → failures_from (λ v. []) o ≡ []
nothing_from None = refl
nothing_from (Some v) = refl

failures_push : (c : Constants) (base : World) (taken : ℕ) (w v : World) (h : List Item) (i : Item) → replay c w h ≡ Some v → failures_through c base taken w (h ++ i ∷ []) ≡ failures_through c base taken w h ++ option_to_list (failure_in c base (taken + weigh ran_of h) v i)
failures_push c base taken w v [] i e =
    let none : taken ≡ taken + weigh ran_of [] = omega arith in
    ap (λ (l : List Failure). option_to_list (failure_in c base taken w i) ++ l) (nothing_from (next c w i))
    ∙ append-nil (option_to_list (failure_in c base taken w i))
    ∙ ap (λ (u : World). option_to_list (failure_in c base taken u i)) (some_world w v e)
    ∙ ap (λ (n : ℕ). option_to_list (failure_in c base n v i)) none
failures_push c base taken w v (j ∷ is) i e =
    let p = bound (λ u. replay c u is) (next c w j) v e in
    let first : List Failure = option_to_list (failure_in c base taken w j) in
    let all : taken + ran_of j + weigh ran_of is ≡ taken + weigh ran_of (j ∷ is) = omega arith in
    let last : List Failure = option_to_list (failure_in c base (taken + weigh ran_of (j ∷ is)) v i) in
    ap (λ (o : Option World). first ++ failures_from (λ x. failures_through c base (taken + ran_of j) x (is ++ i ∷ [])) o) p.1
    ∙ ap (λ (l : List Failure). first ++ l) (failures_push c base (taken + ran_of j) p.0 v is i p.2)
    ∙ ap (λ (n : ℕ). first ++ (failures_through c base (taken + ran_of j) p.0 is ++ option_to_list (failure_in c base n v i))) all
    ∙ sym (append_assoc first (failures_through c base (taken + ran_of j) p.0 is) last)
    ∙ ap (λ (o : Option World). (first ++ failures_from (λ x. failures_through c base (taken + ran_of j) x is) o) ++ last) (sym p.1)

-- an item adds one failure at most
one_at_most : (o : Option Failure) → length (option_to_list o) ≤ 1
one_at_most None = omega arith
one_at_most (Some f) = omega arith

few_from : (f : World → List Failure) (n : ℕ) (o : Option World) → ((v : World) → length (f v) ≤ n) → length (failures_from f o) ≤ n
few_from f n None h = omega arith
few_from f n (Some v) h = h v

pub few_failures : (c : Constants) (base : World) (taken : ℕ) (w : World) (h : List Item) → length (failures_through c base taken w h) ≤ length h
few_failures c base taken w [] = omega arith
few_failures c base taken w (i ∷ is) =
    let rest = few_from (λ v. failures_through c base (taken + ran_of i) v is) (length is) (next c w i) (λ v. few_failures c base (taken + ran_of i) v is) in
    omega (arith, length-append (option_to_list (failure_in c base taken w i)) (failures_from (λ v. failures_through c base (taken + ran_of i) v is) (next c w i)), one_at_most (failure_in c base taken w i), rest)

-- ---- what is kept

kept_more : (fs : List Failure) (o : Option Failure) → failures_kept (fs ++ option_to_list o) ≡ kept_after (failures_kept fs) o
kept_more fs None = ap failures_kept (append-nil fs)
kept_more fs (Some f) =
    ap (λ (xs : List Failure). let k : KeptFailures = record { items = xs; count = length (fs ++ f ∷ []) } in k) (sym (newest_push fs f))
    ∙ ap (λ (n : ℕ). let k : KeptFailures = record { items = newest (newest fs ++ f ∷ []); count = n } in k) (length-append fs (f ∷ []))

pub kept_push : (c : Constants) (base : World) (taken : ℕ) (w v : World) (h : List Item) (i : Item) → replay c w h ≡ Some v → failures_kept (failures_through c base taken w (h ++ i ∷ [])) ≡ kept_after (failures_kept (failures_through c base taken w h)) (failure_in c base (taken + weigh ran_of h) v i)
kept_push c base taken w v h i e = ap failures_kept (failures_push c base taken w v h i e) ∙ kept_more (failures_through c base taken w h) (failure_in c base (taken + weigh ran_of h) v i)

-- what an image keeps, after an item that is no failure
pub failures_other : (base : World) (names : List (List ℕ)) (edits : List Edit) (actors : List ActorView) (h : List Item) (made : ℕ) (s : Settings) (taken : ℕ) (kept : KeptFailures) (i : Item)
    → IsImage base names edits actors h made s → kept ≡ failures_kept (failures_through (constants_of names s.capacity) base taken base h) → failure_in (constants_of names s.capacity) base (taken + weigh ran_of h) (world_of (constants_of names s.capacity) base h) i ≡ None
    → kept ≡ failures_kept (failures_through (constants_of names s.capacity) base taken base (h ++ i ∷ []))
failures_other base names edits actors h made s taken kept i k n none =
    let c : Constants = constants_of names s.capacity in
    n
    ∙ ap (kept_after (failures_kept (failures_through c base taken base h))) (sym none)
    ∙ sym (kept_push c base taken base (world_of c base h) h i k.lawful)

-- with no history yet, whatever the constants
pub failures_none : (names : List (List ℕ)) (base : World) (h : List Item) (one two : Settings) (taken : ℕ) (kept : KeptFailures) → h ≡ [] → kept ≡ failures_kept (failures_through (constants_of names one.capacity) base taken base h) → kept ≡ failures_kept (failures_through (constants_of names two.capacity) base taken base h)
failures_none names base [] one two taken kept e n = n
failures_none names base (i ∷ is) one two taken kept e n = cc

-- ---- names that go on

-- steps
worlds_more : (c : Constants) (more : List (List ℕ)) (a : ActorId) (n : ℕ) (w u : World) → IsWorld c w → world_after c a n w ≡ Some u → (world_after (named_more c more) a n w ≡ Some u) × IsWorld c u
worlds_more c more a zero w u h e = (e, subst (IsWorld c) (some_world w u e) h)
worlds_more c more a (suc n) w u h e =
    let p = bound (world_after c a n) (after_step c a w) u e in
    let rest = worlds_more c more a n p.0 u (stepped_keeps c a w p.0 h p.1).world p.2 in
    (ap (option_and_then (world_after (named_more c more) a n)) (stepped_more c more a w p.0 h p.1) ∙ rest.0, rest.1)

-- the failure of an item
failure_more : (c : Constants) (more : List (List ℕ)) (base : World) (taken : ℕ) (w v : World) (i : Item) → IsWorld c w → next c w i ≡ Some v → failure_in (named_more c more) base taken w i ≡ failure_in c base taken w i
failure_more c more base taken w v (Edited e) h f = refl
failure_more c more base taken w v (Created class) h f = refl
failure_more c more base taken w v (Posted a m) h f = refl
failure_more c more base taken w v (Closed a) h f = refl
failure_more c more base taken w v (Begun a) h f = refl
failure_more c more base taken w v (Ran a zero) h f = refl
failure_more c more base taken w v (Ran a (suc n)) h f =
    let one : n + 1 ≡ suc n = omega arith in
    let ran = cond_some (nat_lt 0 (suc n)) (world_after c a (suc n) w) v (sym (ran_after c w a (suc n)) ∙ f) in
    let all : world_after c a (n + 1) w ≡ Some v = ap (λ (k : ℕ). world_after c a k w) one ∙ ran.1 in
    let p = bound (world_after c a 1) (world_after c a n w) v (after_then c a n 1 w ∙ all) in
    let q = bound (world_after c a zero) (after_step c a p.0) v p.2 in
    let before = worlds_more c more a n w p.0 h p.1 in
    let last : after_step (named_more c more) a p.0 ≡ after_step c a p.0 = stepped_more c more a p.0 q.0 before.1 q.1 ∙ sym q.1 in
    ap (option_and_then (failure_at (named_more c more) base a (taken + suc n))) before.0
    ∙ ap (λ (o : Option World). failure_by a (first_turn (slice_get base.actors a.0)) (taken + suc n) (slice_get p.0.actors a.0) (option_and_then (λ (x : World). slice_get x.actors a.0) o)) last
    ∙ ap (option_and_then (failure_at c base a (taken + suc n))) (sym p.1)

-- the failures of a history
failures_renamed : (c : Constants) (more : List (List ℕ)) (base : World) (taken : ℕ) (w u : World) (is : List Item) → IsWorld c w → All IsSoundItem is → replay c w is ≡ Some u → failures_through (named_more c more) base taken w is ≡ failures_through c base taken w is
failures_renamed c more base taken w u [] h all e = refl
failures_renamed c more base taken w u (i ∷ is) h all e =
    let p = bound (λ v. replay c v is) (next c w i) u e in
    let sound = All-head IsSoundItem i is all in
    let rest = failures_renamed c more base (taken + ran_of i) p.0 u is (next_keeps c w p.0 i h sound p.1).world (All-tail IsSoundItem i is all) p.2 in
    ap (λ (o : Option Failure). option_to_list o ++ failures_from (λ v. failures_through (named_more c more) base (taken + ran_of i) v is) (next (named_more c more) w i)) (failure_more c more base taken w p.0 i h p.1)
    ∙ ap (λ (o : Option World). option_to_list (failure_in c base taken w i) ++ failures_from (λ v. failures_through (named_more c more) base (taken + ran_of i) v is) o) (item_more c more w p.0 i h sound p.1)
    ∙ ap (λ (l : List Failure). option_to_list (failure_in c base taken w i) ++ l) rest
    ∙ ap (λ (o : Option World). option_to_list (failure_in c base taken w i) ++ failures_from (λ v. failures_through c base (taken + ran_of i) v is) o) (sym p.1)

-- for names that go on
pub failures_more : (base : World) (names more : List (List ℕ)) (edits : List Edit) (actors : List ActorView) (h : List Item) (made : ℕ) (s : Settings) (taken : ℕ)
    → IsImage base names edits actors h made s → failures_through (constants_of (names ++ more) s.capacity) base taken base h ≡ failures_through (constants_of names s.capacity) base taken base h
failures_more base names more edits actors h made s taken k = failures_renamed (constants_of names s.capacity) more base taken base (world_of (constants_of names s.capacity) base h) h k.base_is k.sound k.lawful
