-- Tallies count the sends of a history.
use Rattle.std.proofs.Common.{arith, refl, ◌≡◌, ℕ, zero, suc, ◌+◌, ◌^◌, ◌<◌, ◌≤◌, List, [], ◌∷◌, ◌++◌, Option, Some, None, ap, sym, ◌∙◌, subst, length, map, Bool, true, false, cond, if◌then◌else◌, option_and_then, append_assoc, append-nil}
use Rattle.std.specs.Prelude.{All, nat_lt, slice_get}
use Rattle.std.specs.List.{count_by}
use Rattle.std.specs.Option.{option_map, option_to_list}
use Rattle.std.proofs.lemmas.List.{length_push}
use Rattle.std.proofs.lemmas.List.Elements.{All-nil, All-cons, All-head, All-tail}
use Rattle.std.proofs.lemmas.List.Sums.{sum_by-append, sum_by-cons}
use Rattle.st_classes.specs.declared.keys.SiteId.{SiteId}
use Rattle.st_classes.specs.declared.values.ActorId.{ActorId}
use Rattle.st_guard.specs.SiteTables.{is_site}
use Rattle.st_turn.specs.declared.claim.Sent.{Sent}
use Rattle.st_turn.specs.Claims.{sites_asked}
use Rattle.st_turn.specs.Steps.{Asked}
use Rattle.st_turn.specs.declared.tally.Tally.{Tally}
use Rattle.st_image.specs.declared.history.Item.{Item}
use Rattle.st_image.specs.declared.history.Item.TheVariants.{Edited, Created, Posted, Closed, Begun, Ran}
use Rattle.st_image.specs.Worlds.{Constants, World}
use Rattle.st_image.specs.Replay.{Trail, after_step, asked_at, next, replay, trail_after, trail_step}
use Rattle.st_image.specs.ActResults.{world_after}
use Rattle.st_image.specs.WorldInvariant.{IsSoundItem, IsWorld}
use Rattle.st_turn.specs.Tallies.{after_sends, sends_of, with_act}
use Rattle.st_image.specs.Tallies.{CountsSends, SameTallies, Tallied, asked_by_item, asked_on, asked_then, asked_through, is_sent_at, is_site_of, tally_at}
use Rattle.st_image.proofs.Stepping.{bound, cond_some, mapped, ran_after}
use Rattle.st_image.proofs.Lasting.{named_more, next_keeps, stepped_keeps}
use Rattle.st_image.proofs.GrowingNames.{replay_more}
use Rattle.st_turn.proofs.Summing.{sends_after, sends_few}

-- ---- what a history asks for

nothing_then : (o : Option World) → asked_then (λ v. []) o ≡ []
nothing_then None = refl
nothing_then (Some v) = refl

pub some_world : (v w : World) → Some v ≡ Some w → v ≡ w
some_world v w e = cc

-- one item more
pub asked_push : (c : Constants) (base w : World) (h : List Item) (i : Item) → replay c base h ≡ Some w → asked_through c base (h ++ i ∷ []) ≡ asked_through c base h ++ asked_by_item c w i
asked_push c base w [] i e =
    ap (λ (l : List Asked). asked_by_item c base i ++ l) (nothing_then (next c base i))
    ∙ append-nil (asked_by_item c base i)
    ∙ ap (λ (v : World). asked_by_item c v i) (some_world base w e)
asked_push c base w (j ∷ is) i e =
    let p = bound (λ v. replay c v is) (next c base j) w e in
    ap (λ (o : Option World). asked_by_item c base j ++ asked_then (λ v. asked_through c v (is ++ i ∷ [])) o) p.1
    ∙ ap (λ (l : List Asked). asked_by_item c base j ++ l) (asked_push c p.0 w is i p.2)
    ∙ sym (append_assoc (asked_by_item c base j) (asked_through c p.0 is) (asked_by_item c w i))
    ∙ ap (λ (o : Option World). (asked_by_item c base j ++ asked_then (λ v. asked_through c v is) o) ++ asked_by_item c w i) (sym p.1)

-- ---- how often a site was asked at

ones : (id : SiteId) (o : Option SiteId) (k l : ℕ) → k ≡ l → cond (is_site_of id o) 1 0 + k ≡ cond (is_site_of id o) 1 0 + l
ones id o k l e = ap (λ (n : ℕ). cond (is_site_of id o) 1 0 + n) e

one_asked : (id : SiteId) (q : Asked) (qs : List Asked) (o : Option SiteId) → q.site ≡ o → count_by (is_site id) (sites_asked (q ∷ qs)) ≡ cond (is_site_of id o) 1 0 + count_by (is_site id) (sites_asked qs)
one_asked id q qs None e = rw e (omega arith)
one_asked id q qs (Some other) e = rw e (sum_by-cons (λ (x : SiteId). cond (is_site id x) 1 0) other (sites_asked qs))

-- as often as its place is among the sites
asked_at_sites : (id : SiteId) (qs : List Asked) → count_by (is_sent_at id) qs ≡ count_by (is_site id) (sites_asked qs)
asked_at_sites id [] = refl
asked_at_sites id (q ∷ qs) =
    sum_by-cons (λ (x : Asked). cond (is_sent_at id x) 1 0) q qs
    ∙ ones id q.site (count_by (is_sent_at id) qs) (count_by (is_site id) (sites_asked qs)) (asked_at_sites id qs)
    ∙ sym (one_asked id q qs q.site refl)

sites_sent : (id : SiteId) (ss : List Sent) → count_by (is_site id) (map (λ s. s.site) ss) ≡ count_by (λ s. is_site id s.site) ss
sites_sent id [] = refl
sites_sent id (s ∷ ss) =
    sum_by-cons (λ (x : SiteId). cond (is_site id x) 1 0) s.site (map (λ s. s.site) ss)
    ∙ ones id (Some s.site) (count_by (is_site id) (map (λ s. s.site) ss)) (count_by (λ s. is_site id s.site) ss) (sites_sent id ss)
    ∙ sym (sum_by-cons (λ (x : Sent). cond (is_site id x.site) 1 0) s ss)

act_sent : (id : SiteId) (o : Option SiteId) → count_by (is_site id) (option_to_list o) ≡ cond (is_site_of id o) 1 0
act_sent id None = refl
act_sent id (Some other) = sum_by-cons (λ (x : SiteId). cond (is_site id x) 1 0) other [] ∙ omega arith

one_act : (b : Bool) (t : Tally) → sends_of (if b then with_act t else t) ≡ sends_of t + cond b 1 0
one_act true t = omega arith
one_act false t = omega arith

at_most_one : (b : Bool) → cond b 1 0 ≤ 1
at_most_one true = omega arith
at_most_one false = omega arith

-- ---- a history counts its sends

-- a new image
pub counts_none : (c : Constants) (base : World) → CountsSends c base [] []
counts_none c base = record { sends = λ id. refl; few = λ id. omega arith }

-- an item that sends nothing
pub counts_other : (c : Constants) (base w : World) (h : List Item) (i : Item) (rows : List (List Tally)) → CountsSends c base h rows → replay c base h ≡ Some w → asked_by_item c w i ≡ [] → CountsSends c base (h ++ i ∷ []) rows
counts_other c base w h i rows k e none =
    let same : asked_through c base (h ++ i ∷ []) ≡ asked_through c base h = asked_push c base w h i e ∙ ap (λ (l : List Asked). asked_through c base h ++ l) none ∙ append-nil (asked_through c base h) in
    record {
      sends = λ id. k.sends id ∙ ap (λ (l : List Asked). count_by (is_sent_at id) l) (sym same);
      few = λ id. omega (arith, k.few id, length_push h i);
    }

-- rows with the same tallies
pub counts_same : (c : Constants) (base : World) (h : List Item) (rows rows' : List (List Tally)) → SameTallies rows rows' → CountsSends c base h rows → CountsSends c base h rows'
counts_same c base h rows rows' same k = record {
  sends = λ id. ap (λ (t : Tally). sends_of t) (same id) ∙ k.sends id;
  few = λ id. omega (arith, ap (λ (t : Tally). sends_of t) (same id), k.few id);
}

-- the tallies of an item's sends
pub sends_tallied : (rows rows' : List (List Tally)) (ss : List Sent) (act : Option SiteId) (id : SiteId) → Tallied rows ss act rows' → sends_of (tally_at rows' id) ≡ sends_of (tally_at rows id) + count_by (is_site id) (map (λ s. s.site) ss ++ option_to_list act)
sends_tallied rows rows' ss act id h =
    let t : Tally = after_sends id ss (tally_at rows id) in
    let now : sends_of (tally_at rows' id) ≡ sends_of t + cond (is_site_of id act) 1 0 = ap (λ (u : Tally). sends_of u) (h id) ∙ one_act (is_site_of id act) t in
    let both = sum_by-append (λ (x : SiteId). cond (is_site id x) 1 0) (map (λ s. s.site) ss) (option_to_list act) in
    omega (arith, now, sends_after id ss (tally_at rows id), sites_sent id ss, act_sent id act, both)

-- steps of an actor
pub counts_ran : (c : Constants) (base w : World) (h : List Item) (a : ActorId) (n : ℕ) (rows rows' : List (List Tally)) (ss : List Sent) (act : Option SiteId) → CountsSends c base h rows → replay c base h ≡ Some w → Tallied rows ss act rows' → map (λ s. s.site) ss ++ option_to_list act ≡ sites_asked (asked_by_item c w (Ran a n)) → length ss + 1 ≤ 2 ^ 32 → CountsSends c base (h ++ Ran a n ∷ []) rows'
counts_ran c base w h a n rows rows' ss act k e tallied sites short = record {
  sends = λ id.
      let qs : List Asked = asked_by_item c w (Ran a n) in
      let here : count_by (is_site id) (map (λ s. s.site) ss ++ option_to_list act) ≡ count_by (is_sent_at id) qs = ap (λ (l : List SiteId). count_by (is_site id) l) sites ∙ sym (asked_at_sites id qs) in
      let all : count_by (is_sent_at id) (asked_through c base (h ++ Ran a n ∷ [])) ≡ count_by (is_sent_at id) (asked_through c base h) + count_by (is_sent_at id) qs = ap (λ (l : List Asked). count_by (is_sent_at id) l) (asked_push c base w h (Ran a n) e) ∙ sum_by-append (λ (q : Asked). cond (is_sent_at id q) 1 0) (asked_through c base h) qs in
      omega (arith, sends_tallied rows rows' ss act id tallied, k.sends id, here, all);
  few = λ id.
      let t : Tally = after_sends id ss (tally_at rows id) in
      let now : sends_of (tally_at rows' id) ≡ sends_of t + cond (is_site_of id act) 1 0 = ap (λ (u : Tally). sends_of u) (tallied id) ∙ one_act (is_site_of id act) t in
      omega (arith, now, at_most_one (is_site_of id act), sends_few id ss (tally_at rows id), k.few id, short, length_push h (Ran a n));
}

-- one more claim can be counted
pub few_more : (c : Constants) (base : World) (h : List Item) (rows : List (List Tally)) (ss : List Sent) (id : SiteId) → CountsSends c base h rows → length h ≤ 1000000 → length ss ≤ 4294967294 → sends_of (tally_at rows id) + length ss + 1 < 2 ^ 64
few_more c base h rows ss id k short few = omega (arith, k.few id, short, few)

-- ---- names that go on

-- one item
pub item_more : (c : Constants) (more : List (List ℕ)) (w v : World) (i : Item) → IsWorld c w → IsSoundItem i → next c w i ≡ Some v → next (named_more c more) w i ≡ Some v
item_more c more w v i h sound e =
    let one : replay (named_more c more) w (i ∷ []) ≡ Some v = replay_more c more w v (i ∷ []) h (All-cons IsSoundItem i [] sound (All-nil IsSoundItem)) (ap (option_and_then (λ (u : World). replay c u [])) e) in
    let p = bound (λ u. replay (named_more c more) u []) (next (named_more c more) w i) v one in
    p.1 ∙ p.2

-- one step
pub stepped_more : (c : Constants) (more : List (List ℕ)) (a : ActorId) (w v : World) → IsWorld c w → after_step c a w ≡ Some v → after_step (named_more c more) a w ≡ Some v
stepped_more c more a w v h e =
    let ran : next c w (Ran a 1) ≡ Some v = ran_after c w a 1 ∙ ap (option_and_then (world_after c a zero)) e in
    let ran' : world_after (named_more c more) a 1 w ≡ Some v = sym (ran_after (named_more c more) w a 1) ∙ item_more c more w v (Ran a 1) h tt ran in
    let p = bound (world_after (named_more c more) a zero) (after_step (named_more c more) a w) v ran' in
    p.1 ∙ p.2

-- a trail
trail_more : (c : Constants) (more : List (List ℕ)) (a : ActorId) (n : ℕ) (t u : Trail) → IsWorld c t.world → trail_after c a n t ≡ Some u → trail_after (named_more c more) a n t ≡ Some u
trail_more c more a zero t u h e = e
trail_more c more a (suc n) t u h e =
    let p = bound (trail_after c a n) (trail_step c a t) u e in
    let f : World → Trail = λ w. record { world = w; asked = t.asked ++ option_to_list (asked_at t.world.edits (slice_get t.world.actors a.0)) } in
    let q = mapped f (after_step c a t.world) p.0 p.1 in
    let there : trail_step (named_more c more) a t ≡ Some p.0 = ap (option_map f) (stepped_more c more a t.world q.0 h q.1) ∙ ap Some q.2 in
    let next : IsWorld c p.0.world = subst (λ (x : Trail). IsWorld c x.world) q.2 (stepped_keeps c a t.world q.0 h q.1).world in
    ap (option_and_then (trail_after (named_more c more) a n)) there ∙ trail_more c more a n p.0 u next p.2

-- what an item asks for
item_asks : (c : Constants) (more : List (List ℕ)) (w v : World) (i : Item) → IsWorld c w → next c w i ≡ Some v → asked_by_item (named_more c more) w i ≡ asked_by_item c w i
item_asks c more w v (Edited e) h f = refl
item_asks c more w v (Created class) h f = refl
item_asks c more w v (Posted a m) h f = refl
item_asks c more w v (Closed a) h f = refl
item_asks c more w v (Begun a) h f = refl
item_asks c more w v (Ran a n) h f =
    let t : Trail = record { world = w; asked = [] } in
    let ran = cond_some (nat_lt 0 n) (option_map (λ (u : Trail). u.world) (trail_after c a n t)) v f in
    let u = mapped (λ (x : Trail). x.world) (trail_after c a n t) v ran.1 in
    ap asked_on (trail_more c more a n t u.0 h u.1 ∙ sym u.1)

-- what a history asks for
asks_more : (c : Constants) (more : List (List ℕ)) (w u : World) (is : List Item) → IsWorld c w → All IsSoundItem is → replay c w is ≡ Some u → asked_through (named_more c more) w is ≡ asked_through c w is
asks_more c more w u [] h all e = refl
asks_more c more w u (i ∷ is) h all e =
    let p = bound (λ v. replay c v is) (next c w i) u e in
    let sound = All-head IsSoundItem i is all in
    let rest = asks_more c more p.0 u is (next_keeps c w p.0 i h sound p.1).world (All-tail IsSoundItem i is all) p.2 in
    ap (λ (l : List Asked). l ++ asked_then (λ v. asked_through (named_more c more) v is) (next (named_more c more) w i)) (item_asks c more w p.0 i h p.1)
    ∙ ap (λ (o : Option World). asked_by_item c w i ++ asked_then (λ v. asked_through (named_more c more) v is) o) (item_more c more w p.0 i h sound p.1)
    ∙ ap (λ (l : List Asked). asked_by_item c w i ++ l) rest
    ∙ ap (λ (o : Option World). asked_by_item c w i ++ asked_then (λ v. asked_through c v is) o) (sym p.1)

-- more names leave the counts
pub counts_names : (names more : List (List ℕ)) (capacity : ℕ) (base w : World) (h : List Item) (rows : List (List Tally)) → IsWorld (record { names = names; capacity = capacity }) base → All IsSoundItem h → replay (record { names = names; capacity = capacity }) base h ≡ Some w → CountsSends (record { names = names; capacity = capacity }) base h rows → CountsSends (record { names = names ++ more; capacity = capacity }) base h rows
counts_names names more capacity base w h rows world sound e k = record {
  sends = λ id. k.sends id ∙ ap (λ (l : List Asked). count_by (is_sent_at id) l) (sym (asks_more (record { names = names; capacity = capacity }) more base w h world sound e));
  few = k.few;
}
