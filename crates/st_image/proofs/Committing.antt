-- Commits: the steps of a claim, as those of the world.
use Rattle.std.proofs.Common.{arith, ◌≡◌, ℕ, zero, suc, ◌+◌, ◌<◌, ◌≤◌, ◌++◌, [], ◌∷◌, List, length, Option, Some, None, Bool, true, false, cond, refl, ap, ap₂, sym, ◌∙◌, subst, slice_get, slice_set, option_and_then, map, append-nil, inr}
use Rattle.std.specs.Prelude.{All, ◌==◌, if◌then◌else◌, is_some, nat_lt, MatchOption}
use Rattle.std.proofs.Math.Dec.{eqb-suc-zero}
use Rattle.std.specs.Option.{option_to_list}
use Rattle.st_classes.specs.declared.values.ActorId.{ActorId}
use Rattle.st_classes.specs.declared.keys.SiteId.{SiteId}
use Rattle.st_classes.specs.declared.edits.Edit.{Edit}
use Rattle.st_turn.specs.declared.body.Body.{Body}
use Rattle.st_turn.specs.declared.body.Phase.{Phase}
use Rattle.st_turn.specs.declared.body.Phase.TheVariants.{Fresh, Start, Frames, Done}
use Rattle.st_turn.specs.Steps.{Asked, asked, is_outer, next_site_in, own_steps, step}
use Rattle.st_turn.specs.Idle.{is_idle}
use Rattle.st_turn.specs.Claims.{ClaimView, IsSound, own_asked, sites_asked}
use Rattle.st_image.specs.EarlierCounts.{EarlierCounts}
use Rattle.st_image.specs.Worlds.{Constants, World, WorldActor, change, change_at}
use Rattle.st_image.specs.Replay.{after_step, with_body}
use Rattle.st_image.specs.Counts.{most_counted}
use Rattle.st_image.specs.Images.{ImageView, Standing, counts_of, no_room, too_many_steps, world, world_of}
use Rattle.st_classes.specs.declared.refusals.Refusal.{Refusal}
use Rattle.st_classes.specs.declared.refusals.Refusal.TheVariants.{HistoryFull}
use Rattle.st_classes.specs.Refusals.{first_of}
use Rattle.st_turn.specs.declared.claim.Sent.{Sent}
use Rattle.st_turn.specs.declared.acts.Act.{Act}
use Rattle.st_turn.specs.Surviving.{SameSteps}
use Rattle.st_turn.proofs.ActSites.{next_site_is}
use Rattle.st_turn.proofs.ClaimsLater.{claims_survive}
use Rattle.st_image.specs.declared.history.Item.{Item}
use Rattle.st_image.specs.declared.history.Item.TheVariants.{Ran}
use Rattle.st_image.specs.declared.settings.Settings.{Settings}
use Rattle.st_turn.specs.declared.tally.Tally.{Tally}
use Rattle.st_image.specs.ImageInvariant.{IsImage}
use Rattle.st_turn.specs.Tallies.{after_sends}
use Rattle.st_image.specs.Tallies.{CountsSends, Tallied, after_act_at, asked_by_item, tally_at}
use Rattle.st_image.specs.Commits.{CommitAllowed, CommitRefused, HasCommitted, IsUnchanged, Survives, act_site, commit_room, items_of, stands_before_act, steps_of}
use Rattle.st_image.specs.NewestResults.{Kept, kept_with}
use Rattle.st_image.specs.ActorViews.{ActorView, Shows, actor_view, view_after_steps}
use Rattle.st_image.specs.ActResults.{GrowsByOne, IsShown, StandsBefore, TakesOuter, constants_of, world_after}
use Rattle.st_image.proofs.Lists.{off, set_at_same, set_twice}
use Rattle.st_image.proofs.Changing.{All-change, change_here, get-change}
use Rattle.st_image.proofs.Stepping.{after_then, mapped}
use Rattle.st_image.proofs.NewestResults.{view_steps}
use Rattle.st_image.proofs.Showing.{being_at_kept, kept_at, shows_change}
use Rattle.st_image.proofs.Outer.{stands_by}
use Rattle.st_image.proofs.Lasting.{after_keeps}
use Rattle.st_image.proofs.OwnSteps.{outer_goes_on, own_busy, own_world, some_body}
use Rattle.st_image.proofs.Keeping.{has_room, ran_kept}
use Rattle.st_image.proofs.Counting.{counts_ran}
use Rattle.st_turn.proofs.FewSends.{few_sends}
use Rattle.st_image.proofs.ClaimSends.{sites_outer, sites_own}
use Rattle.st_image.specs.ClaimsOut.{one_less}
use Rattle.st_image.proofs.Posting.{seen, standing_of}
use Rattle.st_image.proofs.CountingOut.{counts_out}

-- ---- the steps of a claim are put into the image

-- the world to which so many own steps lead
pub record Went (names : List (List ℕ)) (capacity : ℕ) (edits : List Edit) (actors : List ActorView) (a : ActorId) (w : World) (n : ℕ) (after : Body) : Type 0 where
  pub being : WorldActor
  pub at : slice_get w.actors a.0 ≡ Some being
  pub busy : is_idle being.body.phase ≡ false
  pub own : own_steps w.edits a n being.body ≡ Some after
  pub taken : world_after (constants_of names capacity) a n w ≡ Some (change (with_body after) a w)
  pub shown : IsShown names capacity edits (change_at (view_after_steps after) a.0 actors) (change (with_body after) a w)
  pub there : slice_get (change (with_body after) a w).actors a.0 ≡ Some (with_body after being)

pub went : (names : List (List ℕ)) (capacity : ℕ) (edits : List Edit) (actors : List ActorView) (a : ActorId) (w : World) (n : ℕ) (b : WorldActor) (after : Body) → IsShown names capacity edits actors w → slice_get w.actors a.0 ≡ Some b → is_idle b.body.phase ≡ false → own_steps w.edits a n b.body ≡ Some after
    → Went names capacity edits actors a w n after
went names capacity edits actors a w n b after i at busy own =
    let c : Constants = constants_of names capacity in
    let taken : world_after c a n w ≡ Some (change (with_body after) a w) = own_world c a n w b after at busy own in
    record {
      being = b;
      at = at;
      busy = busy;
      own = own;
      taken = taken;
      shown = record {
        shows = shows_change edits actors (change_at (view_after_steps after) a.0 actors) w a (with_body after) (view_after_steps after) i.shows (λ x e. view_steps after x) refl;
        world = (after_keeps c a n w (change (with_body after) a w) i.world taken).world;
      };
      there = get-change (with_body after) a.0 w.actors b at;
    }

-- the world after the steps of a commit
pub record HasRun (names : List (List ℕ)) (capacity : ℕ) (edits : List Edit) (new : List ActorView) (a : ActorId) (w : World) (m : ℕ) : Type 0 where
  pub last : World
  pub taken : world_after (constants_of names capacity) a m w ≡ Some last
  pub shows : Shows edits new last

one_step : (c : Constants) (a : ActorId) (w v : World) → after_step c a w ≡ Some v → world_after c a 1 w ≡ Some v
one_step c a w v e = ap (option_and_then (world_after c a zero)) e

pub has_run : (names : List (List ℕ)) (capacity : ℕ) (edits : List Edit) (actors new : List ActorView) (a : ActorId) (w : World) (n : ℕ) (after : Body) (t : Bool) → Went names capacity edits actors a w n after → TakesOuter (constants_of names capacity) edits (change_at (view_after_steps after) a.0 actors) new a (change (with_body after) a w) t
    → HasRun names capacity edits new a w (n + (if is_outer (step w.edits a after) then 1 else 0))
has_run names capacity edits actors new a w n after true g o =
    let c : Constants = constants_of names capacity in
    let next : is_outer (step w.edits a after) ≡ true = o.0 (with_body after g.being) g.there in
    let go : world_after c a (n + 1) w ≡ Some o.1.0 = sym (after_then c a n 1 w) ∙ ap (option_and_then (world_after c a 1)) g.taken ∙ one_step c a (change (with_body after) a w) o.1.0 o.1.1 in
    subst (λ (b : Bool). HasRun names capacity edits new a w (n + (if b then 1 else 0))) (sym next) (record { last = o.1.0; taken = go; shows = o.1.2 })
has_run names capacity edits actors new a w n after false g o =
    let c : Constants = constants_of names capacity in
    let next : is_outer (step w.edits a after) ≡ false = o.0 (with_body after g.being) g.there in
    let none : n + 0 ≡ n = omega arith in
    let v : World = change (with_body after) a w in
    subst (λ (b : Bool). HasRun names capacity edits new a w (n + (if b then 1 else 0))) (sym next) (record {
      last = v;
      taken = ap (λ (k : ℕ). world_after c a k w) none ∙ g.taken;
      shows = subst (λ (x : List ActorView). Shows edits x v) (sym o.1) g.shown.shows;
    })

-- ---- a claim

-- a body that stands before the image's step is in a turn
pub busy_outer : (edits : List Edit) (a : ActorId) (b : Body) → is_outer (step edits a b) ≡ true → is_idle b.phase ≡ false
busy_outer edits a b h = outer_goes_on edits a b (step edits a b) refl h

busy_by : (edits : List Edit) (a : ActorId) (n : ℕ) (before after : Body) (t : Bool) → own_steps edits a n before ≡ Some after → is_outer (step edits a after) ≡ t → 0 < n + (if t then 1 else 0) → is_idle before.phase ≡ false
busy_by edits a zero before after true own h l =
    let same : before ≡ after = some_body before after own in
    subst (λ (x : Body). is_idle x.phase ≡ false) (sym same) (busy_outer edits a after h)
busy_by edits a zero before after false own h l = absurd (omega (arith, l))
busy_by edits a (suc n) before after t own h l = own_busy edits a n before after own

-- a claim that has a step to commit began in a turn
pub claim_busy : (c : ClaimView) → IsSound c.actor c.edits c.before c.after c.steps c.sends → 0 < steps_of c → is_idle c.before.phase ≡ false
claim_busy c s l = busy_by c.edits c.actor c.steps c.before c.after (stands_before_act c) s.taken refl l

-- the actor that a claim left unchanged
pub unchanged : (i : ImageView) (c : ClaimView) → IsUnchanged i c → (b : WorldActor) × (slice_get (world i).actors c.actor.0 ≡ Some b) × (b.body ≡ c.before)
unchanged i c u = mapped (λ (b : WorldActor). b.body) (slice_get (world i).actors c.actor.0) c.before u

-- ---- mailboxes

-- the actor's own steps leave all mailboxes
pub own_accepts : (P : ℕ → Type 0) (actors : List ActorView) (after : Body) (a : ℕ) → All (λ (k : ActorView). P k.accepted) actors → All (λ (k : ActorView). P k.accepted) (change_at (view_after_steps after) a actors)
own_accepts P actors after a h = All-change (λ (k : ActorView). P k.accepted) (view_after_steps after) a actors (λ k at l. l) h

-- ---- where the image's step finds no memory

-- an actor that stands before the image's step is in a turn
pub stood_busy : (names : List (List ℕ)) (capacity : ℕ) (edits : List Edit) (actors : List ActorView) (w : World) (a : ActorId) (k : ActorView) → IsShown names capacity edits actors w → slice_get actors a.0 ≡ Some k → StandsBefore a w true → is_idle k.body.phase ≡ false
stood_busy names capacity edits actors w a k i at stands =
    let b = being_at_kept edits actors w a.0 k i.shows at in
    subst (λ (x : ActorView). is_idle x.body.phase ≡ false) b.2 (busy_outer w.edits a b.0.body (stands b.0 b.1))

busy_kept : (p : Phase) (r : Kept) → is_idle p ≡ false → kept_with p r ≡ r
busy_kept Fresh r h = refl
busy_kept (Start s args) r h = refl
busy_kept (Frames fs) r h = refl
busy_kept (Done outcome) r h = cc

again : (k : ActorView) (after was : Body) → is_idle after.phase ≡ false → was ≡ k.body → (let x : ActorView = record (view_after_steps after k) { body = was } in x) ≡ k
again k after was busy e = ap (λ (r : Kept). let x : ActorView = record k { body = was; results = r } in x) (busy_kept after.phase k.results busy) ∙ ap (λ (b : Body). let x : ActorView = record k { body = b } in x) e

-- the body before in the place of the one after leaves all as it was
pub restored : (ks : List ActorView) (a : ℕ) (k : ActorView) (after was : Body) → slice_get ks a ≡ Some k → is_idle after.phase ≡ false → was ≡ k.body → change_at (λ (x : ActorView). record x { body = was }) a (change_at (view_after_steps after) a ks) ≡ ks
restored ks a k after was at busy e =
    let back : ActorView → ActorView = λ (x : ActorView). record x { body = was } in
    let there : slice_get (change_at (view_after_steps after) a ks) a ≡ Some (view_after_steps after k) = get-change (view_after_steps after) a ks k at in
    change_here back a (change_at (view_after_steps after) a ks) (view_after_steps after k) there
    ∙ ap (λ (xs : List ActorView). slice_set xs a (back (view_after_steps after k))) (change_here (view_after_steps after) a ks k at)
    ∙ set_twice ks a (view_after_steps after k) (back (view_after_steps after k))
    ∙ set_at_same ks a (back (view_after_steps after k)) (at ∙ ap Some (sym (again k after was busy e)))

-- ---- the sends of a claim, counted

-- the sites of a claim's sends and of the image's step, where it comes next, are those that the steps asked for
pub sites_by : (c : Constants) (a : ActorId) (n : ℕ) (w : World) (b : WorldActor) (after : Body) (ss : List Sent) (t : Bool)
    → slice_get w.actors a.0 ≡ Some b → is_idle b.body.phase ≡ false → own_steps w.edits a n b.body ≡ Some after → map (λ (s : Sent). s.site) ss ≡ sites_asked (own_asked w.edits a n b.body)
    → is_outer (step w.edits a after) ≡ t → (t ≡ true → (v : World) × (after_step c a (change (with_body after) a w) ≡ Some v))
    → map (λ (s : Sent). s.site) ss ++ option_to_list (cond t (option_and_then (λ (q : Asked). q.site) (asked w.edits after)) None) ≡ sites_asked (asked_by_item c w (Ran a (n + cond t 1 0)))
sites_by c a n w b after ss true at busy own same next go =
    let v = go refl in
    let q = next_site_is w.edits a after next in
    let site : option_and_then (λ (x : Asked). x.site) (asked w.edits after) ≡ next_site_in after.phase = ap (option_and_then (λ (x : Asked). x.site)) q.1 ∙ q.2 in
    ap (λ (o : Option SiteId). map (λ (s : Sent). s.site) ss ++ option_to_list o) site ∙ sites_outer c a n w v.0 b after ss at busy own same next v.1
sites_by c a n w b after ss false at busy own same next go =
    let none : n + 0 ≡ n = omega arith in
    sites_own c a n w b after ss at busy own same ∙ ap (λ (k : ℕ). sites_asked (asked_by_item c w (Ran a k))) (sym none)

-- a claim of no steps that does not stand before the image's step sent nothing
pub none_sent : (c : ClaimView) → IsSound c.actor c.edits c.before c.after c.steps c.sends → steps_of c ≡ 0 → (c.sends ≡ []) × (act_site c ≡ None)
none_sent c s e = by_test (stands_before_act c) e
  where
    empty_of : (xs : List Sent) → length xs ≤ 0 → xs ≡ []
    empty_of [] h = refl
    empty_of (x ∷ xs) h = absurd (omega (arith, h))

    by_test : (t : Bool) → c.steps + (if t then 1 else 0) ≡ 0 → (c.sends ≡ []) × ((if t then option_and_then (λ (q : Asked). q.site) (asked c.edits c.after) else None) ≡ None)
    by_test true f = absurd (omega (arith, f))
    by_test false f =
        let few : length c.sends ≤ c.steps = few_sends c.edits c.actor c.steps c.before c.sends s.sites in
        (empty_of c.sends (omega (arith, few, f)), refl)

-- ---- an image after a commit

-- the parts of an image after the steps of a claim
pub record HasTaken (base : World) (names : List (List ℕ)) (edits : List Edit) (new : List ActorView) (h : List Item) (made : ℕ) (s : Settings) (rows : List (List Tally)) (a : ActorId) (m : ℕ) : Type 0 where
  pub image : IsImage base names edits new (h ++ Ran a m ∷ []) made s
  pub sends : CountsSends (constants_of names s.capacity) base (h ++ Ran a m ∷ []) rows

-- what is known where a claim may be committed
pub record MayCommit (base : World) (names : List (List ℕ)) (edits : List Edit) (actors : List ActorView) (h : List Item) (s : Settings) (c : ClaimView) : Type 0 where
  pub went : Went names s.capacity edits actors c.actor (world_of (constants_of names s.capacity) base h) c.steps c.after
  pub before : went.being.body ≡ c.before
  pub same : SameSteps (world_of (constants_of names s.capacity) base h).edits c

pub may_commit : (base : World) (names : List (List ℕ)) (edits : List Edit) (actors : List ActorView) (h : List Item) (made : ℕ) (s : Settings) (beside : Standing) (c : ClaimView)
    → IsImage base names edits actors h made s → CommitAllowed (seen base names h s beside) c → IsSound c.actor c.edits c.before c.after c.steps c.sends → 0 < steps_of c → MayCommit base names edits actors h s c
unfolding went unchanged
may_commit base names edits actors h made s beside c k allowed sound some =
    let w : World = world_of (constants_of names s.capacity) base h in
    let b = unchanged (seen base names h s beside) c allowed.unchanged in
    let busy : is_idle b.0.body.phase ≡ false = ap (λ (x : Body). is_idle x.phase) b.2 ∙ claim_busy c sound some in
    let same : SameSteps w.edits c = claims_survive w.edits c k.world.lawful k.world.sound sound allowed.survives in
    let own : own_steps w.edits c.actor c.steps b.0.body ≡ Some c.after = subst (λ (x : Body). own_steps w.edits c.actor c.steps x ≡ Some c.after) (sym b.2) same.taken in
    record {
      went = went names s.capacity edits actors c.actor w c.steps b.0 c.after (record { shows = k.shows; world = k.world }) b.1 busy own;
      before = b.2;
      same = same;
    }

-- an actor with the body after a claim stands before the image's step if the claim does
pub stands_after : (base : World) (names : List (List ℕ)) (edits : List Edit) (actors : List ActorView) (h : List Item) (s : Settings) (c : ClaimView) (t : Bool)
    → (g : MayCommit base names edits actors h s c) → edits ≡ (world_of (constants_of names s.capacity) base h).edits → t ≡ stands_before_act c
    → (w : World) → IsShown names s.capacity edits (change_at (view_after_steps c.after) c.actor.0 actors) w → StandsBefore c.actor w t
stands_after base names edits actors h s c t g here stands w i =
    let was : World = world_of (constants_of names s.capacity) base h in
    let mid : List ActorView = change_at (view_after_steps c.after) c.actor.0 actors in
    let after : WorldActor = with_body c.after g.went.being in
    let at : slice_get mid c.actor.0 ≡ Some (actor_view after) = kept_at edits mid (change (with_body c.after) c.actor was) c.actor.0 after g.went.shown.shows g.went.there in
    let next : is_outer (step edits c.actor c.after) ≡ t = ap (λ (es : List Edit). is_outer (step es c.actor c.after)) here ∙ ap (λ (x : Option Act). is_some x) g.same.act ∙ sym stands in
    stands_by edits mid w c.actor (actor_view after) t i.shows at next

pub steps_at : (c : ClaimView) (es : List Edit) → SameSteps es c → steps_of c ≡ c.steps + (if is_outer (step es c.actor c.after) then 1 else 0)
steps_at c es e = ap (λ (x : Option Act). c.steps + (if is_some x then 1 else 0)) (sym e.act)

site_at_is : (c : ClaimView) (es : List Edit) → SameSteps es c → act_site c ≡ (if is_outer (step es c.actor c.after) then option_and_then (λ (q : Asked). q.site) (asked es c.after) else None)
site_at_is c es e = ap₂ (λ (x : Option Act) (o : Option Asked). if is_some x then option_and_then (λ (q : Asked). q.site) o else None) (sym e.act) (sym e.next)

outer_world : (c : Constants) (edits : List Edit) (mid new : List ActorView) (a : ActorId) (w : World) (after : Body) (b : WorldActor) (t u : Bool) → TakesOuter c edits mid new a w t → slice_get w.actors a.0 ≡ Some b → is_outer (step w.edits a b.body) ≡ u → u ≡ true → (v : World) × (after_step c a w ≡ Some v)
outer_world c edits mid new a w after b true u o at next e = (o.1.0, o.1.1)
outer_world c edits mid new a w after b false u o at next e = let no : true ≡ false = sym (next ∙ e) ∙ o.0 b at in cc

pub has_taken : (base : World) (names : List (List ℕ)) (edits : List Edit) (actors new : List ActorView) (h : List Item) (made : ℕ) (s : Settings) (beside : Standing) (rows rows' : List (List Tally)) (c : ClaimView) (m : ℕ) (t : Bool)
    → IsImage base names edits actors h made s → CountsSends (constants_of names s.capacity) base h rows → IsSound c.actor c.edits c.before c.after c.steps c.sends → CommitAllowed (seen base names h s beside) c → m ≡ steps_of c → 0 < m
    → (g : MayCommit base names edits actors h s c)
    → TakesOuter (constants_of names s.capacity) edits (change_at (view_after_steps c.after) c.actor.0 actors) new c.actor (change (with_body c.after) c.actor (world_of (constants_of names s.capacity) base h)) t
    → GrowsByOne actors new → Tallied rows c.sends (act_site c) rows'
    → HasTaken base names edits new h made s rows' c.actor m
has_taken base names edits actors new h made s beside rows rows' c m t k counts sound allowed count some g o grown tallied =
    let cs : Constants = constants_of names s.capacity in
    let w : World = world_of cs base h in
    let u : Bool = is_outer (step w.edits c.actor c.after) in
    let run : HasRun names s.capacity edits new c.actor w (c.steps + (if u then 1 else 0)) = has_run names s.capacity edits actors new c.actor w c.steps c.after t g.went o in
    let steps : m ≡ c.steps + (if u then 1 else 0) = count ∙ steps_at c w.edits g.same in
    let room : length h + 1 ≤ s.history = has_room s.history (length h) 1 HistoryFull (room_of (seen base names h s beside) c (steps_of c) refl (subst (λ (n : ℕ). 0 < n) count some) (off (nat_lt s.history (length h + length (items_of c))) HistoryFull (too_many_steps (seen base names h s beside) (steps_of c) ∷ []) allowed.room).0) in
    let sites : map (λ (x : Sent). x.site) c.sends ≡ sites_asked (own_asked w.edits c.actor c.steps g.went.being.body) = sound.sites ∙ ap sites_asked (sym g.same.asks) ∙ ap (λ (b : Body). sites_asked (own_asked w.edits c.actor c.steps b)) (sym g.before) in
    let same : map (λ (x : Sent). x.site) c.sends ++ option_to_list (act_site c) ≡ sites_asked (asked_by_item cs w (Ran c.actor (c.steps + cond u 1 0))) =
    ap (λ (x : Option SiteId). map (λ (y : Sent). y.site) c.sends ++ option_to_list x) (site_at_is c w.edits g.same)
    ∙ sites_by cs c.actor c.steps w g.went.being c.after c.sends u g.went.at g.went.busy g.went.own sites refl (outer_world cs edits (change_at (view_after_steps c.after) c.actor.0 actors) new c.actor (change (with_body c.after) c.actor w) c.after (with_body c.after g.went.being) t u o g.went.there refl) in
    let few : length c.sends ≤ c.steps = few_sends c.edits c.actor c.steps c.before c.sends sound.sites in
    let image : IsImage base names edits new (h ++ Ran c.actor (c.steps + (if u then 1 else 0)) ∷ []) made s = (ran_kept base names edits actors new h made s c.actor (c.steps + (if u then 1 else 0)) run.last k (subst (λ (n : ℕ). 0 < n) steps some) run.taken room run.shows (grown (length h + 1024) k.few_accepted)).image in
    let counted : CountsSends cs base (h ++ Ran c.actor (c.steps + cond u 1 0) ∷ []) rows' = counts_ran cs base w h c.actor (c.steps + cond u 1 0) rows rows' c.sends (act_site c) counts k.lawful tallied same (omega (arith, few, sound.few)) in
    record {
      image = subst (λ (n : ℕ). IsImage base names edits new (h ++ Ran c.actor n ∷ []) made s) (sym steps) image;
      sends = subst (λ (n : ℕ). CountsSends cs base (h ++ Ran c.actor n ∷ []) rows') (sym steps) counted;
    }
  where
    room_of : (i : ImageView) (d : ClaimView) (n : ℕ) → steps_of d ≡ n → 0 < n → nat_lt i.most_items (length i.history + length (items_of d)) ≡ false → first_of (no_room i 1 ∷ []) ≡ None
    room_of i d zero e l r = absurd (omega (arith, l))
    room_of i d (suc n) e l r =
        let some : (steps_of d == 0) ≡ false = ap (λ (y : ℕ). y == 0) e ∙ eqb-suc-zero n in
        let off_one : nat_lt i.most_items (length i.history + 1) ≡ false = sym (ap (λ (x : Bool). nat_lt i.most_items (length i.history + length (cond x [] (Ran d.actor (steps_of d) ∷ [])))) some) ∙ r in
        rw off_one refl

-- steps that may be committed are counted
pub steps_room : (i : ImageView) (d : ClaimView) → commit_room i d ≡ None → (counts_of i).steps + steps_of d ≤ most_counted
steps_room i d r = has_room most_counted (counts_of i).steps (steps_of d) HistoryFull (off (nat_lt i.most_items (length i.history + length (items_of d))) HistoryFull (too_many_steps i (steps_of d) ∷ []) r).1

one_or_none : (c : ClaimView) → length (items_of c) ≡ (if steps_of c == 0 then 0 else 1)
one_or_none c = by (steps_of c == 0)
  where
    by : (t : Bool) → length (cond t [] (Ran c.actor (steps_of c) ∷ [])) ≡ cond t 0 1
    by true = refl
    by false = refl

told_by : (i : ImageView) (c : ClaimView) (r : Option Refusal) → r ≡ commit_room i c → Survives i c → IsUnchanged i c → MatchOption r (CommitAllowed i c) (λ e. CommitRefused i c e)
told_by i c None h s u = record { survives = s; unchanged = u; room = sym h }
told_by i c (Some e) h s u =
    let full : e ≡ HistoryFull = only_full (nat_lt i.most_items (length i.history + length (items_of c))) (nat_lt most_counted ((counts_of i).steps + steps_of c)) e (sym h) in
    subst (CommitRefused i c) (sym full) (s, u, sym h ∙ ap (λ (x : Refusal). Some x) full)
  where
    only_full : (a b : Bool) (e : Refusal) → first_of ((a, HistoryFull) ∷ (b, HistoryFull) ∷ []) ≡ Some e → e ≡ HistoryFull
    only_full true b e h = cc
    only_full false true e h = cc
    only_full false false e h = cc

-- what is told of the room for a commit
pub room_told : (i : ImageView) (c : ClaimView) (items steps : ℕ) (r : Option Refusal) → r ≡ first_of (no_room i items ∷ too_many_steps i steps ∷ []) → items ≡ (if steps == 0 then 0 else 1) → steps ≡ steps_of c → Survives i c → IsUnchanged i c → MatchOption r (CommitAllowed i c) (λ e. CommitRefused i c e)
room_told i c items steps r h few same s u =
    let count : items ≡ length (items_of c) = few ∙ ap (λ (n : ℕ). cond (n == 0) 0 1) same ∙ sym (one_or_none c) in
    told_by i c r (h ∙ ap (λ (n : ℕ). first_of (no_room i n ∷ too_many_steps i steps ∷ [])) count ∙ ap (λ (n : ℕ). first_of (no_room i (length (items_of c)) ∷ too_many_steps i n ∷ [])) same) s u

-- what a commit of some steps adds
pub items_are : (d : ClaimView) (n m : ℕ) → n ≡ steps_of d → n ≡ m → 0 < m → items_of d ≡ Ran d.actor n ∷ []
items_are d n zero e f l = absurd (omega (arith, l))
items_are d n (suc m) e f l =
    let some : (steps_of d == 0) ≡ false = ap (λ (y : ℕ). y == 0) (sym e ∙ f) ∙ eqb-suc-zero m in
    ap (λ (x : Bool). cond x [] (Ran d.actor (steps_of d) ∷ [])) some ∙ ap (λ (k : ℕ). Ran d.actor k ∷ []) (sym e)

-- and of none
pub items_none : (d : ClaimView) → steps_of d ≡ 0 → items_of d ≡ []
items_none d e = ap (λ (x : ℕ). cond (x == 0) [] (Ran d.actor (steps_of d) ∷ [])) e

-- what callers see of a commit of no steps
pub committed_none : (base : World) (names : List (List ℕ)) (h : List Item) (s : Settings) (earlier : EarlierCounts) (n : ℕ) (old new : List ℕ) (rows : List (List Tally)) (d : ClaimView)
    → CommitAllowed (seen base names h s (standing_of earlier n old rows)) d → IsSound d.actor d.edits d.before d.after d.steps d.sends → steps_of d ≡ 0 → new ≡ change_at one_less d.actor.0 old
    → HasCommitted (seen base names h s (standing_of earlier n old rows)) d 0 (seen base names h s (standing_of earlier n new rows))
committed_none base names h s earlier n old new rows d allowed sound e put =
    let sent = none_sent d sound e in
    record {
      allowed = allowed;
      steps = sym e;
      image = ap (λ (is : List Item). let x : ImageView = seen base names is s (standing_of earlier n new rows) in x) (sym (append-nil h) ∙ ap (λ (is : List Item). h ++ is) (sym (items_none d e)));
      next_from = refl;
      earlier = refl;
      counted = counts_out one_less d.actor (seen base names h s (standing_of earlier n old rows)) (seen base names h s (standing_of earlier n new rows)) old new refl refl put (inr refl);
      tallied = λ id. ap (λ (o : Option SiteId). after_act_at id o (tally_at rows id)) (sym sent.1) ∙ ap (λ (ss : List Sent). after_act_at id (act_site d) (after_sends id ss (tally_at rows id))) (sym sent.0);
    }
