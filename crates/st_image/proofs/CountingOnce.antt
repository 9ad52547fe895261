-- A claim counts only on the body that it began with.
use Rattle.std.proofs.Common.{arith, ◌≡◌, ◌≢◌, ℕ, zero, suc, ◌+◌, ◌++◌, ◌==◌, [], ◌∷◌, List, Option, Some, Result, Ok, Err, Bool, true, false, refl, ap, sym, ◌∙◌, subst, slice_get, append-nil}
use Rattle.std.proofs.Math.Dec.{eqb-suc-zero}
use Rattle.std.specs.Prelude.{if◌then◌else◌, nat_lt}
use Rattle.std.specs.Option.{option_map}
use Rattle.st_classes.specs.declared.values.ActorId.{ActorId}
use Rattle.st_classes.specs.declared.edits.Edit.{Edit}
use Rattle.st_classes.specs.declared.refusals.Refusal.{Refusal}
use Rattle.st_classes.specs.declared.refusals.Refusal.TheVariants.{Stale, Changed, HistoryFull, NoMemory}
use Rattle.st_turn.specs.declared.body.Body.{Body}
use Rattle.st_turn.specs.Claims.{ClaimView, IsSound}
use Rattle.st_turn.specs.Surviving.{SameSteps, SurvivesAt}
use Rattle.st_turn.proofs.ClaimsLater.{claims_survive}
use Rattle.st_turn.specs.Steps.{own_steps}
use Rattle.st_image.specs.declared.history.Item.{Item}
use Rattle.st_image.specs.declared.history.Item.TheVariants.{Ran}
use Rattle.st_image.specs.Worlds.{Constants, World, WorldActor, change}
use Rattle.st_image.specs.Replay.{after_run, next, replay, with_body}
use Rattle.st_image.specs.ActResults.{world_after}
use Rattle.st_image.specs.Images.{ImageView, constants, world}
use Rattle.st_image.specs.WorldInvariant.{IsLawful}
use Rattle.st_image.specs.RanTargets.{edits_among}
use Rattle.st_image.specs.Commits.{Commits, HasCommitted, RefusesCommit, Survives, body_at, items_of, stands_before_act, steps_of}
use Rattle.st_image.specs.OneClaim.{CountsOnItsBody, IsLost}
use Rattle.st_image.proofs.Changing.{get-change}
use Rattle.st_image.proofs.Stepping.{bound, cond_some, mapped, ran_after}
use Rattle.st_image.proofs.Replays.{replay_append}
use Rattle.st_image.proofs.OwnSteps.{own_busy, own_world}
use Rattle.st_image.proofs.GrowingEdits.{edits_longer}

-- ---- a claim of another body

refused_lost : (i j : ImageView) (c : ClaimView) (e : Refusal) (back : Option ClaimView) → Survives i c → body_at i c.actor ≢ Some c.before → RefusesCommit i c e back j → IsLost i c (Err (e, back)) j
refused_lost i j c (Stale version) back same other h = absurd (h.0.0 same)
refused_lost i j c Changed back same other h = (ap (λ (o : Option ClaimView). Err (Changed, o)) h.1, h.2)
refused_lost i j c HistoryFull back same other h = absurd (other h.0.1)
refused_lost i j c NoMemory back same other h = absurd (other h.0.unchanged)
refused_lost i j c e back same other h = absurd h

is_lost : (i j : ImageView) (c : ClaimView) (result : Result ℕ (Refusal × Option ClaimView)) → Survives i c → body_at i c.actor ≢ Some c.before → Commits i c result j → IsLost i c result j
is_lost i j c (Ok n) same other h = absurd (other h.allowed.unchanged)
is_lost i j c (Err refused) same other h = refused_lost i j c refused.0 refused.1 same other h

-- ---- a commit leaves the edits

no_edits : (b : Bool) (a : ActorId) (n : ℕ) → edits_among (if b then [] else Ran a n ∷ []) ≡ []
no_edits true a n = refl
no_edits false a n = refl

same_edits : (i j : ImageView) (c : ClaimView) (n : ℕ) → IsLawful i → IsLawful j → HasCommitted i c n j → (world j).edits ≡ (world i).edits
same_edits i j c n li lj h =
    edits_longer i j li lj (record { base = ap (λ (x : ImageView). x.base) h.image; items = items_of c; history = ap (λ (x : ImageView). x.history) h.image })
    ∙ ap (λ (es : List Edit). (world i).edits ++ es) (no_edits (steps_of c == 0) c.actor (steps_of c))
    ∙ append-nil (world i).edits

second_lost : (i j k : ImageView) (c d : ClaimView) (n : ℕ) (result : Result ℕ (Refusal × Option ClaimView)) → IsLawful i → IsLawful j → Commits i c (Ok n) j → body_at j c.actor ≢ body_at i c.actor → d.actor ≡ c.actor → d.before ≡ c.before → Survives i d → Commits j d result k → IsLost j d result k
second_lost i j k c d n result li lj h other actor before survives g =
    let present : Survives j d = subst (λ (es : List Edit). SurvivesAt es d) (sym (same_edits i j c n li lj h)) survives in
    let changed : body_at j d.actor ≢ Some d.before = λ e. other (ap (body_at j) (sym actor) ∙ e ∙ ap (λ (b : Body). Some b) before ∙ sym h.allowed.unchanged) in
    is_lost j k d result present changed g

-- ---- the body after a commit

-- the actor of a body that is there
body_there : (i : ImageView) (a : ActorId) (b : Body) → body_at i a ≡ Some b → (x : WorldActor) × (slice_get (world i).actors a.0 ≡ Some x) × (x.body ≡ b)
body_there i a b e = mapped (λ (x : WorldActor). x.body) (slice_get (world i).actors a.0) b e

-- an image whose history is longer by a run
ran_world : (i j : ImageView) (a : ActorId) (n : ℕ) → IsLawful i → IsLawful j → j.base ≡ i.base → constants j ≡ constants i → j.history ≡ i.history ++ Ran a n ∷ [] → after_run (constants i) (world i) a n ≡ Some (world j)
ran_world i j a n li lj base numbers history =
    let c : Constants = constants i in
    let whole : replay c i.base (i.history ++ Ran a n ∷ []) ≡ Some (world j) =
    ap (λ (h : List Item). replay c i.base h) (sym history) ∙ ap (λ (b : World). replay c b j.history) (sym base) ∙ ap (λ (d : Constants). replay d j.base j.history) (sym numbers) ∙ lj.lawful in
    let p = bound (λ (u : World). replay c u (Ran a n ∷ [])) (replay c i.base i.history) (world j) (sym (replay_append c i.base i.history (Ran a n ∷ [])) ∙ whole) in
    let here : Some p.0 ≡ Some (world i) = sym p.1 ∙ li.lawful in
    let q = bound (λ (u : World). replay c u []) (next c p.0 (Ran a n)) (world j) p.2 in
    let there : p.0 ≡ world i = cc in
    let last : q.0 ≡ world j = cc in
    ap (λ (w : World). next c w (Ran a n)) (sym there) ∙ q.1 ∙ ap (λ (w : World). Some w) last

body_ran : (i j : ImageView) (a : ActorId) (n : ℕ) (b last : Body) → body_at i a ≡ Some b → own_steps (world i).edits a (suc n) b ≡ Some last → after_run (constants i) (world i) a (suc n) ≡ Some (world j) → body_at j a ≡ Some last
body_ran i j a n b last at steps ran =
    let x = body_there i a b at in
    let own : own_steps (world i).edits a (suc n) x.0.body ≡ Some last = ap (λ (y : Body). own_steps (world i).edits a (suc n) y) x.2 ∙ steps in
    let busy = own_busy (world i).edits a n x.0.body last own in
    let by : world_after (constants i) a (suc n) (world i) ≡ Some (change (with_body last) a (world i)) = own_world (constants i) a (suc n) (world i) x.0 last x.1 busy own in
    let led : world_after (constants i) a (suc n) (world i) ≡ Some (world j) = (cond_some (nat_lt 0 (suc n)) (world_after (constants i) a (suc n) (world i)) (world j) (sym (ran_after (constants i) (world i) a (suc n)) ∙ ran)).1 in
    let both : Some (change (with_body last) a (world i)) ≡ Some (world j) = sym by ∙ led in
    let is : change (with_body last) a (world i) ≡ world j = cc in
    ap (λ (w : World). option_map (λ (y : WorldActor). y.body) (slice_get w.actors a.0)) (sym is)
    ∙ ap (option_map (λ (y : WorldActor). y.body)) (get-change (with_body last) a.0 (world i).actors x.0 x.1)

-- so many steps of a claim without an act behind them
after_steps : (i j : ImageView) (c : ClaimView) (steps : ℕ) → c.steps ≡ steps → IsLawful i → IsLawful j → own_steps (world i).edits c.actor steps c.before ≡ Some c.after → stands_before_act c ≡ false → HasCommitted i c (steps_of c) j → body_at j c.actor ≡ Some c.after
after_steps i j c zero none li lj steps last h =
    let all : steps_of c ≡ 0 = ap (λ (b : Bool). c.steps + (if b then 1 else 0)) last ∙ ap (λ (m : ℕ). m + 0) none in
    let items : items_of c ≡ [] = ap (λ (m : ℕ). if m == 0 then [] else Ran c.actor m ∷ []) all in
    let history : j.history ≡ i.history = ap (λ (x : ImageView). x.history) h.image ∙ ap (λ (is : List Item). i.history ++ is) items ∙ append-nil i.history in
    let same : world j ≡ world i = ap world h.image ∙ ap (λ (x : List Item). world (let y : ImageView = record i { history = x } in y)) (ap (λ (is : List Item). i.history ++ is) items ∙ append-nil i.history) in
    let still : c.before ≡ c.after = cc in
    ap (λ (w : World). option_map (λ (y : WorldActor). y.body) (slice_get w.actors c.actor.0)) same ∙ h.allowed.unchanged ∙ ap (λ (b : Body). Some b) still
after_steps i j c (suc n) some li lj steps last h =
    let plain : c.steps + 0 ≡ suc n = omega (arith, some) in
    let all : steps_of c ≡ suc n = ap (λ (b : Bool). c.steps + (if b then 1 else 0)) last ∙ plain in
    let more : (suc n == 0) ≡ false = eqb-suc-zero n in
    let items : items_of c ≡ Ran c.actor (suc n) ∷ [] = ap (λ (m : ℕ). if m == 0 then [] else Ran c.actor m ∷ []) all ∙ ap (λ (b : Bool). if b then [] else Ran c.actor (suc n) ∷ []) more in
    let history : j.history ≡ i.history ++ Ran c.actor (suc n) ∷ [] = ap (λ (x : ImageView). x.history) h.image ∙ ap (λ (is : List Item). i.history ++ is) items in
    let ran = ran_world i j c.actor (suc n) li lj (ap (λ (x : ImageView). x.base) h.image) (ap constants h.image) history in
    body_ran i j c.actor n c.before c.after h.allowed.unchanged steps ran

-- the steps of a claim that survives are steps of the present table
at_present : (i : ImageView) (c : ClaimView) → IsLawful i → IsSound c.actor c.edits c.before c.after c.steps c.sends → Survives i c → SameSteps (world i).edits c
at_present i c li sound survives = claims_survive (world i).edits c li.standing.lawful li.standing.sound sound survives

body_after_commit : (i j : ImageView) (c : ClaimView) (n : ℕ) → IsLawful i → IsLawful j → IsSound c.actor c.edits c.before c.after c.steps c.sends → Commits i c (Ok n) j → stands_before_act c ≡ false → body_at j c.actor ≡ Some c.after
body_after_commit i j c n li lj sound h last =
    let committed : HasCommitted i c (steps_of c) j = subst (λ (m : ℕ). HasCommitted i c m j) h.steps h in
    after_steps i j c c.steps refl li lj (at_present i c li sound h.allowed.survives).taken last committed

pub counts_on_its_body : CountsOnItsBody
counts_on_its_body = record {
  before = λ i j c n h. h.allowed.unchanged;
  after = body_after_commit;
  lost = is_lost;
  second = second_lost;
  present = at_present;
}
