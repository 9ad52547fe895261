-- The steps of a claim that survives are steps of the later table.
use Rattle.std.proofs.Common.{refl, ◌≡◌, ◌∙◌, ◌<◌, ◌++◌, ℕ, zero, suc, ap, ap₂, sym, subst, List, Option, Some, None, false, option_and_then}
use Rattle.std.specs.Prelude.{Bool, ◌||◌}
use Rattle.std.specs.List.{list_any}
use Rattle.std.specs.Option.{option_to_list}
use Rattle.std.proofs.lemmas.List.{map-append}
use Rattle.std.proofs.Math.Seq.{drop-append_seam}
use Rattle.std.proofs.lemmas.List.Folds.{list_any-append}
use Rattle.st_classes.specs.declared.values.ActorId.{ActorId}
use Rattle.st_classes.specs.declared.edits.Edit.{Edit}
use Rattle.st_classes.specs.declared.edits.Edit.TheVariants.{Install}
use Rattle.st_classes.specs.Kernel.{does_not_understand}
use Rattle.st_classes.specs.MethodSuits.{arity_at}
use Rattle.st_classes.specs.EditLists.{AreLawful, AllSound, AllSuit}
use Rattle.st_classes.proofs.LawLists.{slice_get_kept}
use Rattle.st_classes.proofs.LawGrowing.{lawful_before}
use Rattle.st_guard.proofs.Covering.{or_parts}
use Rattle.st_turn.specs.declared.body.Body.{Body}
use Rattle.st_turn.specs.BodyFits.{Fits, Referents}
use Rattle.st_turn.specs.Claims.{ClaimView, IsSound, asked_from, own_asked, selectors_asked, used}
use Rattle.st_turn.specs.Steps.{Asked, Step, asked, body_after, ended, next, outer, own_steps, step}
use Rattle.st_turn.specs.Surviving.{ClaimsSurvive, SameSteps, SurvivesAt, edits_since, touched}
use Rattle.st_turn.proofs.Keeping.{FitsStep, step_fits}
use Rattle.st_turn.proofs.LaterTables.{Untouched, act_later, asked_later, step_later}

-- ---- what is asked for is among what is used

-- the later edits touch none of what was asked for
abbrev NoneTouched : List Edit → List Asked → Type 0
NoneTouched more qs = list_any (touched more) (selectors_asked qs) ≡ false

none_parts : (more : List Edit) (xs ys : List Asked) → NoneTouched more (xs ++ ys) → NoneTouched more xs × NoneTouched more ys
none_parts more xs ys h = or_parts (list_any (touched more) (selectors_asked xs)) (list_any (touched more) (selectors_asked ys)) (sym (ap (list_any (touched more)) (map-append (λ (q : Asked). q.key.selector) xs ys) ∙ list_any-append (touched more) (selectors_asked xs) (selectors_asked ys)) ∙ h)

none_both : (more : List Edit) (xs ys : List Asked) → NoneTouched more xs → NoneTouched more ys → NoneTouched more (xs ++ ys)
none_both more xs ys f g =
    ap (list_any (touched more)) (map-append (λ (q : Asked). q.key.selector) xs ys)
    ∙ list_any-append (touched more) (selectors_asked xs) (selectors_asked ys)
    ∙ ap₂ (λ (x y : Bool). x || y) f g

one_untouched : (more : List Edit) (o : Option Asked) → NoneTouched more (option_to_list o) → Untouched more o
one_untouched more None h q e = cc
one_untouched more (Some p) h q e =
    let same : p ≡ q = cc in
    subst (λ (x : Asked). touched more x.key.selector ≡ false) same (or_parts (touched more p.key.selector) false h).0

-- ---- rows of steps

-- a number of steps at the longer list, and what they ask for
record AlikeFrom (es more : List Edit) (a : ActorId) (n : ℕ) (b : Body) : Type 0 where
  pub taken : own_steps (es ++ more) a n b ≡ own_steps es a n b
  pub asks : own_asked (es ++ more) a n b ≡ own_asked es a n b

-- what is known of the claim's own list
record IsKnown (given : Referents) (es more : List Edit) (a : ActorId) : Type 0 where
  pub lawful : AreLawful (es ++ more)
  pub sound : AllSound es
  pub suit : AllSuit given.names es
  pub known : arity_at given.names does_not_understand ≡ Some 1
  pub actor : a.0 < given.actors

fits_after : (given : Referents) (es more : List Edit) (a : ActorId) (b c : Body) → IsKnown given es more a → Fits given es b → (s : Step) → step es a b ≡ s → body_after s ≡ Some c → Fits given es c
fits_after given es more a b c k fits (next d) e f =
    let same : d ≡ c = cc in
    subst (Fits given es) same (subst (FitsStep given es b) e (step_fits given es a b (lawful_before es more k.lawful) k.suit k.sound k.known k.actor fits))
fits_after given es more a b c k fits ended e f = cc
fits_after given es more a b c k fits (outer act) e f = cc

then_alike : (given : Referents) (es more : List Edit) (a : ActorId) (n : ℕ) → (o : Option Body) → ((c : Body) → o ≡ Some c → AlikeFrom es more a n c) → (option_and_then (own_steps (es ++ more) a n) o ≡ option_and_then (own_steps es a n) o) × (asked_from (own_asked (es ++ more) a n) o ≡ asked_from (own_asked es a n) o)
then_alike given es more a n None h = (refl, refl)
then_alike given es more a n (Some c) h = ((h c refl).taken, (h c refl).asks)

rest_untouched : (es more : List Edit) (a : ActorId) (n : ℕ) (c : Body) (o : Option Body) → o ≡ Some c → NoneTouched more (asked_from (own_asked es a n) o) → NoneTouched more (own_asked es a n c)
rest_untouched es more a n c None e h = cc
rest_untouched es more a n c (Some d) e h = let same : d ≡ c = cc in subst (λ (x : Body). NoneTouched more (own_asked es a n x)) same h

steps_alike : (given : Referents) (es more : List Edit) (a : ActorId) → IsKnown given es more a → (n : ℕ) (b : Body) → Fits given es b → NoneTouched more (own_asked es a n b) → AlikeFrom es more a n b
steps_alike given es more a k zero b fits u = record { taken = refl; asks = refl }
steps_alike given es more a k (suc n) b fits u =
    let parts = none_parts more (option_to_list (asked es b)) (asked_from (own_asked es a n) (body_after (step es a b))) u in
    let same : step (es ++ more) a b ≡ step es a b = step_later given es more a b k.lawful k.suit fits (one_untouched more (asked es b) parts.0) in
    let rest = then_alike given es more a n (body_after (step es a b)) (λ c e. steps_alike given es more a k n c (fits_after given es more a b c k fits (step es a b) refl e) (rest_untouched es more a n c (body_after (step es a b)) e parts.1)) in
    record {
      taken = ap (λ (s : Step). option_and_then (own_steps (es ++ more) a n) (body_after s)) same ∙ rest.0;
      asks = ap₂ (λ (xs ys : List Asked). xs ++ ys) (ap (λ (o : Option Asked). option_to_list o) (asked_later given es more b fits)) (ap (λ (s : Step). asked_from (own_asked (es ++ more) a n) (body_after s)) same ∙ rest.1);
    }

fewer_by : (more : List Edit) (F G : Body → List Asked) (o : Option Body) → ((c : Body) → NoneTouched more (F c) → NoneTouched more (G c)) → NoneTouched more (asked_from F o) → NoneTouched more (asked_from G o)
fewer_by more F G None h u = refl
fewer_by more F G (Some c) h u = h c u

-- one step fewer asks for no more
fewer_untouched : (es more : List Edit) (a : ActorId) (n : ℕ) (b : Body) → NoneTouched more (own_asked es a (suc n) b) → NoneTouched more (own_asked es a n b)
fewer_untouched es more a zero b u = refl
fewer_untouched es more a (suc n) b u =
    let parts = none_parts more (option_to_list (asked es b)) (asked_from (own_asked es a (suc n)) (body_after (step es a b))) u in
    none_both more (option_to_list (asked es b)) (asked_from (own_asked es a n) (body_after (step es a b))) parts.0 (fewer_by more (own_asked es a (suc n)) (own_asked es a n) (body_after (step es a b)) (λ c h. fewer_untouched es more a n c h) parts.1)

-- the body after so many steps fits
after_fits : (given : Referents) (es more : List Edit) (a : ActorId) → IsKnown given es more a → (n : ℕ) (b c : Body) → Fits given es b → own_steps es a n b ≡ Some c → Fits given es c
after_fits given es more a k zero b c fits e = let same : b ≡ c = cc in subst (Fits given es) same fits
after_fits given es more a k (suc n) b c fits e = by_body (body_after (step es a b)) (own_steps es a n) refl e (λ d f g. after_fits given es more a k n d c (fits_after given es more a b d k fits (step es a b) refl f) g)
  where
    by_body : (o : Option Body) (F : Body → Option Body) → body_after (step es a b) ≡ o → option_and_then F o ≡ Some c → ((d : Body) → body_after (step es a b) ≡ Some d → F d ≡ Some c → Fits given es c) → Fits given es c
    by_body None F f g h = cc
    by_body (Some d) F f g h = h d f g

-- ---- the claim

sound_before : (es more : List Edit) → AllSound (es ++ more) → AllSound es
sound_before es more s place c m at = s place c m (slice_get_kept es more place (Install c m) at)

since_is : (c : ClaimView) (more : List Edit) → edits_since c (c.edits ++ more) ≡ more
since_is c more = drop-append_seam c.edits more

survives_with : (c : ClaimView) (more : List Edit) → AreLawful (c.edits ++ more) → AllSound (c.edits ++ more) → IsSound c.actor c.edits c.before c.after c.steps c.sends → list_any (touched (edits_since c (c.edits ++ more))) (used c) ≡ false → SameSteps (c.edits ++ more) c
survives_with c more lawful sound h u =
    let given = h.begins.0 in
    let k : IsKnown given c.edits more c.actor = record { lawful = lawful; sound = sound_before c.edits more sound; suit = h.begins.1; known = h.begins.2; actor = h.begins.3 } in
    let fits = h.begins.4 in
    let none : NoneTouched more (own_asked c.edits c.actor c.steps c.before) = subst (λ (es : List Edit). list_any (touched es) (used c) ≡ false) (since_is c more) u in
    let row = steps_alike given c.edits more c.actor k c.steps c.before fits none in
    let after = after_fits given c.edits more c.actor k c.steps c.before c.after fits h.taken in
    record {
      taken = row.taken ∙ h.taken;
      asks = row.asks;
      act = act_later given c.edits more c.actor c.after after;
      next = asked_later given c.edits more c.after after;
    }

pub claims_survive : ClaimsSurvive
claims_survive edits c lawful sound h s =
    let rest = s.begins.0 in
    let all : edits ≡ c.edits ++ rest = s.begins.1 in
    subst (λ (es : List Edit). SameSteps es c) (sym all) (survives_with c rest (subst AreLawful all lawful) (subst AllSound all sound) h (subst (λ (es : List Edit). list_any (touched (edits_since c es)) (used c) ≡ false) all s.untouched))

one_fewer_with : (c : ClaimView) (more : List Edit) (n : ℕ) → AreLawful (c.edits ++ more) → AllSound (c.edits ++ more) → IsSound c.actor c.edits c.before c.after c.steps c.sends → c.steps ≡ suc n → list_any (touched (edits_since c (c.edits ++ more))) (used c) ≡ false → own_steps (c.edits ++ more) c.actor n c.before ≡ own_steps c.edits c.actor n c.before
one_fewer_with c more n lawful sound h steps u =
    let given = h.begins.0 in
    let k : IsKnown given c.edits more c.actor = record { lawful = lawful; sound = sound_before c.edits more sound; suit = h.begins.1; known = h.begins.2; actor = h.begins.3 } in
    let all : NoneTouched more (own_asked c.edits c.actor c.steps c.before) = subst (λ (es : List Edit). list_any (touched es) (used c) ≡ false) (since_is c more) u in
    let none : NoneTouched more (own_asked c.edits c.actor (suc n) c.before) = subst (λ (m : ℕ). NoneTouched more (own_asked c.edits c.actor m c.before)) steps all in
    (steps_alike given c.edits more c.actor k n c.before h.begins.4 (fewer_untouched c.edits more c.actor n c.before none)).taken

-- so are they without the last
pub one_fewer_survives : (edits : List Edit) (c : ClaimView) (n : ℕ) → AreLawful edits → AllSound edits → IsSound c.actor c.edits c.before c.after c.steps c.sends → c.steps ≡ suc n → SurvivesAt edits c → own_steps edits c.actor n c.before ≡ own_steps c.edits c.actor n c.before
one_fewer_survives edits c n lawful sound h steps s =
    let rest = s.begins.0 in
    let all : edits ≡ c.edits ++ rest = s.begins.1 in
    subst (λ (es : List Edit). own_steps es c.actor n c.before ≡ own_steps c.edits c.actor n c.before) (sym all) (one_fewer_with c rest n (subst AreLawful all lawful) (subst AllSound all sound) h steps (subst (λ (es : List Edit). list_any (touched (edits_since c es)) (used c) ≡ false) all s.untouched))
