-- Whether an edit touches a selector that steps used, by the first message of a turn and the sites of the sends.
use Rattle.std.proofs.Common.{refl, ◌≡◌, ◌∙◌, ◌<◌, ◌++◌, ◌+◌, drop, ℕ, zero, suc, ap, ap₂, sym, subst, List, [], ◌∷◌, length, Option, Some, None, Bool, true, false, ◌==◌, ◌||◌, map, slice_get, option_and_then, arith}
use Rattle.std.specs.List.{list_any}
use Rattle.std.specs.Option.{option_to_list}
use Rattle.std.proofs.lemmas.List.{map-append}
use Rattle.std.proofs.lemmas.List.Elements.{filter_map-append}
use Rattle.std.proofs.lemmas.List.Folds.{list_any-append}
use Rattle.std.proofs.lemmas.Option.{get_or_from_slice_get, slice_get_within}
use Rattle.std.proofs.Math.Seq.{drop-cons}
use Rattle.st_classes.specs.declared.values.ActorId.{ActorId}
use Rattle.st_classes.specs.declared.values.ClassId.{ClassId}
use Rattle.st_classes.specs.declared.values.Selector.{Selector}
use Rattle.st_classes.specs.declared.instructions.Instruction.{Instruction}
use Rattle.st_classes.specs.declared.instructions.Instruction.TheVariants.{PushLit, PushSelf, PushActor, PushTemp, PushSlot, StoreTemp, StoreSlot, Pop, Dup, Send, SuperSend, Jump, JumpFalse, JumpTrue, Answer}
use Rattle.st_classes.specs.declared.methods.MethodParts.{MethodParts}
use Rattle.st_classes.specs.declared.edits.Edit.{Edit}
use Rattle.st_classes.specs.declared.edits.Edit.TheVariants.{Define, Reparent}
use Rattle.st_classes.specs.EditLists.{method_at}
use Rattle.st_classes.specs.Kernel.{does_not_understand}
use Rattle.st_guard.specs.Touching.{touches}
use Rattle.st_guard.specs.ValidCaches.{asks}
use Rattle.st_guard.specs.ValidCaches as caches
use Rattle.st_turn.specs.declared.body.Object.{Object}
use Rattle.st_turn.specs.declared.body.Body.{Body}
use Rattle.st_turn.specs.declared.body.Phase.{Phase}
use Rattle.st_turn.specs.declared.body.Phase.TheVariants.{Fresh, Start, Frames, Done}
use Rattle.st_turn.specs.declared.claim.Sent.{Sent}
use Rattle.st_turn.specs.Effects.{FrameView}
use Rattle.st_turn.specs.Claims.{IsSound, asked_from, own_asked, selectors_asked, sites_asked}
use Rattle.st_turn.specs.Steps.{Asked, Step, asked, asked_by, asked_in, body_after, ended, next, outer, step}
use Rattle.st_turn.specs.Surviving.{touched}
use Rattle.st_turn.specs.UsedSelectors.{first_touched, touches_asked, touches_from, touches_key}
use Rattle.st_turn.proofs.Leading.{IsDispatched, LeadsTo, Led, step_leads}

-- ---- what one step asks for

-- by selectors and by sites
abbrev by_selectors : Selector → List Asked → Bool
by_selectors t qs = list_any (touches_from t) (selectors_asked qs)

abbrev by_sites : List Edit → Selector → List Asked → Bool
by_sites edits t qs = list_any (touches_asked edits t) (sites_asked qs)

abbrev Agree : List Edit → Selector → List Asked → Type 0
Agree edits t qs = by_selectors t qs ≡ by_sites edits t qs

asks_at : (edits : List Edit) (f : FrameView) (m : MethodParts) (i : Option Instruction) → method_at edits f.method ≡ Some m → slice_get m.code f.pc ≡ i → asks edits (record { method = f.method; place = f.pc }) ≡ caches.asked m i
asks_at edits f m i at here = ap (option_and_then (λ (x : MethodParts). caches.asked x (slice_get x.code f.pc))) at ∙ ap (caches.asked m) here

instruction_agrees : (edits : List Edit) (t : Selector) (objects : List Object) (f : FrameView) (m : MethodParts) → method_at edits f.method ≡ Some m → (i : Option Instruction) → slice_get m.code f.pc ≡ i → Agree edits t (option_to_list (asked_by m objects f i))
instruction_agrees edits t objects f m at None here = refl
instruction_agrees edits t objects f m at (Some (Send s n)) here = ap (λ (o : Option (Option ClassId × Selector)). touches_key t o || false) (sym (asks_at edits f m (Some (Send s n)) at here))
instruction_agrees edits t objects f m at (Some (SuperSend s n)) here = ap (λ (o : Option (Option ClassId × Selector)). touches_key t o || false) (sym (asks_at edits f m (Some (SuperSend s n)) at here))
instruction_agrees edits t objects f m at (Some (PushLit v)) here = refl
instruction_agrees edits t objects f m at (Some PushSelf) here = refl
instruction_agrees edits t objects f m at (Some PushActor) here = refl
instruction_agrees edits t objects f m at (Some (PushTemp i)) here = refl
instruction_agrees edits t objects f m at (Some (PushSlot i)) here = refl
instruction_agrees edits t objects f m at (Some (StoreTemp i)) here = refl
instruction_agrees edits t objects f m at (Some (StoreSlot i)) here = refl
instruction_agrees edits t objects f m at (Some Pop) here = refl
instruction_agrees edits t objects f m at (Some Dup) here = refl
instruction_agrees edits t objects f m at (Some (Jump d)) here = refl
instruction_agrees edits t objects f m at (Some (JumpFalse d)) here = refl
instruction_agrees edits t objects f m at (Some (JumpTrue d)) here = refl
instruction_agrees edits t objects f m at (Some Answer) here = refl

frames_agree : (edits : List Edit) (t : Selector) (objects : List Object) (f : FrameView) (o : Option MethodParts) → method_at edits f.method ≡ o → Agree edits t (option_to_list (option_and_then (λ (m : MethodParts). asked_by m objects f (slice_get m.code f.pc)) o))
frames_agree edits t objects f None at = refl
frames_agree edits t objects f (Some m) at = instruction_agrees edits t objects f m at (slice_get m.code f.pc) refl

-- once the first message was dispatched, each step asks at a site
phase_agrees : (edits : List Edit) (t : Selector) (objects : List Object) (phase : Phase) → IsDispatched phase → Agree edits t (option_to_list (asked_in edits objects phase))
phase_agrees edits t objects Fresh d = absurd d
phase_agrees edits t objects (Start s args) d = absurd d
phase_agrees edits t objects (Frames fs) d = frames_agree edits t objects fs.running (method_at edits fs.running.method) refl
phase_agrees edits t objects (Done outcome) d = refl

-- ---- what rows of steps ask for

both_agree : (edits : List Edit) (t : Selector) (xs ys : List Asked) → Agree edits t xs → Agree edits t ys → Agree edits t (xs ++ ys)
both_agree edits t xs ys f g =
    ap (list_any (touches_from t)) (map-append (λ (q : Asked). q.key.selector) xs ys)
    ∙ list_any-append (touches_from t) (selectors_asked xs) (selectors_asked ys)
    ∙ ap₂ (λ (x y : Bool). x || y) f g
    ∙ sym (list_any-append (touches_asked edits t) (sites_asked xs) (sites_asked ys))
    ∙ ap (list_any (touches_asked edits t)) (sym (filter_map-append (λ (q : Asked). q.site) xs ys))

led_on : (edits : List Edit) (a : ActorId) (b c : Body) → 0 < length b.objects → (s : Step) → step edits a b ≡ s → body_after s ≡ Some c → Led b.objects c
led_on edits a b c some (next d) e f =
    let same : d ≡ c = cc in
    subst (Led b.objects) same (subst (LeadsTo b.objects b.phase) e (step_leads edits a b some))
led_on edits a b c some ended e f = cc
led_on edits a b c some (outer act) e f = cc

from_agrees : (edits : List Edit) (t : Selector) (a : ActorId) (n : ℕ) (o : Option Body) → ((c : Body) → o ≡ Some c → Agree edits t (own_asked edits a n c)) → Agree edits t (asked_from (own_asked edits a n) o)
from_agrees edits t a n None h = refl
from_agrees edits t a n (Some c) h = h c refl

-- what the steps behind one ask for, where these do so
after_agrees : (edits : List Edit) (t : Selector) (a : ActorId) (n : ℕ) (b : Body) → 0 < length b.objects → ((c : Body) → 0 < length c.objects → IsDispatched c.phase → Agree edits t (own_asked edits a n c)) → Agree edits t (asked_from (own_asked edits a n) (body_after (step edits a b)))
after_agrees edits t a n b some h = from_agrees edits t a n (body_after (step edits a b)) (λ c e. let led = led_on edits a b c some (step edits a b) refl e in h c (omega (arith, some, led.keeps.objects)) led.dispatched)

rows_agree : (edits : List Edit) (t : Selector) (a : ActorId) (n : ℕ) (b : Body) → 0 < length b.objects → IsDispatched b.phase → Agree edits t (own_asked edits a n b)
rows_agree edits t a zero b some d = refl
rows_agree edits t a (suc n) b some d = both_agree edits t (option_to_list (asked edits b)) (asked_from (own_asked edits a n) (body_after (step edits a b))) (phase_agrees edits t b.objects b.phase d) (after_agrees edits t a n b some (rows_agree edits t a n))

-- ---- the first message

phase_used : (edits : List Edit) (t : Selector) (a : ActorId) (n : ℕ) (objects : List Object) (phase : Phase) → 0 < length objects → by_selectors t (own_asked edits a (suc n) (record { objects = objects; phase = phase })) ≡ (first_touched t (suc n) phase || by_sites edits t (own_asked edits a (suc n) (record { objects = objects; phase = phase })))
phase_used edits t a n objects Fresh some = refl
phase_used edits t a n objects (Start s args) some = ap (λ (x : Bool). touches_from t s || x) (after_agrees edits t a n (record { objects = objects; phase = Start s args }) some (rows_agree edits t a n))
phase_used edits t a n objects (Frames fs) some = rows_agree edits t a (suc n) (record { objects = objects; phase = Frames fs }) some tt
phase_used edits t a n objects (Done outcome) some = refl

steps_used : (edits : List Edit) (t : Selector) (a : ActorId) (n : ℕ) (b : Body) → 0 < length b.objects → by_selectors t (own_asked edits a n b) ≡ (first_touched t n b.phase || by_sites edits t (own_asked edits a n b))
steps_used edits t a zero b some = refl
steps_used edits t a (suc n) b some = phase_used edits t a n b.objects b.phase some

any_of : (edits : List Edit) (t : Selector) (ss : List Sent) → list_any (touches_asked edits t) (map (λ (s : Sent). s.site) ss) ≡ list_any (λ (s : Sent). touches_asked edits t s.site) ss
any_of edits t [] = refl
any_of edits t (s ∷ ss) = ap (λ (b : Bool). touches_asked edits t s.site || b) (any_of edits t ss)

-- what a claim used, by its parts
pub used_is : (t : Selector) (a : ActorId) (edits : List Edit) (before after : Body) (n : ℕ) (ss : List Sent) → IsSound a edits before after n ss → list_any (touches_from t) (selectors_asked (own_asked edits a n before)) ≡ (first_touched t n before.phase || list_any (λ (s : Sent). touches_asked edits t s.site) ss)
used_is t a edits before after n ss h =
    steps_used edits t a n before h.begins.4.some
    ∙ ap (λ (b : Bool). first_touched t n before.phase || b) (sym (ap (list_any (touches_asked edits t)) h.sites) ∙ any_of edits t ss)

-- ---- all later edits

nothing_any : {X : Type 0} (xs : List X) → list_any (λ (x : X). false) xs ≡ false
nothing_any [] = refl
nothing_any (x ∷ xs) = nothing_any xs

or_swap : (p q r s : Bool) → ((p || q) || (r || s)) ≡ ((p || r) || (q || s))
or_swap true q r s = refl
or_swap false true true s = refl
or_swap false true false s = refl
or_swap false false true s = refl
or_swap false false false s = refl

any_or : {X : Type 0} (p q : X → Bool) (xs : List X) → list_any (λ (x : X). p x || q x) xs ≡ (list_any p xs || list_any q xs)
any_or p q [] = refl
any_or p q (x ∷ xs) = ap (λ (b : Bool). (p x || q x) || b) (any_or p q xs) ∙ or_swap (p x) (q x) (list_any p xs) (list_any q xs)

-- whether one of the selectors is touched by one of the edits, either way round
pub any_touched : (ss : List Selector) (es : List Edit) → list_any (touched es) ss ≡ list_any (λ (e : Edit). list_any (touches e) ss) es
any_touched ss [] = nothing_any ss
any_touched ss (e ∷ es) = any_or (touches e) (touched es) ss ∙ ap (λ (b : Bool). list_any (touches e) ss || b) (any_touched ss es)

-- a definition touches none
pub defines_none : (name : List ℕ) (up : ClassId) (slots : List (List ℕ)) (ss : List Selector) → list_any (touches (Define name up slots)) ss ≡ false
defines_none name up slots ss = nothing_any ss

-- a reparent touches them all, as an edit for `doesNotUnderstand:` does
or_true : (b : Bool) → (b || true) ≡ true
or_true true = refl
or_true false = refl

pub reparents_all : (c p : ClassId) (ss : List Selector) → list_any (touches_from does_not_understand) ss ≡ list_any (touches (Reparent c p)) ss
reparents_all c p [] = refl
reparents_all c p (s ∷ ss) = ap (λ (b : Bool). b || list_any (touches_from does_not_understand) ss) (or_true (does_not_understand.0 == s.0))

-- the rest of a list from an element on
drop_here : {X : Type 0} (xs : List X) (n : ℕ) (x : X) → slice_get xs n ≡ Some x → drop n xs ≡ x ∷ drop (n + 1) xs
drop_here xs n x at =
    let next : suc n ≡ n + 1 = omega arith in
    drop-cons xs n x (slice_get_within xs n x at)
    ∙ ap₂ (λ (y : _) (k : ℕ). y ∷ drop k xs) (get_or_from_slice_get xs n x x at) next

pub any_here : {X : Type 0} (p : X → Bool) (xs : List X) (n : ℕ) (x : X) → slice_get xs n ≡ Some x → p x ≡ true → list_any p (drop n xs) ≡ true
any_here p xs n x at t = ap (list_any p) (drop_here xs n x at) ∙ ap (λ (b : Bool). b || list_any p (drop (n + 1) xs)) t

pub any_next : {X : Type 0} (p : X → Bool) (xs : List X) (n : ℕ) (x : X) → slice_get xs n ≡ Some x → p x ≡ false → list_any p (drop n xs) ≡ list_any p (drop (n + 1) xs)
any_next p xs n x at t = ap (list_any p) (drop_here xs n x at) ∙ ap (λ (b : Bool). b || list_any p (drop (n + 1) xs)) t
