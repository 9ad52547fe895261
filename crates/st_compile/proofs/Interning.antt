-- Names after texts are interned.
use Rattle.std.proofs.Common.{◌≡◌, ◌⊎◌, ℕ, ◌<◌, ◌≤◌, Bool, true, false, List, [], ◌∷◌, ◌++◌, length, Some, None, ltb, leb, Result, Ok, Err, slice_get, inl, inr, refl, sym, ap, ◌∙◌, arith}
use Rattle.std.proofs.lemmas.List.{append_assoc, append-nil, length-append}
use Rattle.std.proofs.lemmas.List.Sums.{fold-append}
use Rattle.std.specs.Result.{OnOk, OnErr, IfErr}
use Rattle.std.proofs.lemmas.List.{length_push}
use Rattle.std.proofs.lemmas.Bool.{leb-true, ltb-true}
use Rattle.std.proofs.lemmas.Bool.Decides.{nat_tests}
use Rattle.std.proofs.lemmas.Option.{none-some}
use Rattle.st_classes.specs.declared.values.Selector.{Selector}
use Rattle.st_classes.specs.declared.refusals.Refusal.{Refusal}
use Rattle.st_classes.specs.declared.refusals.Refusal.TheVariants.{NoMemory, BadName, TooMany}
use Rattle.st_classes.specs.declared.refusals.Limited.TheVariants.{Names}
use Rattle.st_classes.specs.Names.{is_name, interned, intern_rules, AreNames}
use Rattle.st_classes.specs.Refusals.{first_of, Answers}
use Rattle.st_classes.specs.Selectors.{is_selector, place_of}
use Rattle.st_compile.specs.NeededNames.{InternsFirst, IsFull, interned_all, names_rule}
use Rattle.st_compile.proofs.Places.{place-of_name}

-- the one list begins with the other
abbrev pub Grows : List (List ℕ) → List (List ℕ) → Type 0
Grows names after = (more : List (List ℕ)) × (after ≡ names ++ more)

pub grows-none : (names : List (List ℕ)) → Grows names names
grows-none names = ([], sym (append-nil names))

pub grows-trans : (a b c : List (List ℕ)) → Grows a b → Grows b c → Grows a c
grows-trans a b c p q = (p.0 ++ q.0, q.1 ∙ (ap (λ (x : List (List ℕ)). x ++ q.0) p.1 ∙ append_assoc a p.0 q.0))

pub grows-interned : (names : List (List ℕ)) (text : List ℕ) → Grows names (interned names text)
grows-interned names text = by (is_name names text) refl
  where
    by : (v : Bool) → is_name names text ≡ v → Grows names (interned names text)
    by true e = ([], rw e (sym (append-nil names)))
    by false e = (text ∷ [], rw e refl)

pub grows-interned_all : (names texts : List (List ℕ)) → Grows names (interned_all names texts)
grows-interned_all names [] = grows-none names
grows-interned_all names (text ∷ texts) = grows-trans names (interned names text) (interned_all (interned names text) texts) (grows-interned names text) (grows-interned_all (interned names text) texts)

pub length-interned_all : (names texts : List (List ℕ)) → length names ≤ length (interned_all names texts)
length-interned_all names texts =
    let g = grows-interned_all names texts in
    omega (arith, ap length g.1, length-append names g.0)

-- what is interned first is part of what is interned in all
pub interned_all-append : (names texts more : List (List ℕ)) → interned_all names (texts ++ more) ≡ interned_all (interned_all names texts) more
interned_all-append names texts more = fold-append interned names texts more

-- the refusal for names, where there is room and where there is none
pub names-room : (names texts : List (List ℕ)) → length (interned_all names texts) ≤ 8192 → first_of (names_rule names texts ∷ []) ≡ None
names-room names texts h =
    let e : ltb 8192 (length (interned_all names texts)) ≡ false = grind (arith, nat_tests) in
    rw e refl

pub names-full : (names texts : List (List ℕ)) → 8192 < length (interned_all names texts) → first_of (names_rule names texts ∷ []) ≡ Some (TooMany Names)
names-full names texts h =
    let e : ltb 8192 (length (interned_all names texts)) ≡ true = grind (arith, nat_tests) in
    rw e refl

intern_refused : (names : List (List ℕ)) (text : List ℕ) (e : Refusal) → is_selector text ≡ true → first_of (intern_rules names text) ≡ Some e → first_of (names_rule names (text ∷ []) ∷ []) ≡ Some e
intern_refused names text e s h = by (is_name names text) refl (leb 8192 (length names)) refl
  where
    by : (v : Bool) → is_name names text ≡ v → (w : Bool) → leb 8192 (length names) ≡ w → first_of (names_rule names (text ∷ []) ∷ []) ≡ Some e
    by true p w q =
        let k : None ≡ Some e = rw (s, p) at h in
        absurd (none-some e k)
    by false p false q =
        let k : None ≡ Some e = rw (s, p, q) at h in
        absurd (none-some e k)
    by false p true q =
        let k : Some (TooMany Names) ≡ Some e = rw (s, p, q) at h in
        let l : 8192 ≤ length names = leb-true 8192 (length names) q in
        let i : interned names text ≡ names ++ text ∷ [] = rw p refl in
        let m : 8192 < length (interned_all names (text ∷ [])) = omega (arith, ap length i, length_push names text) in
        names-full names (text ∷ []) m ∙ k

-- what interning a selector answers, by its place
pub number_answers : (names after : List (List ℕ)) (text : List ℕ) (r : Result Selector Refusal) → is_selector text ≡ true → AreNames after → OnOk r (after ≡ interned names text) → Answers (first_of (intern_rules names text)) r (λ s. slice_get after s.0 ≡ Some text) → Answers (first_of (names_rule names (text ∷ []) ∷ [])) r (λ s. place_of after text ≡ Some s.0)
number_answers names after text (Ok s) k a g h =
    let few : length (interned_all names (text ∷ [])) ≤ 8192 = omega (arith, a.few, ap length g) in
    (names-room names (text ∷ []) few, place-of_name after a text s.0 h.1)
number_answers names after text (Err e) k a g (inl h) = inl h
number_answers names after text (Err e) k a g (inr h) = inr (intern_refused names text e k h)

pub refused-full : (names texts : List (List ℕ)) (e : Refusal) → first_of (names_rule names texts ∷ []) ≡ Some e → 8192 < length (interned_all names texts)
refused-full names texts e h = by (ltb 8192 (length (interned_all names texts))) refl
  where
    by : (v : Bool) → ltb 8192 (length (interned_all names texts)) ≡ v → 8192 < length (interned_all names texts)
    by true q = ltb-true 8192 (length (interned_all names texts)) q
    by false q =
        let k : None ≡ Some e = rw q at h in
        absurd (none-some e k)

pub grown_by : (old names texts : List (List ℕ)) → names ≡ interned_all old texts → Grows old names
grown_by old names texts e =
    let g = grows-interned_all old texts in
    (g.0, e ∙ g.1)

-- ---- a full table

full_rule : (names : List (List ℕ)) (text : List ℕ) → length names ≤ 8192 → first_of (intern_rules names text) ≡ Some (TooMany Names) → length names ≡ 8192
full_rule names text few h = by (is_selector text) refl (is_name names text) refl (leb 8192 (length names)) refl
  where
    by : (u : Bool) → is_selector text ≡ u → (v : Bool) → is_name names text ≡ v → (w : Bool) → leb 8192 (length names) ≡ w → length names ≡ 8192
    by false p v q w r =
        let k : Some BadName ≡ Some (TooMany Names) = rw p at h in
        cc
    by true p true q w r =
        let k : None ≡ Some (TooMany Names) = rw (p, q) at h in
        absurd (none-some (TooMany Names) k)
    by true p false q false r =
        let k : None ≡ Some (TooMany Names) = rw (p, q, r) at h in
        absurd (none-some (TooMany Names) k)
    by true p false q true r = omega (arith, few, leb-true 8192 (length names) r)

refused_full : (names : List (List ℕ)) (text : List ℕ) (e : Refusal) → length names ≤ 8192 → (e ≡ NoMemory) ⊎ (first_of (intern_rules names text) ≡ Some e) → IsFull names e
refused_full names text e few (inl m) = λ t. let never : NoMemory ≡ TooMany Names = sym m ∙ t in cc
refused_full names text e few (inr h) = λ t. full_rule names text few (h ∙ ap Some t)

pub number_full : (names after : List (List ℕ)) (text : List ℕ) (r : Result Selector Refusal) → AreNames after → OnErr r (after ≡ names) → Answers (first_of (intern_rules names text)) r (λ s. slice_get after s.0 ≡ Some text) → IfErr r (λ e. IsFull after e)
number_full names after text (Ok s) a same h = tt
number_full names after text (Err e) a same h =
    let few : length names ≤ 8192 = omega (arith, a.few, ap length same) in
    rw same (refused_full names text e few h)

-- ---- some first texts of a list

pub first-all : (names texts after : List (List ℕ)) → after ≡ interned_all names texts → InternsFirst names texts after
first-all names texts after e = (texts, [], sym (append-nil texts), e)

pub first-more : (names middle after : List (List ℕ)) (text : List ℕ) (texts : List (List ℕ)) → middle ≡ interned names text → InternsFirst middle texts after → InternsFirst names (text ∷ texts) after
first-more names middle after text texts e f = (text ∷ f.0, f.1, ap (λ (ts : List (List ℕ)). text ∷ ts) f.2, f.3 ∙ ap (λ (ns : List (List ℕ)). interned_all ns f.0) e)

pub first-grows : (names texts after : List (List ℕ)) → InternsFirst names texts after → Grows names after
first-grows names texts after f = grown_by names after f.0 f.3

-- what is refused for one text is refused for it and more
pub refused_first : (names : List (List ℕ)) (text : List ℕ) (texts : List (List ℕ)) (e : Refusal) → (e ≡ NoMemory) ⊎ (first_of (names_rule names (text ∷ []) ∷ []) ≡ Some e) → (e ≡ NoMemory) ⊎ (first_of (names_rule names (text ∷ texts) ∷ []) ≡ Some e)
refused_first names text texts e (inl h) = inl h
refused_first names text texts e (inr h) =
    let full = refused-full names (text ∷ []) e h in
    let all : 8192 < length (interned_all names (text ∷ texts)) = omega (arith, full, length-interned_all (interned names text) texts) in
    inr (names-full names (text ∷ texts) all ∙ (sym (names-full names (text ∷ []) full) ∙ h))
