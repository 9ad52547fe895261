-- Texts by their places.
use Rattle.std.proofs.Common.{◌≡◌, ℕ, ◌+◌, ◌<◌, ◌≤◌, Bool, true, false, not, ◌||◌, cond, List, [], ◌∷◌, ◌++◌, length, map, take, get_or, refl, sym, ap, ◌∙◌, arith, ◌⊎◌, inl, inr, zero, suc, Some, None, slice_get, true≢false, lit≤, leb, Bor}
use Rattle.std.specs.Global.{Vec}
use Rattle.std.specs.List.{list_any, position, prefix_len}
use Rattle.std.specs.Str.{bytes_eq}
use Rattle.std.proofs.lemmas.List.{length-map, map-append}
use Rattle.std.proofs.lemmas.List.{take-append-le, length-take, length-append, take_more}
use Rattle.std.proofs.lemmas.List.Quantifiers.{position-Some}
use Rattle.std.proofs.lemmas.Bool.{lt-leb}
use Rattle.std.proofs.lemmas.Option.{slice_get-get_or, slice_get-map, slice_get_read, slice_get_within, get_or_from_slice_get}
use Rattle.std.specs.Option.{option_map}
use Rattle.std.proofs.lemmas.Slice.Eq.{bytes_eq-Decides}
use Rattle.indexmap.specs.IndexSet.{insert_key}
use Rattle.st_classes.specs.EditRules.{has_twice}
use Rattle.st_classes.specs.Kernel.{kernel_selectors}
use Rattle.st_classes.specs.Names.{is_name, interned, intern_rules, texts_of, AreNames}
use Rattle.st_classes.specs.Refusals.{first_of}
use Rattle.st_classes.specs.Selectors.{is_selector, place_of}
use Rattle.st_classes.proofs.LawLists.{slice_get_last, slice_get_push, list_all_get}

module _ {X Y : Type 0} (f : X → Y) where
  prefix_len-map : (p : Y → Bool) (xs : List X) → prefix_len p (map f xs) ≡ prefix_len (λ x. p (f x)) xs
  prefix_len-map p [] = refl
  prefix_len-map p (x ∷ xs) = ap (λ n. cond (p (f x)) (1 + n) 0) (prefix_len-map p xs)

  pub position-map : (p : Y → Bool) (xs : List X) → position p (map f xs) ≡ position (λ x. p (f x)) xs
  position-map p xs = rw (prefix_len-map (λ y. not (p y)) xs, length-map xs f) refl

  pub list_any-map : (p : Y → Bool) (xs : List X) → list_any p (map f xs) ≡ list_any (λ x. p (f x)) xs
  list_any-map p [] = refl
  list_any-map p (x ∷ xs) = ap (λ b. p (f x) || b) (list_any-map p xs)

-- two vectors with the same bytes
abbrev pub same_bytes : Vec ℕ → Vec ℕ → Bool
same_bytes v w = bytes_eq v.items w.items

-- the place of a text
pub place-of_texts : (text : List ℕ) (vs : List (Vec ℕ)) → position (λ v. bytes_eq text v.items) vs ≡ position (bytes_eq text) (texts_of vs)
place-of_texts text vs = sym (position-map (λ (v : Vec ℕ). v.items) (bytes_eq text) vs)

pub found-of_texts : (text : List ℕ) (vs : List (Vec ℕ)) → list_any (λ v. bytes_eq text v.items) vs ≡ is_name (texts_of vs) text
found-of_texts text vs = sym (list_any-map (λ (v : Vec ℕ). v.items) (bytes_eq text) vs)

-- the texts after a vector is inserted
pub texts-insert_key : (vs : List (Vec ℕ)) (v : Vec ℕ) → texts_of (insert_key same_bytes vs v) ≡ interned (texts_of vs) v.items
texts-insert_key vs v = by (list_any (same_bytes v) vs) refl
  where
    by : (b : Bool) → list_any (same_bytes v) vs ≡ b → texts_of (insert_key same_bytes vs v) ≡ interned (texts_of vs) v.items
    by true e = rw (sym (found-of_texts v.items vs), e) refl
    by false e = rw (sym (found-of_texts v.items vs), e) (map-append (λ (w : Vec ℕ). w.items) vs (v ∷ []))

pub or-parts : (a b : Bool) → (a || b) ≡ false → (a ≡ false) × (b ≡ false)
or-parts true b h = absurd (true≢false h)
or-parts false b h = (refl, h)

same : (text : List ℕ) → bytes_eq text text ≡ true
same text = (bytes_eq-Decides text text).1 refl

-- the text at its place
pub place_of-at : (names : List (List ℕ)) (text : List ℕ) (place : ℕ) → place_of names text ≡ Some place → slice_get names place ≡ Some text
place_of-at names text place h =
    let found = position-Some (bytes_eq text) names place [] h in
    let e : text ≡ get_or names place [] = (bytes_eq-Decides text (get_or names place [])).0 found.1 in
    slice_get-get_or names place [] found.0 ∙ ap Some (sym e)

-- a test that no item passes
none-at : {X : Type 0} (p : X → Bool) (xs : List X) (i : ℕ) (x : X) → list_any p xs ≡ false → slice_get xs i ≡ Some x → p x ≡ false
none-at p [] i x a h = absurd (let e : None ≡ Some x = h in cc)
none-at p (y ∷ xs) zero x a h =
    let e : Some y ≡ Some x = h in
    let f : y ≡ x = cc in
    ap p (sym f) ∙ (or-parts (p y) (list_any p xs) a).0
none-at p (y ∷ xs) (suc i) x a h = none-at p xs i x (or-parts (p y) (list_any p xs) a).1 h

-- a text that is not among names is at no place of theirs
pub absent : (names : List (List ℕ)) (text : List ℕ) (place : ℕ) → is_name names text ≡ false → slice_get names place ≡ Some text → ⊥
absent names text place out h = true≢false (sym (same text) ∙ none-at (bytes_eq text) names place text out h)

distinct-at : (names : List (List ℕ)) (a b : ℕ) (text : List ℕ) → has_twice names ≡ false → slice_get names a ≡ Some text → slice_get names b ≡ Some text → a ≡ b
distinct-at [] a b text d h k = absurd (let e : None ≡ Some text = h in cc)
distinct-at (t ∷ ts) zero zero text d h k = refl
distinct-at (t ∷ ts) zero (suc b) text d h k =
    let e : Some t ≡ Some text = h in
    let f : t ≡ text = cc in
    absurd (absent ts t b (or-parts (list_any (bytes_eq t) ts) (has_twice ts) d).0 (k ∙ ap Some (sym f)))
distinct-at (t ∷ ts) (suc a) zero text d h k =
    let e : Some t ≡ Some text = k in
    let f : t ≡ text = cc in
    absurd (absent ts t a (or-parts (list_any (bytes_eq t) ts) (has_twice ts) d).0 (h ∙ ap Some (sym f)))
distinct-at (t ∷ ts) (suc a) (suc b) text d h k = ap suc (distinct-at ts a b text (or-parts (list_any (bytes_eq t) ts) (has_twice ts) d).1 h k)

-- the kernel's names are a table
pub AreNames-kernel : AreNames kernel_selectors
AreNames-kernel = record {
  kernel = refl;
  selectors = λ place text h. list_all_get is_selector kernel_selectors place text refl h;
  different = λ a b text h k. distinct-at kernel_selectors a b text refl h k;
  few = lit≤ tt;
}

module _ (names : List (List ℕ)) (text : List ℕ) (old : AreNames names) where
  -- and so is a table with a new selector at its end
  pub AreNames-push : is_selector text ≡ true → is_name names text ≡ false → length names < 8192 → AreNames (names ++ text ∷ [])
  AreNames-push good out room = record {
    kernel =
        let long : 22 ≤ length names = omega (arith, ap length old.kernel, length-take 22 names) in
        take-append-le 22 names (text ∷ []) long ∙ old.kernel;
    selectors = λ place t h. elim (slice_get_push names text t place h) [ inl k ↦ old.selectors place t k.1 | inr k ↦ ap is_selector (sym k.1) ∙ good ];
    different = λ a b t h k. both a b t (slice_get_push names text t a h) (slice_get_push names text t b k);
    few = omega (arith, length-append names (text ∷ []));
  }
    where
      both : (a b : ℕ) (t : List ℕ) → ((a < length names) × (slice_get names a ≡ Some t)) ⊎ ((a ≡ length names) × (text ≡ t)) → ((b < length names) × (slice_get names b ≡ Some t)) ⊎ ((b ≡ length names) × (text ≡ t)) → a ≡ b
      both a b t (inl h) (inl k) = old.different a b t h.1 k.1
      both a b t (inl h) (inr k) = absurd (absent names text a out (h.1 ∙ ap Some (sym k.1)))
      both a b t (inr h) (inl k) = absurd (absent names text b out (k.1 ∙ ap Some (sym h.1)))
      both a b t (inr h) (inr k) = h.0 ∙ sym k.0

-- a text that is there is accepted, and stands at its place
pub known_name : (names : List (List ℕ)) (text : List ℕ) (place : ℕ) → AreNames names → place_of names text ≡ Some place → is_name names text ≡ true → (first_of (intern_rules names text) ≡ None) × (slice_get names place ≡ Some text)
known_name names text place old h there =
    let at : slice_get names place ≡ Some text = place_of-at names text place h in
    let good : is_selector text ≡ true = old.selectors place text at in
    (rw (good, there) refl, at)

-- a new one where there is room is accepted, and is the last
module _ (names : List (List ℕ)) (text : List ℕ) (good : is_selector text ≡ true) (out : is_name names text ≡ false) (room : length names < 8192) where
  pub AreNames-interned : AreNames names → AreNames (interned names text)
  AreNames-interned old = rw out (AreNames-push names text old good out room)

  pub new_name : (first_of (intern_rules names text) ≡ None) × (slice_get (interned names text) (length names) ≡ Some text)
  new_name =
      let small : leb 8192 (length names) ≡ false = lt-leb _ _ room in
      (rw (good, out, small) refl, rw out (slice_get_last names text))

-- the text that is read at a place
pub texts-at : (vs : List (Vec ℕ)) (place : ℕ) (v : Vec ℕ) → place < length vs → v ≡ get_or vs place v → slice_get (texts_of vs) place ≡ Some v.items
texts-at vs place v within read = slice_get-map (λ (w : Vec ℕ). w.items) vs place ∙ ap (option_map (λ (w : Vec ℕ). w.items)) (slice_get_read vs (length vs) place v refl within read)

differ : (x y : List ℕ) → bytes_eq x y ≡ false → bytes_eq y x ≡ false
differ x y h = by (bytes_eq y x) refl
  where
    by : (b : Bool) → bytes_eq y x ≡ b → b ≡ false
    by false e = refl
    by true e = absurd (true≢false (sym ((bytes_eq-Decides x y).1 (sym ((bytes_eq-Decides y x).0 e))) ∙ h))

-- the next of some texts that are all different is new
pub absent-before : (names : List (List ℕ)) (place : ℕ) (text : List ℕ) → has_twice names ≡ false → slice_get names place ≡ Some text → is_name (take place names) text ≡ false
absent-before [] place text d h = absurd (let e : None ≡ Some text = h in cc)
absent-before (x ∷ xs) zero text d h = refl
absent-before (x ∷ xs) (suc place) text d h =
    let parts = or-parts (list_any (bytes_eq x) xs) (has_twice xs) d in
    let other : bytes_eq text x ≡ false = differ x text (none-at (bytes_eq x) xs place text parts.0 h) in
    rw other (absent-before xs place text parts.1 h)

interned-new : (names : List (List ℕ)) (place : ℕ) (text : List ℕ) → is_name (take place names) text ≡ false → slice_get names place ≡ Some text → interned (take place names) text ≡ take (place + 1) names
interned-new names place text out h =
    let more : take (place + 1) names ≡ take place names ++ get_or names place text ∷ [] = take_more names place text (slice_get_within names place text h) in
    let here : get_or names place text ≡ text = get_or_from_slice_get names place text text h in
    rw (out, more, here) refl

pub interned-next : (names : List (List ℕ)) (place : ℕ) (text : List ℕ) → has_twice names ≡ false → slice_get names place ≡ Some text → interned (take place names) text ≡ take (place + 1) names
interned-next names place text d h = interned-new names place text (absent-before names place text d h) h

-- and so for texts behind references
pub borrowed-next : (texts : List (Bor (List ℕ))) (place : ℕ) (default : Bor (List ℕ)) (names more : List (List ℕ)) → has_twice (map (λ t. t.now) texts) ≡ false → place < length texts → names ≡ take place (map (λ t. t.now) texts) → more ≡ interned names (get_or texts place default).now → more ≡ take (place + 1) (map (λ t. t.now) texts)
borrowed-next texts place default names more d within so_far e =
    let now : Bor (List ℕ) → List ℕ = λ t. t.now in
    let here : slice_get (map now texts) place ≡ Some (get_or texts place default).now = slice_get-map now texts place ∙ ap (option_map now) (slice_get-get_or texts place default within) in
    e ∙ ap (λ ns. interned ns (get_or texts place default).now) so_far ∙ interned-next (map now texts) place (get_or texts place default).now d here

-- before the place of a name there is none like it, where all are different
fresh-before : (names : List (List ℕ)) (place : ℕ) (text : List ℕ) → ((a b : ℕ) (t : List ℕ) → slice_get names a ≡ Some t → slice_get names b ≡ Some t → a ≡ b) → slice_get names place ≡ Some text → is_name (take place names) text ≡ false
fresh-before [] place text d h = absurd (let e : None ≡ Some text = h in cc)
fresh-before (x ∷ xs) zero text d h = refl
fresh-before (x ∷ xs) (suc place) text d h =
    let rest : is_name (take place xs) text ≡ false = fresh-before xs place text (λ a b t p q. let e : suc a ≡ suc b = d (suc a) (suc b) t p q in omega (arith, e)) h in
    by (bytes_eq text x) refl rest
  where
    by : (b : Bool) → bytes_eq text x ≡ b → is_name (take place xs) text ≡ false → is_name (take (suc place) (x ∷ xs)) text ≡ false
    by false e rest = rw e rest
    by true e rest =
        let same : text ≡ x = (bytes_eq-Decides text x).0 e in
        let first : zero ≡ suc place = d zero (suc place) text (ap Some (sym same)) h in
        absurd (omega (arith, first))

-- and so for a table that is copied
pub copied-next : (vs : List (Vec ℕ)) (place : ℕ) (default : Vec ℕ) (names more : List (List ℕ)) → ((a b : ℕ) (t : List ℕ) → slice_get (texts_of vs) a ≡ Some t → slice_get (texts_of vs) b ≡ Some t → a ≡ b) → place < length vs → names ≡ take place (texts_of vs) → more ≡ interned names (get_or vs place default).items → more ≡ take (place + 1) (texts_of vs)
copied-next vs place default names more d within so_far e =
    let items : Vec ℕ → List ℕ = λ v. v.items in
    let here : slice_get (texts_of vs) place ≡ Some (get_or vs place default).items = slice_get-map items vs place ∙ ap (option_map items) (slice_get-get_or vs place default within) in
    e ∙ ap (λ ns. interned ns (get_or vs place default).items) so_far ∙ interned-new (texts_of vs) place (get_or vs place default).items (fresh-before (texts_of vs) place (get_or vs place default).items d here) here
