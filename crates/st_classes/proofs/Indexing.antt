-- An index of names.
use Rattle.std.proofs.Common.{arith, ◌≡◌, ◌+◌, refl, ℕ, List, [], ◌∷◌, Option, Some, None, Bool, true, false, cond, map, ap, sym, ◌∙◌, ◌++◌, subst, suc, length, nat_lt, is_some, option_map}
use Prim.Native.Nat.compare
use Rattle.std.proofs.lemmas.Bool.Decides.{nat_tests}
use Rattle.std.proofs.lemmas.Slice.Eq.{bytes_eq-Decides}
use Rattle.std.specs.List.{AllZip, position, position_or_len}
use Rattle.std.specs.Option.{option_or}
use Rattle.std.specs.Map.{lookup, KeepsOthers}
use Rattle.std.specs.HashMap.{HashMap, UpdatesBy}
use Rattle.std.specs.Str.{bytes_eq}
use Rattle.std.specs.declared.vec.Vec.{Vec}
use Rattle.st_classes.specs.declared.values.ClassId.{ClassId}
use Rattle.st_classes.specs.Kernel.{class}
use Rattle.st_classes.specs.Classes.{ClassDef}
use Rattle.st_classes.specs.ClassIndexes.{Naming, by_text, named_in}

pub lookup_by_text : {Z : Type 0} (q : List ℕ) (es : List (Vec ℕ Z × ClassId)) → lookup (bytes_eq q) (map by_text es) ≡ lookup (λ (k : Vec ℕ Z). bytes_eq q k.items) es
lookup_by_text q [] = refl
lookup_by_text q (e ∷ es) = ap (λ (o : Option ClassId). cond (bytes_eq q e.0.items) (Some e.1) o) (lookup_by_text q es)

texts_same : (a b : List ℕ) → bytes_eq a b ≡ true → a ≡ b
texts_same a b h = (bytes_eq-Decides a b).0 h

put_at : {Z S : Type 0} (m n : HashMap (Vec ℕ Z) ClassId S) (key : List ℕ) (w : Option ClassId) → UpdatesBy (λ (x y : Vec ℕ Z). bytes_eq x.items y.items) (λ (k : Vec ℕ Z). bytes_eq key k.items) m n w → (q : List ℕ) (b : Bool) → bytes_eq q key ≡ b → lookup (λ (k : Vec ℕ Z). bytes_eq q k.items) n.entries ≡ cond b w (lookup (λ (k : Vec ℕ Z). bytes_eq q k.items) m.entries)
unfolding KeepsOthers
put_at {Z} m n key w u q true e = rw (texts_same q key e) u.1
put_at {Z} m n key w u q false e = u.3 (λ (k : Vec ℕ Z). bytes_eq q k.items) (λ x y h. ap (λ (t : List ℕ). bytes_eq t y.items) (texts_same q x.items h)) (λ k h. subst (λ (t : List ℕ). bytes_eq q t ≡ false) (texts_same key k.items h) e)

pub named_put : {Z S : Type 0} (m n : HashMap (Vec ℕ Z) ClassId S) (key : List ℕ) (w : Option ClassId) → UpdatesBy (λ (x y : Vec ℕ Z). bytes_eq x.items y.items) (λ (k : Vec ℕ Z). bytes_eq key k.items) m n w → (q : List ℕ) → named_in (map by_text n.entries) q ≡ cond (bytes_eq q key) w (named_in (map by_text m.entries) q)
named_put m n key w u q = lookup_by_text q n.entries ∙ put_at m n key w u q (bytes_eq q key) refl ∙ ap (λ (o : Option ClassId). cond (bytes_eq q key) w o) (sym (lookup_by_text q m.entries))

-- a copy whose keys have the same texts
pub same_texts : {Z : Type 0} (C : Vec ℕ Z → Vec ℕ Z → Type 0) (D : ClassId → ClassId → Type 0) → ((x y : Vec ℕ Z) → C x y → y.items ≡ x.items) → ((x y : ClassId) → D x y → y ≡ x) → (es fs : List (Vec ℕ Z × ClassId)) → AllZip (λ (p q : Vec ℕ Z × ClassId). C p.0 q.0 × D p.1 q.1) es fs → map by_text fs ≡ map by_text es
same_texts C D keys values [] [] h = refl
same_texts C D keys values [] (f ∷ fs) h = absurd h
same_texts C D keys values (e ∷ es) [] h = absurd h
same_texts C D keys values (e ∷ es) (f ∷ fs) h =
    let k : f.0.items ≡ e.0.items = keys e.0 f.0 h.0.0 in
    let v : f.1 ≡ e.1 = values e.1 f.1 h.0.1 in
    let rest : map by_text fs ≡ map by_text es = same_texts C D keys values es fs h.1 in
    cc

-- ---- the first place of a list with one more

one_more : (n : ℕ) → 1 + n ≡ suc n
one_more n = omega arith

lt_suc : (m n : ℕ) → nat_lt (suc m) (suc n) ≡ nat_lt m n
lt_suc m n = rw (compare.suc-suc (suc m) n)

zero_lt : (n : ℕ) → nat_lt 0 (suc n) ≡ true
zero_lt n = grind (arith, nat_tests)

pub position_cons : {X : Type 0} (p : X → Bool) (x : X) (xs : List X) (b : Bool) → p x ≡ b → position p (x ∷ xs) ≡ cond b (Some 0) (option_map suc (position p xs))
position_cons p x xs true e = rw e (ap (λ (b : Bool). cond b (Some 0) None) (zero_lt (length xs)))
position_cons p x xs false e = rw (e, one_more (position_or_len p xs)) (ap (λ (b : Bool). cond b (Some (suc (position_or_len p xs))) None) (lt_suc (position_or_len p xs) (length xs)) ∙ by_test (nat_lt (position_or_len p xs) (length xs)) (position_or_len p xs))
  where
    by_test : (b : Bool) (n : ℕ) → cond b (Some (suc n)) None ≡ option_map suc (cond b (Some n) None)
    by_test true n = refl
    by_test false n = refl

pub position_push : {X : Type 0} (p : X → Bool) (xs : List X) (y : X) → position p (xs ++ y ∷ []) ≡ option_or (position p xs) (cond (p y) (Some (length xs)) None)
position_push p [] y = position_cons p y [] (p y) refl
position_push p (x ∷ xs) y = position_cons p x (xs ++ y ∷ []) (p x) refl ∙ ap (λ (o : Option ℕ). cond (p x) (Some 0) (option_map suc o)) (position_push p xs y) ∙ by_test (p x) (p y) (position p xs) (length xs) ∙ ap (λ (o : Option ℕ). option_or o (cond (p y) (Some (suc (length xs))) None)) (sym (position_cons p x xs (p x) refl))
  where
    by_test : (b d : Bool) (o : Option ℕ) (n : ℕ) → cond b (Some 0) (option_map suc (option_or o (cond d (Some n) None))) ≡ option_or (cond b (Some 0) (option_map suc o)) (cond d (Some (suc n)) None)
    by_test true d o n = refl
    by_test false true None n = refl
    by_test false false None n = refl
    by_test false d (Some m) n = refl

-- the class of a name among classes
abbrev pub class_in : List ClassDef → List ℕ → Option ClassId
class_in cs q = option_map class (position (λ (d : ClassDef). bytes_eq q d.name) cs)

named_by_test : (b : Bool) (o : Option ℕ) (n : ℕ) → (b ≡ true → o ≡ None) → cond b (Some (class n)) (option_map class o) ≡ option_map class (option_or o (cond b (Some n) None))
named_by_test true o n h = rw (h refl)
named_by_test false None n h = refl
named_by_test false (Some m) n h = refl

none_from_map : (o : Option ℕ) → is_some (option_map class o) ≡ false → o ≡ None
none_from_map None h = refl
none_from_map (Some n) h = cc

-- the index with a new class's name
pub naming_push : (cs : List ClassDef) (d : ClassDef) (old new : Naming) → ((q : List ℕ) → named_in old q ≡ class_in cs q) → is_some (class_in cs d.name) ≡ false → ((q : List ℕ) → named_in new q ≡ cond (bytes_eq q d.name) (Some (class (length cs))) (named_in old q)) → (q : List ℕ) → named_in new q ≡ class_in (cs ++ d ∷ []) q
naming_push cs d old new h fresh put q =
    put q
    ∙ ap (λ (o : Option ClassId). cond (bytes_eq q d.name) (Some (class (length cs))) o) (h q)
    ∙ named_by_test (bytes_eq q d.name) (position (λ (x : ClassDef). bytes_eq q x.name) cs) (length cs) (λ e. none_from_map _ (subst (λ (t : List ℕ). is_some (class_in cs t) ≡ false) (sym (texts_same q d.name e)) fresh))
    ∙ ap (option_map class) (sym (position_push (λ (x : ClassDef). bytes_eq q x.name) cs d))
