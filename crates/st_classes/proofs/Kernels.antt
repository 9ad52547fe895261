-- The table of no edits.
use Rattle.std.proofs.Common.{arith, refl, ◌≡◌, ℕ, ◌+◌, Bor, false, cond, map, take, get_or, ◌<◌, zero, suc, List, [], ◌∷◌, ◌++◌, Option, Some, None, ap, sym, ◌∙◌, subst, length, slice_get, option_map, option_and_then, is_some}
use Rattle.std.specs.List.{AllZip, position}
use Rattle.std.specs.Str.{bytes_eq}
use Rattle.std.proofs.lemmas.List.{length-take-le, take_more, take-map}
use Rattle.std.proofs.lemmas.Option.{slice_get-get_or, slice_get-map, slice_get_within, get_or_from_slice_get}
use Rattle.st_classes.specs.declared.values.ClassId.{ClassId}
use Rattle.st_classes.specs.declared.kernel.Found.TheVariants.{User, Kernel as FoundKernel}
use Rattle.st_classes.specs.declared.kernel.Kernel.{Kernel}
use Rattle.st_classes.specs.declared.values.MethodId.{MethodId}
use Rattle.st_classes.specs.Walks.{or_else}
use Rattle.st_classes.specs.declared.class_rows.ClassRow.{ClassRow}
use Rattle.st_classes.specs.Kernel.{class, kernel_method}
use Rattle.st_classes.specs.Classes.{ClassDef, kernel_classes, slots, parent_in}
use Rattle.st_classes.specs.ClassRows.{IsRow, IsPlain, plain_class, row_method}
use Rattle.st_classes.specs.EditLists.{AllSound}
use Rattle.st_classes.specs.Tables.{IsKept, ArePlain, AreRows}
use Rattle.st_classes.specs.ClassIndexes.{Naming, named_in}
use Rattle.st_classes.specs.EditRules.{has_twice}
use Rattle.st_classes.specs.Names.{is_name}
use Rattle.st_classes.proofs.Defining.{kernel_none}
use Rattle.st_classes.proofs.Indexing.{class_in, naming_push, position_cons}
use Rattle.st_classes.proofs.Naming.{absent-before, or-parts}

pub kernel_kept : IsKept []
kernel_kept = record {
  lawful = λ place e h. cc;
  beyond = λ c s h. ap (option_map FoundKernel) (kernel_none c s h);
  few = omega arith;
  few_classes = omega arith;
}

pub kernel_sound : AllSound []
kernel_sound = λ place c m at. cc

own_plain : (m : Option MethodId) (k : Option Kernel) → m ≡ None → option_map FoundKernel k ≡ or_else (option_map User m) (option_map FoundKernel k)
own_plain m k e = rw e

slots_plain : (n : ℕ) → slots [] (class n) ≡ []
slots_plain zero = refl
slots_plain (suc zero) = refl
slots_plain (suc (suc zero)) = refl
slots_plain (suc (suc (suc zero))) = refl
slots_plain (suc (suc (suc (suc zero)))) = refl
slots_plain (suc (suc (suc (suc (suc zero))))) = refl
slots_plain (suc (suc (suc (suc (suc (suc zero)))))) = refl
slots_plain (suc (suc (suc (suc (suc (suc (suc zero))))))) = refl
slots_plain (suc (suc (suc (suc (suc (suc (suc (suc n)))))))) = refl

plain_row : (n : ℕ) (d : ClassDef) (row : ClassRow) → slice_get kernel_classes n ≡ Some d → IsPlain row d → IsRow [] (class n) row
plain_row n d row e p =
    let above : parent_in kernel_classes (class n) ≡ d.parent = ap (option_and_then (λ (x : ClassDef). x.parent)) e in
    record {
      named = ap (option_map (λ (x : ClassDef). x.name)) e ∙ ap (λ (x : List ℕ). Some x) (sym p.name);
      above = above ∙ sym p.superclass;
      variables = slots_plain n ∙ sym p.variables;
      decides = λ s. own_plain (row_method row s) (kernel_method (class n) s) (p.methods s);
    }

zip_at : (rows : List ClassRow) (ds : List ClassDef) → AllZip IsPlain rows ds → (n : ℕ) (row : ClassRow) → slice_get rows n ≡ Some row → (d : ClassDef) × (slice_get ds n ≡ Some d) × IsPlain row d
zip_at [] ds h n row e = cc
zip_at (r ∷ rows) [] h n row e = absurd h
zip_at (r ∷ rows) (d ∷ ds) h zero row e = let same : r ≡ row = cc in (d, refl, subst (λ (x : ClassRow). IsPlain x d) same h.0)
zip_at (r ∷ rows) (d ∷ ds) h (suc n) row e = zip_at rows ds h.1 n row e

zip_long : (rows : List ClassRow) (ds : List ClassDef) → AllZip IsPlain rows ds → length rows ≡ length ds
zip_long [] [] h = refl
zip_long [] (d ∷ ds) h = absurd h
zip_long (r ∷ rows) [] h = absurd h
zip_long (r ∷ rows) (d ∷ ds) h = ap suc (zip_long rows ds h.1)

pub zip_push : (rows : List ClassRow) (ds : List ClassDef) (row : ClassRow) (d : ClassDef) → AllZip IsPlain rows ds → IsPlain row d → AllZip IsPlain (rows ++ row ∷ []) (ds ++ d ∷ [])
zip_push [] [] row d h p = (p, tt)
zip_push [] (e ∷ ds) row d h p = absurd h
zip_push (r ∷ rows) [] row d h p = absurd h
zip_push (r ∷ rows) (e ∷ ds) row d h p = (h.0, zip_push rows ds row d h.1 p)

pub kernel_shown : (rows : List ClassRow) → AllZip IsPlain rows kernel_classes → AreRows [] rows
kernel_shown rows h = record {
  long = zip_long rows kernel_classes h;
  each = λ n row e. let w = zip_at rows kernel_classes h n row e in plain_row n w.0 row w.1 w.2;
}

-- ---- the tables of classes without methods

abbrev names_of : List ClassDef → List (List ℕ)
names_of cs = map (λ (d : ClassDef). d.name) cs

none_named : (q : List ℕ) (cs : List ClassDef) → is_name (names_of cs) q ≡ false → position (λ (d : ClassDef). bytes_eq q d.name) cs ≡ None
none_named q [] h = refl
none_named q (c ∷ cs) h =
    let parts = or-parts (bytes_eq q c.name) (is_name (names_of cs) q) h in
    position_cons (λ (d : ClassDef). bytes_eq q d.name) c cs false parts.0 ∙ ap (λ (o : Option ℕ). cond false (Some 0) (option_map suc o)) (none_named q cs parts.1)

-- a class of another name than those before it
fresh : (cs : List ClassDef) (place : ℕ) (d : ClassDef) → has_twice (names_of cs) ≡ false → slice_get cs place ≡ Some d → is_some (class_in (take place cs) d.name) ≡ false
fresh cs place d different at =
    let text : slice_get (names_of cs) place ≡ Some d.name = slice_get-map (λ (x : ClassDef). x.name) cs place ∙ ap (option_map (λ (x : ClassDef). x.name)) at in
    let absent : is_name (names_of (take place cs)) d.name ≡ false = rw (take-map (λ (x : ClassDef). x.name) place cs) at (absent-before (names_of cs) place d.name different text) in
    rw (none_named d.name (take place cs) absent) refl

pub plain_next : (cs : List ClassDef) (place : ℕ) (d : ClassDef) (rows more : List ClassRow) (old new : Naming) → has_twice (names_of cs) ≡ false → slice_get cs place ≡ Some d → ArePlain (take place cs) rows old → ((ds : List ClassDef) → AllZip IsPlain rows ds → AllZip IsPlain more (ds ++ d ∷ [])) → ((q : List ℕ) → named_in new q ≡ cond (bytes_eq q d.name) (Some (class (length rows))) (named_in old q)) → ArePlain (take (place + 1) cs) more new
plain_next cs place d rows more old new different at h push put =
    let longer : take (place + 1) cs ≡ take place cs ++ get_or cs place d ∷ [] = take_more cs place d (slice_get_within cs place d at) in
    let here : get_or cs place d ≡ d = get_or_from_slice_get cs place d d at in
    let there : (q : List ℕ) → named_in new q ≡ cond (bytes_eq q d.name) (Some (class (length (take place cs)))) (named_in old q) = rw (← zip_long rows (take place cs) h.shown) put in
    rw (longer, here) (record {
      shown = push (take place cs) h.shown;
      named = naming_push (take place cs) d old new h.named (fresh cs place d different at) there;
    })

-- the tables of some of the classes are no longer than all of them
pub plain_few : (cs : List ClassDef) (place : ℕ) (rows : List ClassRow) (naming : Naming) → place < length cs → ArePlain (take place cs) rows naming → length rows < length cs
plain_few cs place rows naming within h = omega (arith, within, zip_long rows (take place cs) h.shown, length-take-le place cs (omega (arith, within)))

-- a class as the code has it
abbrev pub Given : Type 0
Given = Bor (List ℕ) × Option ClassId

abbrev pub def_of : Given → ClassDef
def_of c = plain_class c.0.now c.1

names_given : (cs : List Given) → names_of (map def_of cs) ≡ map (λ (c : Given). c.0.now) cs
names_given [] = refl
names_given (c ∷ cs) = ap (λ (ns : List (List ℕ)). c.0.now ∷ ns) (names_given cs)

pub given_next : (cs : List Given) (place : ℕ) (default : Given) (rows more : List ClassRow) (old new : Naming) (n : ℕ) → has_twice (map (λ (c : Given). c.0.now) cs) ≡ false → place < length cs → ArePlain (take place (map def_of cs)) rows old → n ≡ length rows → ((ds : List ClassDef) → AllZip IsPlain rows ds → AllZip IsPlain more (ds ++ def_of (get_or cs place default) ∷ [])) → ((q : List ℕ) → named_in new q ≡ cond (bytes_eq q (get_or cs place default).0.now) (Some (class n)) (named_in old q)) → ArePlain (take (place + 1) (map def_of cs)) more new
given_next cs place default rows more old new n different within h count push put =
    let d : ClassDef = def_of (get_or cs place default) in
    let at : slice_get (map def_of cs) place ≡ Some d = slice_get-map def_of cs place ∙ ap (option_map def_of) (slice_get-get_or cs place default within) in
    let there : (q : List ℕ) → named_in new q ≡ cond (bytes_eq q d.name) (Some (class (length rows))) (named_in old q) = rw (← count) put in
    plain_next (map def_of cs) place d rows more old new (ap has_twice (names_given cs) ∙ different) at h push there
