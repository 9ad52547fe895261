-- What tells names and items.
use Rattle.std.proofs.Common.{◌≡◌, ℕ, List, [], ◌∷◌, ◌++◌, take, drop, map, refl, sym, ap, ◌∙◌, append-nil}
use Rattle.std.proofs.lemmas.List.{take-append-drop}
use Rattle.st_classes.specs.declared.edits.Edit.TheVariants.{Define, Install, Remove, Reparent}
use Rattle.st_image.specs.declared.history.Item.{Item}
use Rattle.st_image.specs.declared.history.Item.TheVariants.{Edited, Created, Posted, Closed, Begun, Ran}
use Rattle.st_journal.specs.declared.entries.Entry.{Entry}
use Rattle.st_journal.specs.declared.entries.Entry.TheVariants as entry
use Rattle.st_journal.specs.Entries.{told}
use Rattle.st_journal.specs.Marks.{Mark, did, emptied}
use Rattle.st_journal.specs.Recovery.{TellingTells, but_names, names_in, told_mark}

-- an item is told by no name
no_name : (x : Item) (es : List Entry) → (names_in (told x ∷ es) ≡ names_in es) × (but_names (told x ∷ es) ≡ told x ∷ but_names es)
no_name (Edited (Define name parent slots)) es = (refl, refl)
no_name (Edited (Install c m)) es = (refl, refl)
no_name (Edited (Remove c s)) es = (refl, refl)
no_name (Edited (Reparent c p)) es = (refl, refl)
no_name (Created c) es = (refl, refl)
no_name (Posted a m) es = (refl, refl)
no_name (Closed a) es = (refl, refl)
no_name (Begun a) es = (refl, refl)
no_name (Ran a n) es = (refl, refl)

-- items and checkpoints are told by no name, each by one entry
pub marks_unnamed : (ms : List Mark) → names_in (map told_mark ms) ≡ []
marks_unnamed [] = refl
marks_unnamed (did x ∷ ms) = (no_name x (map told_mark ms)).0 ∙ marks_unnamed ms
marks_unnamed (emptied ∷ ms) = marks_unnamed ms

pub marks_others : (ms : List Mark) → but_names (map told_mark ms) ≡ map told_mark ms
marks_others [] = refl
marks_others (did x ∷ ms) = (no_name x (map told_mark ms)).1 ∙ ap (λ (es : List Entry). told x ∷ es) (marks_others ms)
marks_others (emptied ∷ ms) = ap (λ (es : List Entry). entry.Checkpoint ∷ es) (marks_others ms)

pub told_items : (h : List Item) → map told_mark (map did h) ≡ map told h
told_items [] = refl
told_items (x ∷ h) = ap (λ (es : List Entry). told x ∷ es) (told_items h)

items_named : (h : List Item) → names_in (map told h) ≡ []
items_named h = ap names_in (sym (told_items h)) ∙ marks_unnamed (map did h)

items_marked : (h : List Item) → but_names (map told h) ≡ map told_mark (map did h)
items_marked h = ap but_names (sym (told_items h)) ∙ marks_others (map did h)

pub names_first : (ns : List (List ℕ)) (es : List Entry) → names_in (map entry.Name ns ++ es) ≡ ns ++ names_in es
names_first [] es = refl
names_first (n ∷ ns) es = ap (λ (ts : List (List ℕ)). n ∷ ts) (names_first ns es)

pub marks_behind : (ns : List (List ℕ)) (es : List Entry) → but_names (map entry.Name ns ++ es) ≡ but_names es
marks_behind [] es = refl
marks_behind (n ∷ ns) es = marks_behind ns es

pub telling_tells : TellingTells
telling_tells names known h =
    let ns : List (List ℕ) = drop known names in
    record {
      named = sym (take-append-drop known names)
          ∙ ap (λ (ts : List (List ℕ)). take known names ++ ts) (sym (names_first ns (map told h) ∙ ap (λ (ts : List (List ℕ)). ns ++ ts) (items_named h) ∙ append-nil ns));
      marks = marks_behind ns (map told h) ∙ items_marked h;
    }
