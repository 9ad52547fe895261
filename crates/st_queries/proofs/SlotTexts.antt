-- The names of instance variables are UTF-8.
use Rattle.std.proofs.Common.{◌≡◌, ℕ, zero, suc, List, [], ◌∷◌, reverse, Option, Some, None, slice_get, All, refl}
use Rattle.std.specs.List.{flat_map}
use Rattle.std.proofs.lemmas.List.Elements.{All-append, All-cons, All-from_recursion, All-head, All-nil, All-push, All-tail}
use Rattle.st_classes.specs.declared.values.ClassId.{ClassId}
use Rattle.st_classes.specs.declared.edits.Edit.{Edit}
use Rattle.st_classes.specs.declared.edits.Edit.TheVariants.{Define, Install, Remove, Reparent}
use Rattle.st_classes.specs.Classes.{ClassDef, chain, classes, classes_after, classes_from, kernel_classes, own_slots, reparented, slots}
use Rattle.st_classes.specs.EditLists.{AreLawful}
use Rattle.st_file.specs.Tellable.{IsText}
use Rattle.st_file.proofs.TableTexts.{all_there, define_is_text}

abbrev HasTexts : ClassDef → Type 0
HasTexts d = All IsText d.slots

-- the instance variables that an edit adds
abbrev AddsTexts : Edit → Type 0
AddsTexts (Define name parent added) = All IsText added
AddsTexts (Install c m) = Unit {0}
AddsTexts (Remove c s) = Unit {0}
AddsTexts (Reparent c p) = Unit {0}

adds : (edits : List Edit) → AreLawful edits → (place : ℕ) (e : Edit) → slice_get edits place ≡ Some e → AddsTexts e
adds edits lawful place (Define name parent added) at = (define_is_text edits lawful place name parent added at).2
adds edits lawful place (Install c m) at = tt
adds edits lawful place (Remove c s) at = tt
adds edits lawful place (Reparent c p) at = tt

moved : (cs : List ClassDef) (n : ℕ) (p : ClassId) → All HasTexts cs → All HasTexts (reparented cs n p)
moved [] n p h = h
moved (d ∷ cs) zero p h = All-cons HasTexts _ cs (All-head HasTexts d cs h) (All-tail HasTexts d cs h)
moved (d ∷ cs) (suc n) p h = All-cons HasTexts d _ (All-head HasTexts d cs h) (moved cs n p (All-tail HasTexts d cs h))

after : (cs : List ClassDef) (e : Edit) → All HasTexts cs → AddsTexts e → All HasTexts (classes_after cs e)
after cs (Define name parent added) h a = All-push HasTexts cs _ h a
after cs (Install c m) h a = h
after cs (Remove c s) h a = h
after cs (Reparent c p) h a = moved cs c.0 p h

from : (cs : List ClassDef) (es : List Edit) → All HasTexts cs → All AddsTexts es → All HasTexts (classes_from cs es)
from cs [] h a = h
from cs (e ∷ es) h a = from (classes_after cs e) es (after cs e h (All-head AddsTexts e es a)) (All-tail AddsTexts e es a)

of_kernel : All HasTexts kernel_classes
of_kernel =
    let none = All-nil IsText in
    All-from_recursion HasTexts kernel_classes (none, (none, (none, (none, (none, (none, (none, (none, tt))))))))

there : (cs : List ClassDef) (n : ℕ) (d : ClassDef) → slice_get cs n ≡ Some d → All HasTexts cs → HasTexts d
there [] n d e h = cc
there (c ∷ cs) zero d e h = let same : c ≡ d = cc in rw (← same) (All-head HasTexts c cs h)
there (c ∷ cs) (suc n) d e h = there cs n d e (All-tail HasTexts c cs h)

own : (cs : List ClassDef) (c : ClassId) → All HasTexts cs → All IsText (own_slots cs c)
own cs c h = by (slice_get cs c.0) refl
  where
    by : (o : Option ClassDef) → slice_get cs c.0 ≡ o → All IsText (own_slots cs c)
    by None e = rw e (All-nil IsText)
    by (Some d) e = rw e (there cs c.0 d e h)

joined : (cs : List ClassDef) (chain : List ClassId) → All HasTexts cs → All IsText (flat_map (own_slots cs) chain)
joined cs [] h = All-nil IsText
joined cs (c ∷ chain) h = All-append IsText (own_slots cs c) _ (own cs c h) (joined cs chain h)

pub slots_are_text : (edits : List Edit) (c : ClassId) → AreLawful edits → All IsText (slots edits c)
slots_are_text edits c lawful =
    joined (classes edits) (reverse (chain edits c)) (from kernel_classes edits of_kernel (all_there AddsTexts edits (adds edits lawful)))
