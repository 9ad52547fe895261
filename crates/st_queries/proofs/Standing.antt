-- The class of an install is a class of the whole table.
use Rattle.std.proofs.Common.{◌≡◌, ℕ, zero, suc, true, List, [], ◌∷◌, ◌++◌, Some, slice_get, take, drop, refl, ap, subst}
use Rattle.st_classes.specs.declared.values.ClassId.{ClassId}
use Rattle.st_classes.specs.declared.methods.MethodParts.{MethodParts}
use Rattle.st_classes.specs.declared.edits.Edit.{Edit}
use Rattle.st_classes.specs.declared.edits.Edit.TheVariants.{Install}
use Rattle.st_classes.specs.Classes.{is_class}
use Rattle.st_classes.specs.EditLists.{AreLawful}
use Rattle.st_classes.proofs.Accepted.{install_class}
use Rattle.st_classes.proofs.LawGrowing.{class_stays}

parts : {X : Type 0} (n : ℕ) (xs : List X) → take n xs ++ drop n xs ≡ xs
parts zero xs = refl
parts (suc n) [] = refl
parts (suc n) (x ∷ xs) = ap (λ ys. x ∷ ys) (parts n xs)

pub install_is_class : (edits : List Edit) (place : ℕ) (c : ClassId) (m : MethodParts) → AreLawful edits → slice_get edits place ≡ Some (Install c m) → is_class edits c ≡ true
install_is_class edits place c m lawful at =
    subst (λ es. is_class es c ≡ true) (parts place edits) (class_stays (take place edits) (drop place edits) c (install_class (take place edits) c m.selector (lawful place (Install c m) at)))
