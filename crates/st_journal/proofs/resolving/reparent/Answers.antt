use Rattle.std.proofs.Common.{◌≡◌, ◌⊎◌, Option, None, Some, inl, inr}
use Rattle.st_classes.specs.declared.refusals.ImagePlace.TheVariants.{Actors}
use Rattle.st_classes.specs.declared.refusals.Refusal.{Refusal}
use Rattle.st_classes.specs.declared.refusals.Refusal.TheVariants.{BadImage, NoMemory}
use Rattle.st_classes.specs.declared.values.ClassId.{ClassId}
use Rattle.st_journal.specs.EntryMeanings.{reparent_with}
use Rattle.st_journal.proofs.resolving.reparent.Goals as goal

no_parent : (o p : Option ClassId) (r : Refusal) (moved : ClassId) → o ≡ Some moved → (r ≡ NoMemory) ⊎ ((r ≡ BadImage Actors) × (p ≡ None)) → (r ≡ NoMemory) ⊎ ((r ≡ BadImage Actors) × (reparent_with o p ≡ None))
no_parent o p r moved there (inl none) = inl none
no_parent o p r moved there (inr both) = inr (both.0, rw (there, both.1))

pub returns-in-Err : goal.returns-in-Err
returns-in-Err c = no_parent _ _ c.in-Err.refusal c.in_ok-moved.moved (rw c.as_slice.ensures at c.in_ok-moved.ensures) (rw c.as_slice-2.ensures at c.in-Err.ensures)
