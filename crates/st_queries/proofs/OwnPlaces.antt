-- A class's own method was installed by one of the edits.
use Rattle.std.proofs.Common.{◌≡◌, ℕ, suc, ◌+◌, ◌<◌, Bool, true, false, List, [], ◌∷◌, length, Option, Some, None, refl, sym, subst, arith, option_map}
use Rattle.st_classes.specs.declared.values.ClassId.{ClassId}
use Rattle.st_classes.specs.declared.values.Selector.{Selector}
use Rattle.st_classes.specs.declared.edits.Edit.{Edit}
use Rattle.st_classes.specs.declared.edits.Edit.TheVariants.{Define, Install, Remove, Reparent}
use Rattle.st_classes.specs.declared.kernel.Found.{Found}
use Rattle.st_classes.specs.declared.kernel.Found.TheVariants.{User, Kernel as FoundKernel}
use Rattle.st_classes.specs.declared.kernel.Kernel.{Kernel}
use Rattle.st_classes.specs.Kernel.{kernel_method}
use Rattle.st_classes.specs.Walks.{decided, is_at, own, own_from}
use Rattle.st_queries.specs.OwnMethods.{IfUser}

abbrev IsBelow : ℕ → Option Found → Type 0
IsBelow place found = IfUser found (λ m. m.0 < place)

below_next : (place : ℕ) (found : Option Found) → IsBelow place found → IsBelow (place + 1) found
below_next place None h = tt
below_next place (Some (User m)) h = omega (arith, h)
below_next place (Some (FoundKernel k)) h = tt

decided_below : (e : Edit) (place : ℕ) (found : Option Found) (c : ClassId) (s : Selector) → IsBelow place found → IsBelow (place + 1) (decided e place found c s)
decided_below (Define name parent slots) place found c s h = below_next place found h
decided_below (Install d m) place found c s h = by (is_at d m.selector c s) refl
  where
    by : (b : Bool) → is_at d m.selector c s ≡ b → IsBelow (place + 1) (decided (Install d m) place found c s)
    by true e = rw e (omega arith)
    by false e = rw e (below_next place found h)
decided_below (Remove d t) place found c s h = by (is_at d t c s) refl
  where
    by : (b : Bool) → is_at d t c s ≡ b → IsBelow (place + 1) (decided (Remove d t) place found c s)
    by true e = rw e tt
    by false e = rw e (below_next place found h)
decided_below (Reparent d p) place found c s h = below_next place found h

from_within : (es : List Edit) (place : ℕ) (found : Option Found) (c : ClassId) (s : Selector) → IsBelow place found → IsBelow (place + length es) (own_from place found es c s)
from_within [] place found c s h = let none : place + 0 ≡ place = omega arith in subst (λ n. IsBelow n found) (sym none) h
from_within (e ∷ es) place found c s h =
    let more : place + 1 + length es ≡ place + suc (length es) = omega arith in
    subst (λ n. IsBelow n (own_from place found (e ∷ es) c s)) more (from_within es (place + 1) (decided e place found c s) c s (decided_below e place found c s h))

kernel_below : (o : Option Kernel) → IsBelow 0 (option_map FoundKernel o)
kernel_below None = tt
kernel_below (Some k) = tt

pub own_within : (edits : List Edit) (c : ClassId) (s : Selector) → IfUser (own edits c s) (λ m. m.0 < length edits)
own_within edits c s =
    let all : 0 + length edits ≡ length edits = omega arith in
    subst (λ n. IfUser (own edits c s) (λ m. m.0 < n)) all (from_within edits 0 (option_map FoundKernel (kernel_method c s)) c s (kernel_below (kernel_method c s)))
