-- A fault that is looked for by its name.
use Rattle.std.proofs.Common.{◌≡◌, ℕ, ◌+◌, ◌<◌, false, List, length, get_or, drop, refl, drop-cons, add-one}
use Rattle.std.specs.Str.{bytes_eq}
use Rattle.st_classes.specs.declared.faults.Fault.{Fault}
use Rattle.st_wire.specs.Names.{fault_name}
use Rattle.st_file.specs.Shapes.{fault_among}

-- one that has another name
pub fault_among-later : (fs : List Fault) (i : ℕ) (f : Fault) (name : List ℕ) → i < length fs → bytes_eq name (fault_name (get_or fs i f)) ≡ false
    → fault_among (drop i fs) name ≡ fault_among (drop (i + 1) fs) name
fault_among-later fs i f name h e = rw (add-one, drop-cons fs i f, e) refl
