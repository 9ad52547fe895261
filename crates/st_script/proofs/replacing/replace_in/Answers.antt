use Rattle.std.proofs.Common.{◌≡◌, ◌⊎◌, List, ℕ, inr, refl, subst}
use Rattle.st_classes.specs.declared.refusals.Refusal.TheVariants.{NoMemory}
use Rattle.st_image.specs.Installs.{IsUnread}
use Rattle.st_reader.specs.Faults.{IsBadSource}
use Rattle.st_script.proofs.replacing.replace_in.Goals as goal

pub returns-in-Err-clause-replaces : goal.returns-in-Err-clause-replaces
returns-in-Err-clause-replaces g c =
    let e = c.in-Err.refusal in
    let why = subst (λ (s : List ℕ). (e ≡ NoMemory) ⊎ (IsUnread s × IsBadSource e)) c.as_slice.ensures c.in-Err.ensures.err in
    inr (e, why, refl, (refl, refl))
