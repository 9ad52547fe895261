-- The refusal of a source that has no method.
use Rattle.std.specs.Prelude.{ℕ, ◌≤◌}
use Rattle.st_classes.specs.declared.refusals.Refusal.{Refusal}
use Rattle.st_classes.specs.declared.refusals.Refusal.TheVariants.{BadSource, NoMemory}

-- a refusal that says what is wrong with a source
abbrev pub IsBadSource : Refusal → Type 0
IsBadSource (BadSource kind offset) = Unit {0}
IsBadSource _ = ⊥

-- if a refusal says what is wrong with a source of this length, its offset is in the source or at its end
abbrev pub IsWithin : ℕ → Refusal → Type 0
IsWithin length (BadSource kind offset) = offset ≤ length
IsWithin length _ = Unit {0}

-- a refusal that says what is wrong with a source, or that memory ran out
abbrev pub RefusesSource : Refusal → Type 0
RefusesSource (BadSource kind offset) = Unit {0}
RefusesSource NoMemory = Unit {0}
RefusesSource _ = ⊥
