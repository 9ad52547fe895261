-- Reading an input to its end.
use Rattle.std.specs.Prelude.{◌≡◌, ◌⊎◌, ℕ, ◌+◌, ◌≤◌, ◌^◌, List, length}
use Rattle.std.specs.Io.KnownBytes.{Consumes, IsAtEnd}
use Rattle.st_classes.specs.declared.refusals.Refusal.{Refusal}
use Rattle.st_classes.specs.declared.refusals.Refusal.TheVariants.{NoMemory, ReadFault}
use Rattle.st_wire.specs.Streams.{InputView, one_more, so_many_more}

-- an input was read and gave these bytes, which are the first ones that it had left, if these are known; there were at most 2^32 reads,
-- and at most one more than the bytes that they gave
pub record Gives (before after : InputView) (taken : List ℕ) : Type 0 where
  pub consumed : Consumes before.remaining after.remaining taken
  pub reads : (n : ℕ) × (n ≤ 2 ^ 32) × (n ≤ length taken + 1) × (after.reads ≡ so_many_more n before.reads)

-- an input was read to its end and gave this text, which is all that it had left, if that is known; no read failed
pub record GivesAll (before after : InputView) (text : List ℕ) : Type 0 where
  pub gives : Gives before after text
  pub whole : IsAtEnd after.remaining
  pub unfailed : after.failures ≡ before.failures

-- a read failed
abbrev pub ReadFails : InputView → InputView → Refusal → Type 0
ReadFails before after e = (e ≡ ReadFault) × (after.failures ≡ one_more before.failures)

-- 2^32 reads gave at least 2^32 bytes and found no end; no read failed
abbrev pub IsEndless : InputView → InputView → List ℕ → Refusal → Type 0
IsEndless before after taken e = (e ≡ ReadFault)
    × (after.failures ≡ before.failures)
    × (after.reads ≡ so_many_more (2 ^ 32) before.reads)
    × (2 ^ 32 ≤ length taken)

-- memory ran out, and no read failed
abbrev pub LacksMemory : InputView → InputView → Refusal → Type 0
LacksMemory before after e = (e ≡ NoMemory) × (after.failures ≡ before.failures)

-- an input was not read to its end, and why
abbrev pub StopsShort : InputView → InputView → Refusal → Type 0
StopsShort before after e = (taken : List ℕ) × Gives before after taken
    × (ReadFails before after e ⊎ IsEndless before after taken e ⊎ LacksMemory before after e)
