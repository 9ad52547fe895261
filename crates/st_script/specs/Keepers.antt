-- The reply to one who wants an image saved.
use Rattle.std.specs.Prelude.{◌≡◌, ◌⊎◌, ℕ, Result, Ok, Err}
use Rattle.st_classes.specs.declared.refusals.Refusal.{Refusal}
use Rattle.st_classes.specs.declared.refusals.Refusal.TheVariants.{BadArguments, NoMemory, WriteFault}
use Rattle.st_file.specs.ImageSnapshots.{ImageSnapshotView}
use Rattle.st_file.specs.Saving.{HasFileOf}
use Rattle.st_wire.specs.declared.replies.Reply.{Reply}
use Rattle.st_wire.specs.declared.replies.Reply.TheVariants as reply

-- why something could not be kept
abbrev pub IsFault : Refusal → Type 0
IsFault e = (e ≡ NoMemory) ⊎ (e ≡ WriteFault)

-- an image is kept as it was at a moment, in a file of so many bytes; or why it is not
abbrev pub Keeps : ImageSnapshotView → Result ℕ Refusal → Type 0
Keeps m (Ok n) = HasFileOf m n
Keeps m (Err e) = (e ≡ BadArguments) ⊎ IsFault e

-- the reply says so
abbrev pub SavesSnapshot : ImageSnapshotView → Reply → Type 0
SavesSnapshot m r = ((n : ℕ) × Keeps m (Ok n) × (r ≡ reply.Saved n))
    ⊎ ((e : Refusal) × Keeps m (Err e) × (r ≡ reply.Refused e))

-- the same, of what was copied; or why it could not be copied
abbrev pub SavesSeen : Result ImageSnapshotView Refusal → Reply → Type 0
SavesSeen (Ok m) r = SavesSnapshot m r
SavesSeen (Err e) r = r ≡ reply.Refused e

-- the reply stays, or says that what was written could not be kept
abbrev pub Replaces : Reply → Reply → Type 0
Replaces before r = (r ≡ before) ⊎ ((e : Refusal) × IsFault e × (r ≡ reply.Refused e))

-- what was copied stays, or its copy counts for nothing
abbrev pub StaysOrFails : Result ImageSnapshotView Refusal → Result ImageSnapshotView Refusal → Type 0
StaysOrFails before r = (r ≡ before) ⊎ ((e : Refusal) × IsFault e × (r ≡ Err e))
