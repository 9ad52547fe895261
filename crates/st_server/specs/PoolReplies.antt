-- The reply to a command of a session over a pool.
use Rattle.std.specs.Prelude.{◌≡◌, IfErr, IfOk, Result}
use Rattle.std.specs.declared.alloc.AllocError.{AllocError}
use Rattle.st_classes.specs.declared.refusals.Refusal.{Refusal}
use Rattle.st_image.specs.Images.{ImageView}
use Rattle.st_calls.specs.Growth.{Amounts}
use Rattle.st_pool.specs.Calling.{PoolCalls}
use Rattle.st_pool.specs.Done.{Done, Finds, PoolView}
use Rattle.st_pool.specs.Holds.{IsHold, of_caller}
use Rattle.st_queries.specs.declared.hosts.Host.{Host}
use Rattle.st_wire.specs.declared.commands.Command.{Command}
use Rattle.st_queries.specs.Snapshots.{Snapshot, snapshot}
use Rattle.st_wire.specs.declared.queries.Query.{Query}
use Rattle.st_wire.specs.declared.replies.Reply.{Reply}
use Rattle.st_wire.specs.declared.commands.Command.TheVariants as command
use Rattle.st_file.specs.ImageSnapshots.{ImageSnapshotView, snapshot_of}
use Rattle.st_script.specs.CommandReplies.{Asks}
use Rattle.st_script.specs.Keepers.{IsFault, SavesSnapshot}

-- the reply is that of the command, in one hold, in which calls are made alone; the calls of the command are made of what lies under the lock
pub record AsksInHold (o : PoolView) (d : Done) (c : Command) (r : Reply) (p : PoolView) (e : Done) : Type 0 where
  pub host : Host
  pub asks : Asks (λ x. x.image) PoolCalls host o d c r p e
  pub hold : IsHold of_caller o p

-- what was seen for a query, in a hold that changes nothing
abbrev pub SeesInHold : PoolView → Done → Query → Result Snapshot AllocError → PoolView → Done → Type 0
SeesInHold o d q r p e = IfOk r (λ s. s ≡ snapshot o.image q) × (p ≡ o) × (e ≡ d)

-- what was copied of an image to save it, in a hold that changes nothing
abbrev pub CopiesInHold : PoolView → Done → Result ImageSnapshotView Refusal → PoolView → Done → Type 0
CopiesInHold o d r p e = IfOk r (λ m. m ≡ snapshot_of o.image) × IfErr r IsFault × (p ≡ o) × (e ≡ d)

-- the same, in a hold of a session
abbrev pub CopiesFound : Amounts → ImageView → Done → Result ImageSnapshotView Refusal → Done → Type 0
CopiesFound start first d r e = (o : PoolView) × (p : PoolView) × Finds start first d o × CopiesInHold o d r p e

-- the hold in which a command is asked finds an image that goes on from the first one and has at least what the session has done
abbrev pub AsksFound : Amounts → ImageView → Done → Command → Reply → Done → Type 0
AsksFound start first d c r e = (o : PoolView) × (p : PoolView) × Finds start first d o × AsksInHold o d c r p e

-- an image is saved as it was in a hold that changes nothing
abbrev pub SavesInHold : PoolView → Done → Reply → PoolView → Done → Type 0
SavesInHold o d r p e = SavesSnapshot (snapshot_of o.image) r × (p ≡ o) × (e ≡ d)

-- what a command does in a hold: `save` copies what is saved behind it, and any other is asked
abbrev pub ServesInHold : PoolView → Done → Command → Reply → PoolView → Done → Type 0
ServesInHold o d command.Save r p e = SavesInHold o d r p e
ServesInHold o d c r p e = AsksInHold o d c r p e

-- the same of any command of a session
abbrev pub Attends : Amounts → ImageView → Done → Command → Reply → Done → Type 0
Attends start first d c r e = (o : PoolView) × (p : PoolView) × Finds start first d o × ServesInHold o d c r p e
