-- What is copied in a hold, and commands that are answered in their holds.
use Rattle.std.proofs.Common.{◌≡◌, ◌∙◌, Result, refl, inl, inr, subst, sym}
use Rattle.st_classes.specs.declared.refusals.Refusal.{Refusal}
use Rattle.st_image.specs.Images.{ImageView}
use Rattle.st_calls.specs.Growth.{Amounts}
use Rattle.st_pool.specs.Done.{Done, PoolView}
use Rattle.st_file.specs.ImageSnapshots.{ImageSnapshotView}
use Rattle.st_wire.specs.declared.commands.Command.{Command}
use Rattle.st_wire.specs.declared.commands.Command.TheVariants as command
use Rattle.st_wire.specs.declared.replies.Reply.{Reply}
use Rattle.st_script.specs.Keepers.{StaysOrFails}
use Rattle.st_server.specs.PoolReplies.{AsksFound, AsksInHold, Attends, CopiesInHold, ServesInHold}

-- what was copied in a hold counts, or counts for nothing
pub settled_copy : (o p : PoolView) (d e : Done) (before r : Result ImageSnapshotView Refusal) → CopiesInHold o d before p e → StaysOrFails before r → CopiesInHold o d r p e
settled_copy o p d e before r copies (inl same) = subst (λ (x : Result ImageSnapshotView Refusal). CopiesInHold o d x p e) (sym same) copies
settled_copy o p d e before r copies (inr fault) =
    subst (λ (x : Result ImageSnapshotView Refusal). CopiesInHold o d x p e) (sym fault.2) (tt, fault.1, copies.2, copies.3)

-- a command that saves nothing is answered in its hold
serves_hold : (o p : PoolView) (d e : Done) (c : Command) (r : Reply) → (c ≡ command.Save → ⊥) → AsksInHold o d c r p e → ServesInHold o d c r p e
serves_hold o p d e command.Save r not asks = absurd (not refl)
serves_hold o p d e c r not asks = asks

pub asks_attends : (start : Amounts) (first : ImageView) (d e : Done) (asked c : Command) (r : Reply) → c ≡ asked → (c ≡ command.Save → ⊥) → AsksFound start first d asked r e → Attends start first d c r e
asks_attends start first d e asked c r same not found = rw same (found.0, found.1, found.2, serves_hold found.0 found.1 d e asked r (λ is. not (same ∙ is)) found.3)
