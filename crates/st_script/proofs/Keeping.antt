-- What was copied of an image is saved.
use Rattle.std.proofs.Common.{◌≡◌, Result, Ok, Err, IfErr, IfOk, inl, inr, subst, sym}
use Rattle.st_classes.specs.declared.refusals.Refusal.{Refusal}
use Rattle.st_image.specs.Images.{ImageView}
use Rattle.st_file.specs.ImageSnapshots.{ImageSnapshotView, snapshot_of}
use Rattle.st_wire.specs.declared.replies.Reply.{Reply}
use Rattle.st_script.specs.Keepers.{IsFault, Replaces, SavesSnapshot, SavesSeen}

seen_saves : (i : ImageView) (seen : Result ImageSnapshotView Refusal) (r : Reply) → IfOk seen (λ m. m ≡ snapshot_of i) → IfErr seen IsFault → SavesSeen seen r → SavesSnapshot (snapshot_of i) r
seen_saves i (Ok m) r same fault saves = subst (λ (x : ImageSnapshotView). SavesSnapshot x r) same saves
seen_saves i (Err e) r same fault is = inr (e, inr fault, is)

-- what was written may not be kept
replaced_saves : (m : ImageSnapshotView) (before r : Reply) → SavesSnapshot m before → Replaces before r → SavesSnapshot m r
replaced_saves m before r saves (inl same) = subst (λ (x : Reply). SavesSnapshot m x) (sym same) saves
replaced_saves m before r saves (inr fault) = inr (fault.0, inr fault.1, fault.2)

-- an image is copied, written and kept
pub copied_saves : (i : ImageView) (seen : Result ImageSnapshotView Refusal) (written r : Reply) → IfOk seen (λ m. m ≡ snapshot_of i) → IfErr seen IsFault → SavesSeen seen written → Replaces written r
    → SavesSnapshot (snapshot_of i) r
copied_saves i seen written r same fault saves replaces = replaced_saves (snapshot_of i) written r (seen_saves i seen written same fault saves) replaces
