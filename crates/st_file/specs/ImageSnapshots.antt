-- What is kept of an image at one moment: all that its file says.
use Rattle.std.specs.Prelude.{ℕ, List}
use Rattle.st_classes.specs.declared.edits.Edit.{Edit}
use Rattle.st_classes.specs.EditLists.{AllSuit, AreLawful}
use Rattle.st_image.specs.declared.actor_part.ActorPart.{ActorPart}
use Rattle.st_image.specs.declared.counts.Counts.{Counts}
use Rattle.st_image.specs.CompiledEdits.{AllCompiled}
use Rattle.st_image.specs.Counts.{CanBeCounted}
use Rattle.st_image.specs.Images.{ImageView, counts_of, world}
use Rattle.st_image.specs.Loaded.{AreBaseActors, AreBaseSenders}
use Rattle.st_image.specs.Parts.{rebase}
use Rattle.st_image.specs.Worlds.{World}

-- names, a world with which an image can begin, and what was counted until then
pub record ImageSnapshotView : Type 0 where
  pub names : List (List ℕ)
  pub base : World
  pub counts : Counts

-- what is kept of an image: its names, its present world, and its counts
abbrev pub snapshot_of : ImageView → ImageSnapshotView
snapshot_of i = record { names = i.names; base = rebase (world i); counts = counts_of i }

-- these names, edits, actors, clients and counts are those of an image at some moment
pub record AreOfImage (names : List (List ℕ)) (edits : List Edit) (parts : List ActorPart) (clients : List (ℕ × ℕ)) (counts : Counts) : Type 0 where
  pub lawful : AreLawful edits
  pub suited : AllSuit names edits
  pub compiled : AllCompiled names edits
  pub actors : AreBaseActors names edits parts
  pub senders : AreBaseSenders edits parts clients
  pub counted : CanBeCounted counts
