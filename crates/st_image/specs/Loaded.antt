-- Images that are loaded: what a base has to be, and the image at it.
use Rattle.std.specs.Prelude.{◌≡◌, ◌⊎◌, ◌≤◌, ℕ, List, [], length, All, Result, Ok, Err}
use Rattle.st_classes.specs.declared.edits.Edit.{Edit}
use Rattle.st_classes.specs.declared.refusals.Refusal.{Refusal}
use Rattle.st_classes.specs.declared.refusals.Refusal.TheVariants.{BadImage, NoMemory}
use Rattle.st_classes.specs.declared.refusals.ImagePlace.TheVariants as place
use Rattle.st_image.specs.declared.actor_part.ActorPart.{ActorPart}
use Rattle.st_image.specs.declared.counts.Counts.{Counts}
use Rattle.st_image.specs.EarlierCounts.{counted_earlier}
use Rattle.st_image.specs.Images.{ImageView}
use Rattle.st_image.specs.Parts.{actor_of, world_of_parts}
use Rattle.st_image.specs.SenderNumbers.{HasSenders}
use Rattle.st_image.specs.Senders.{InSendingOrder}
use Rattle.st_image.specs.WorldInvariant.{AreClientsFrom, IsWorldActor}
use Rattle.st_image.specs.Worlds.{World}

-- actors of a base: there are at most 65,536, each is one of a world with these names and edits, and the senders of pending messages
-- exist
pub record AreBaseActors (names : List (List ℕ)) (edits : List Edit) (parts : List ActorPart) : Type 0 where
  pub few : length parts ≤ 65536
  pub each : All (λ (p : ActorPart). IsWorldActor names edits (length parts) (actor_of p)) parts
  pub senders : All (HasSenders (length parts)) parts

-- the numbers of senders are consistent: clients rise, each with a last number of 1 or more; the numbers of each sender rise in each
-- mailbox, from 1 to the sender's last at most, and none is in two mailboxes
abbrev pub AreBaseSenders : List Edit → List ActorPart → List (ℕ × ℕ) → Type 0
AreBaseSenders edits parts clients = AreClientsFrom 0 clients × InSendingOrder (world_of_parts edits parts clients)

-- the image at a base, with the counts of posts and steps before it and the default settings; nothing has happened in it yet
abbrev pub image_at : List (List ℕ) → World → Counts → ImageView
image_at names base counts = record {
  base = base;
  names = names;
  history = [];
  capacity = 64;
  most_items = 1000000;
  standing = record { next_from = 0; claims_out = []; tallies = []; earlier = counted_earlier counts };
}

-- the image at the world of these parts
abbrev pub loaded_image : List (List ℕ) → List Edit → List ActorPart → List (ℕ × ℕ) → Counts → ImageView
loaded_image names edits parts clients counts = image_at names (world_of_parts edits parts clients) counts

-- an image is made; or its actors, or the numbers of its senders, are not those of any world; or memory ran out
abbrev pub Finishes : List (List ℕ) → List Edit → List ActorPart → List (ℕ × ℕ) → Counts → Result ImageView Refusal → Type 0
Finishes names edits parts clients counts (Ok i) = AreBaseActors names edits parts
    × AreBaseSenders edits parts clients
    × (i ≡ loaded_image names edits parts clients counts)
Finishes names edits parts clients counts (Err e) = (e ≡ NoMemory)
    ⊎ ((e ≡ BadImage place.Actors) × (AreBaseActors names edits parts → ⊥))
    ⊎ ((e ≡ BadImage place.Senders) × AreBaseActors names edits parts × (AreBaseSenders edits parts clients → ⊥))
