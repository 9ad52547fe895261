-- What a saved image and its journal lead to, and that it stays what it was while a save replaces both.
use Rattle.std.specs.Prelude.{◌≡◌, ◌⊎◌, ℕ, ◌≤◌, List, ◌∷◌, ◌++◌, length, drop, take, true, Option, Some, None, if◌then◌else◌, option_and_then}
use Rattle.std.specs.Str.{bytes_eq}
use Rattle.st_image.specs.Parts.{rebase}
use Rattle.st_image.specs.Worlds.{Constants, World}
use Rattle.st_journal.specs.Marks.{Mark, emptied, after_all}

-- ---- images and journals that go together

-- a saved image, with the digest of its text
pub record Saved : Type 0 where
  pub digest : List ℕ
  pub world : World

-- a journal: the digest of the image that it goes on from, and its entries
pub record Journal : Type 0 where
  pub from : List ℕ
  pub entries : List Mark

-- what a disk has: an image, its journal, and perhaps another journal, which a save has written for the image that it makes
pub record Disk : Type 0 where
  pub image : Saved
  pub journal : Journal
  pub next : Option Journal

-- the entries of the other journal, if it goes on from the image with this digest
abbrev pub next_behind : List ℕ → Option Journal → Option (List Mark)
next_behind digest None = None
next_behind digest (Some n) = if bytes_eq digest n.from then Some n.entries else None

-- the entries behind the image with this digest: those of its journal, or else those of the other one
abbrev pub behind : List ℕ → Journal → Option Journal → Option (List Mark)
behind digest j next = if bytes_eq digest j.from then Some j.entries else next_behind digest next

-- the world to which a disk leads, if its image and a journal go together
abbrev pub world_of_disk : Constants → Disk → Option World
world_of_disk c d = option_and_then (after_all c d.image.world) (behind d.image.digest d.journal d.next)

-- ---- a save, step by step

-- the journal that goes on from a new image behind the first k entries
abbrev pub begun_anew : Saved → ℕ → Journal → Journal
begun_anew new k j = record { from = new.digest; entries = drop k j.entries }

-- A save of the world to which the first k entries lead: a text of the world and its digest. One digest is that of one text.
pub record CanSave (c : Constants) (s : Saved) (j : Journal) (k : ℕ) (new : Saved) : Type 0 where
  pub goes_on : j.from ≡ s.digest
  pub few : k ≤ length j.entries
  pub world : World
  pub led : after_all c s.world (take k j.entries) ≡ Some world
  pub is : new.world ≡ rebase world
  pub one_text : bytes_eq new.digest s.digest ≡ true → new.world ≡ s.world

-- the entries, with a checkpoint behind the first k
abbrev pub checkpointed : ℕ → List Mark → List Mark
checkpointed k ms = take k ms ++ emptied ∷ drop k ms

-- the world to which an image and the entries of its journal lead
abbrev pub led_to : Constants → Saved → Journal → Option World
led_to c s j = after_all c s.world j.entries

-- the same, as if a checkpoint had been made behind the first k entries
abbrev pub led_over : Constants → Saved → Journal → ℕ → Option World
led_over c s j k = after_all c s.world (checkpointed k j.entries)

-- What each state of the disk leads to while a save goes on. While the other journal is written, whatever is there of it: the same world.
-- Once the new image has replaced the old one: the same world, or that world as if a checkpoint had been made where the save was taken. Once
-- the other journal has replaced the old one: the latter.
pub record SaveKeeps (c : Constants) (s : Saved) (j : Journal) (k : ℕ) (new : Saved) : Type 0 where
  pub written : (next : Option Journal) → world_of_disk c (record { image = s; journal = j; next = next }) ≡ led_to c s j
  pub moved : (let w : Option World = world_of_disk c (record { image = new; journal = j; next = Some (begun_anew new k j) }) in
      (w ≡ led_to c s j) ⊎ (w ≡ led_over c s j k))
  pub anew : (next : Option Journal) → world_of_disk c (record { image = new; journal = begun_anew new k j; next = next }) ≡ led_over c s j k

-- a save keeps what the disk leads to
abbrev pub SavesKeep : Type 0
SavesKeep = (c : Constants) (s : Saved) (j : Journal) (k : ℕ) (new : Saved) → CanSave c s j k new → SaveKeeps c s j k new
