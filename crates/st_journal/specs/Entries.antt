-- The entries of a journal, and what each does to an image.
use Rattle.std.specs.Prelude.{◌≡◌, ◌<◌, ℕ, false, List, [], ◌∷◌, Some}
use Rattle.st_classes.specs.declared.edits.Edit.{Edit}
use Rattle.st_classes.specs.declared.edits.Edit.TheVariants as edit
use Rattle.st_classes.specs.Names.{interned, is_name}
use Rattle.st_image.specs.declared.history.Item.{Item}
use Rattle.st_image.specs.declared.history.Item.TheVariants as item
use Rattle.st_image.specs.Checkpoints.{BeginsAnew}
use Rattle.st_image.specs.Commits.{out_at}
use Rattle.st_image.specs.CompiledEdits.{IsCompiledEdit}
use Rattle.st_image.specs.Images.{ImageView, appended, constants, world}
use Rattle.st_image.specs.Replay.{next}
use Rattle.st_image.specs.WorldInvariant.{IsLawful}
use Rattle.st_journal.specs.declared.entries.Entry.{Entry}
use Rattle.st_journal.specs.declared.entries.Entry.TheVariants as entry

-- ---- how items are told

-- the entry that tells an edit: a method is told by its source
abbrev pub told_edit : Edit → Entry
told_edit (edit.Define name parent slots) = entry.Define name parent slots
told_edit (edit.Install class method) = entry.Install class method.source
told_edit (edit.Remove class selector) = entry.Remove class selector
told_edit (edit.Reparent class parent) = entry.Reparent class parent

-- the entry that tells an item
abbrev pub told : Item → Entry
told (item.Edited e) = told_edit e
told (item.Created class) = entry.Created class
told (item.Posted actor message) = entry.Posted actor message
told (item.Closed actor) = entry.Closed actor
told (item.Begun actor) = entry.Begun actor
told (item.Ran actor steps) = entry.Ran actor steps

-- the method of an install is the one that its source spells, compiled at these names and edits; other items have none
abbrev pub IsCompiledItem : List (List ℕ) → List Edit → Item → Type 0
IsCompiledItem names edits (item.Edited e) = IsCompiledEdit names edits e
IsCompiledItem names edits _ = Unit {0}

-- ---- what an entry does

-- Each actor has as many claims out as before, so none that is done with is taken for one at work. An image counts no more than 2^32 - 1
-- claims of an actor, and with so many out a claim that comes and goes would leave one less.
abbrev pub SameOut : ImageView → ImageView → Type 0
SameOut i j = (a : ℕ) → out_at i a < 4294967295 → out_at j a ≡ out_at i a

-- What an item that is done again leaves of what an image keeps beside its world: the claims that are out, and what was counted before
-- the base. The actor that is looked for first may be another one, and steps are counted at their call sites.
pub record KeepsBeside (i j : ImageView) : Type 0 where
  pub out : SameOut i j
  pub earlier : j.standing.earlier ≡ i.standing.earlier

-- An item is done again: it stands last in the history, it leads from the world before to the world after, and nothing else has changed
-- but some of what an image keeps beside its world.
pub record Redone (i : ImageView) (x : Item) (j : ImageView) : Type 0 where
  pub image : j ≡ record (appended i (x ∷ [])) { standing = j.standing }
  pub world : next (constants i) (world i) x ≡ Some (world j)
  pub beside : KeepsBeside i j

-- the item that an entry tells is done again
pub record Does (i : ImageView) (e : Entry) (j : ImageView) : Type 0 where
  pub happened : Item
  pub telling : told happened ≡ e
  pub compiled : IsCompiledItem i.names (world i).edits happened
  pub redone : Redone i happened j

-- a name is new, and stands last
pub record IsNamed (i : ImageView) (text : List ℕ) (j : ImageView) : Type 0 where
  pub new : is_name i.names text ≡ false
  pub image : j ≡ record i { names = interned i.names text }
  pub world : world j ≡ world i

-- by the kind of the entry
abbrev pub Leads : ImageView → Entry → ImageView → Type 0
Leads i (entry.Name text) j = IsNamed i text j
Leads i entry.Checkpoint j = BeginsAnew i j
Leads i e j = Does i e j

-- entries, one after the other, each to an image
abbrev pub LeadsAll : ImageView → List Entry → ImageView → Type 0
LeadsAll i [] j = j ≡ i
LeadsAll i (e ∷ es) k = (j : ImageView) × Leads i e j × IsLawful j × LeadsAll j es k
