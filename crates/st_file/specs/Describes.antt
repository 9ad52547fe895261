-- Image documents: what a JSON value describes, and what is wrong with one that describes nothing.
use Rattle.std.specs.Prelude.{◌≡◌, ◌⊎◌, ℕ, List, [], Some, None, Result, Ok, Err}
use Rattle.serde_json.specs.Data.{Data}
use Rattle.st_classes.specs.declared.refusals.Refusal.{Refusal}
use Rattle.st_classes.specs.declared.refusals.Refusal.TheVariants.{BadImage, NoMemory}
use Rattle.st_classes.specs.declared.refusals.ImagePlace.{ImagePlace}
use Rattle.st_classes.specs.declared.refusals.ImagePlace.TheVariants as place
use Rattle.st_classes.specs.Kernel.{kernel_selectors}
use Rattle.st_image.specs.declared.actor_part.ActorPart.{ActorPart}
use Rattle.st_image.specs.declared.counts.Counts.{Counts}
use Rattle.st_image.specs.Images.{ImageView, counts_of}
use Rattle.st_image.specs.Loaded.{AreBaseActors, AreBaseSenders, image_at}
use Rattle.st_image.specs.Loading.{LoaderView, LoadsAll, LoadsEdit, LoadsName, Nowhere}
use Rattle.st_image.specs.Parts.{world_of_parts}
use Rattle.st_image.specs.Worlds.{World}
use Rattle.st_file.specs.declared.texts.ImageText.{ImageText}
use Rattle.st_file.specs.Meanings.{actors_meant}
use Rattle.st_file.specs.Shapes.{image_in}

-- the kernel's names, and no edits
abbrev pub kernel_table : LoaderView
kernel_table = record { names = kernel_selectors; edits = [] }

-- ---- a document, place by place

-- it has the shape of an image's
abbrev pub HasShape : Data → ImageText → Type 0
HasShape v t = image_in v ≡ Some t

-- its names load, in order, after the kernel's
abbrev pub HasNames : ImageText → LoaderView → Type 0
HasNames t named = LoadsAll LoadsName kernel_table t.names named

-- its edits load, in order, with these names
abbrev pub HasEdits : ImageText → LoaderView → LoaderView → Type 0
HasEdits t named loaded = LoadsAll LoadsEdit named t.edits loaded

-- its actors are those of a world with these names and this class table
pub record HasActors (t : ImageText) (loaded : LoaderView) (parts : List ActorPart) : Type 0 where
  pub meant : actors_meant loaded.names loaded.edits t.actors ≡ Some parts
  pub fit : AreBaseActors loaded.names loaded.edits parts

-- the numbers of its senders are consistent
abbrev pub HasSenderNumbers : ImageText → LoaderView → List ActorPart → Type 0
HasSenderNumbers t loaded parts = AreBaseSenders loaded.edits parts t.senders

-- ---- what a document describes

-- the value has the shape of an image's document, breaks none of its rules, and gives this world, these names and these counts
pub record Describes (v : Data) (names : List (List ℕ)) (w : World) (counts : Counts) : Type 0 where
  pub text : ImageText
  pub named : LoaderView
  pub loaded : LoaderView
  pub parts : List ActorPart
  pub shape : HasShape v text
  pub names_load : HasNames text named
  pub edits_load : HasEdits text named loaded
  pub actors : HasActors text loaded parts
  pub senders : HasSenderNumbers text loaded parts
  pub names_are : names ≡ loaded.names
  pub world_is : w ≡ world_of_parts loaded.edits parts text.senders
  pub counts_are : counts ≡ text.counts

-- p is the first place where something is wrong with the value, in this order: shape, names, edits, actors, senders
abbrev pub IsWrongAt : ImagePlace → Data → Type 0
IsWrongAt place.Json v = ⊥
IsWrongAt place.Shape v = image_in v ≡ None
IsWrongAt place.Names v = (t : ImageText) × HasShape v t × Nowhere (HasNames t)
IsWrongAt place.Edits v = (t : ImageText) × (named : LoaderView) × HasShape v t × HasNames t named
    × Nowhere (HasEdits t named)
IsWrongAt place.Actors v = (t : ImageText) × (named : LoaderView) × (loaded : LoaderView)
    × HasShape v t × HasNames t named × HasEdits t named loaded
    × ((parts : List ActorPart) → HasActors t loaded parts → ⊥)
IsWrongAt place.Senders v = (t : ImageText) × (named : LoaderView) × (loaded : LoaderView) × (parts : List ActorPart)
    × HasShape v t × HasNames t named × HasEdits t named loaded × HasActors t loaded parts
    × (HasSenderNumbers t loaded parts → ⊥)

-- ---- answers

-- the image at the world that the value describes, with its names and its counts; or what is wrong with the value; or memory ran out
abbrev pub LoadsImage : Data → Result ImageView Refusal → Type 0
LoadsImage v (Ok i) = Describes v i.names i.base (counts_of i) × (i ≡ image_at i.names i.base (counts_of i))
LoadsImage v (Err e) = (e ≡ NoMemory) ⊎ ((p : ImagePlace) × (e ≡ BadImage p) × IsWrongAt p v)

-- a value describes at most one world, one list of names and one pair of counts
abbrev pub DescribesOne : Type 0
DescribesOne = (v : Data) (names other_names : List (List ℕ)) (w u : World) (counts other_counts : Counts)
    → Describes v names w counts → Describes v other_names u other_counts
    → (names ≡ other_names) × (w ≡ u) × (counts ≡ other_counts)

-- a value with something wrong describes no world
abbrev pub WrongDescribesNone : Type 0
WrongDescribesNone = (p : ImagePlace) (v : Data) (names : List (List ℕ)) (w : World) (counts : Counts)
    → IsWrongAt p v → Describes v names w counts → ⊥
