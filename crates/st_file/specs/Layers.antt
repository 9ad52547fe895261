-- What each layer of a load answers.
use Rattle.std.specs.Prelude.{◌≡◌, ◌⊎◌, List, Result, Ok, Err}
use Rattle.st_classes.specs.declared.refusals.Refusal.{Refusal}
use Rattle.st_classes.specs.declared.refusals.Refusal.TheVariants.{BadImage, NoMemory}
use Rattle.st_classes.specs.declared.refusals.ImagePlace.{ImagePlace}
use Rattle.st_classes.specs.declared.refusals.ImagePlace.TheVariants as place
use Rattle.st_image.specs.declared.actor_part.ActorPart.{ActorPart}
use Rattle.st_image.specs.Images.{ImageView}
use Rattle.st_image.specs.Loaded.{loaded_image}
use Rattle.st_image.specs.Loading.{LoaderView, Nowhere}
use Rattle.st_file.specs.declared.texts.ImageText.{ImageText}
use Rattle.st_file.specs.Describes.{HasActors, HasEdits, HasNames, HasSenderNumbers}

-- P holds of the new loader; or P holds of none, and the refusal is `BadImage` with the place p; or memory ran out
abbrev pub AnswersAll : ImagePlace → (LoaderView → Type 0) → LoaderView → Result (Unit {0}) Refusal → Type 0
AnswersAll p P new (Ok _) = P new
AnswersAll p P new (Err e) = (e ≡ NoMemory) ⊎ ((e ≡ BadImage p) × Nowhere P)

-- a text's names and edits are loaded; or its names cannot be, or its edits cannot be; or memory ran out
abbrev pub LoadsTable : ImageText → Result LoaderView Refusal → Type 0
LoadsTable t (Ok loaded) = (named : LoaderView) × HasNames t named × HasEdits t named loaded
LoadsTable t (Err e) = (e ≡ NoMemory)
    ⊎ ((e ≡ BadImage place.Names) × Nowhere (HasNames t))
    ⊎ ((e ≡ BadImage place.Edits) × ((named : LoaderView) × HasNames t named × Nowhere (HasEdits t named)))

-- a text's actors and senders make an image; or it has no actors that fit, or the numbers of its senders are inconsistent; or memory
-- ran out
abbrev pub LoadsWorld : ImageText → LoaderView → Result ImageView Refusal → Type 0
LoadsWorld t loaded (Ok i) = (parts : List ActorPart) × HasActors t loaded parts × HasSenderNumbers t loaded parts
    × (i ≡ loaded_image loaded.names loaded.edits parts t.senders t.counts)
LoadsWorld t loaded (Err e) = (e ≡ NoMemory)
    ⊎ ((e ≡ BadImage place.Actors) × ((parts : List ActorPart) → HasActors t loaded parts → ⊥))
    ⊎ ((e ≡ BadImage place.Senders)
    × ((parts : List ActorPart) × HasActors t loaded parts × (HasSenderNumbers t loaded parts → ⊥)))
