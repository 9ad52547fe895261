-- The list of images that were seen under the lock, as each thread knows a beginning of it.
use Rattle.std.specs.Prelude.{ℕ, ◌≡◌, ◌==◌, ◌⊎◌, true, List, [], ◌∷◌, ◌++◌, length, MatchBool, All, Option, Some}
use mathlib.Core.List.{IsPrefix}
use Rattle.logbook.specs.Pages.{Cell, Step, View, Book, Named}
use Rattle.st_guard.specs.Moves.{CachesView}
use Rattle.st_turn.specs.Claims.{ClaimView}
use Rattle.st_image.specs.Images.{ImageView, world}
use Rattle.st_image.specs.GoingOn.{FitsClaim, GoesOnIn}
use Rattle.st_image.specs.KeptEdits.{KeepsBeginning}

-- each image goes on in all that come behind it
abbrev pub Along : List ImageView → Type 0
Along [] = Unit {0}
Along (i ∷ is) = All (GoesOnIn i) is × Along is

-- the first word is how many images there are. A book has two words, of which this one leaves the second at 0
pub record IsKept (cells : List Cell) (log : List ImageView) : Type 0 where
  pub words : cells ≡ (length log, true) ∷ (0, true) ∷ []
  pub along : Along log

abbrev pub head_of : Book → Named
head_of b = record { tracked = true; key = 0; book = b }

-- a list ends with an image
abbrev pub Ends : List ImageView → ImageView → Type 0
Ends log i = (before : List ImageView) × (log ≡ before ++ i ∷ [])

-- the last image of a list goes on in an image
abbrev pub LeadsTo : List ImageView → ImageView → Type 0
LeadsTo log j = (i : ImageView) × Ends log i × GoesOnIn i j

-- an image may come behind a list
abbrev pub MayFollow : List ImageView → ImageView → Type 0
MayFollow log j = (log ≡ []) ⊎ LeadsTo log j

-- the image was put behind all that had been seen; or there are more
abbrev pub Adds : Step ImageView → View ImageView ℕ → ℕ → View ImageView ℕ → Type 0
Adds s v found w = MatchBool (found == s.old) (w.0 ≡ v.0 ++ s.ask ∷ []) (length w.0 ≡ found) × Along w.0

-- of two lists that are there the first begins the second
pub record Precedes (first later : Option (List ImageView)) : Type 0 where
  pub begun : List ImageView
  pub all : List ImageView
  pub first_is : first ≡ Some begun
  pub later_is : later ≡ Some all
  pub prefix : IsPrefix begun all
  pub along : Along all

-- a claim is one of the last image of a list, at its class table
pub record Fits (log : List ImageView) (c : ClaimView) : Type 0 where
  pub image : ImageView
  pub ends : Ends log image
  pub fits : FitsClaim image c
  pub edits : c.edits ≡ (world image).edits

-- what caches keep begins the edits of the last image of a list
pub record Follows {G : Type 0} (log : List ImageView) (v : CachesView G) : Type 0 where
  pub image : ImageView
  pub ends : Ends log image
  pub kept : KeepsBeginning (world image).edits v
