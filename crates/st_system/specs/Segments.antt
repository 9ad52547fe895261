-- The segments of a run: a checkpoint ends one, and the next begins with the world where it ended.
use Rattle.std.specs.Prelude.{◌≡◌, List, [], ◌∷◌, All}
use Rattle.st_image.specs.Parts.{rebase}
use Rattle.st_image.specs.Images.{ImageView, world}
use Rattle.st_image.specs.WorldInvariant.{IsLawful, settings_of}
use Rattle.st_image.specs.Delivery.{HasDelivered, IsPrefixOf}
use Rattle.st_image.specs.RanTargets.{EachStepRan}

-- A segment, by the image at its end: the image is the replay of the history since the base, the messages were delivered over each
-- prefix of that history, and each send in it has run what the walk finds at its place.
pub record IsSegment (i : ImageView) : Type 0 where
  pub replay : IsLawful i
  pub delivered : HasDelivered i
  pub sent : EachStepRan i

-- an image goes on to another: the base and the settings stay, and its history and its names begin those of the other
pub record GoesOnTo (i j : ImageView) : Type 0 where
  pub base : j.base ≡ i.base
  pub settings : settings_of j ≡ settings_of i
  pub history : IsPrefixOf i.history j.history
  pub names : IsPrefixOf i.names j.names

-- what the next segment begins with: the world where this one ended is the base, the history is empty, and settings and names stay
abbrev pub begun_anew : ImageView → ImageView
begun_anew e = record e { base = rebase (world e); history = [] }

-- Segments follow one another from one image to another. The first begins with the first image, each later one with what the end of
-- the one before it leaves (`begun_anew`), and each goes on to its own end. The list has the ends of all but the last, in order; the
-- last one ends with the other image. So all have the settings of the first image, and the names of each begin those of all later
-- ones.
abbrev pub Follow : ImageView → List ImageView → ImageView → Type 0
Follow i [] j = GoesOnTo i j
Follow i (e ∷ es) j = GoesOnTo i e × Follow (begun_anew e) es j

-- a run leads from one image to another by segments
pub record HasSegments (i j : ImageView) : Type 0 where
  pub ended : List ImageView
  pub each : All IsSegment ended
  pub last : IsSegment j
  pub follow : Follow i ended j
