-- What happened to an image, as a list of items and checkpoints.
use Rattle.std.specs.Prelude.{List, [], ◌∷◌, Option, Some, option_and_then}
use Rattle.st_image.specs.declared.history.Item.{Item}
use Rattle.st_image.specs.Parts.{rebase}
use Rattle.st_image.specs.Replay.{next}
use Rattle.st_image.specs.Worlds.{Constants, World}

-- an item, or a checkpoint
pub data Mark : Type 0 where
  did : Item → Mark
  emptied : Mark

-- the world after a mark: a checkpoint makes the present world a base
abbrev pub after : Constants → World → Mark → Option World
after c w (did x) = next c w x
after c w emptied = Some (rebase w)

-- the world after marks, one after the other
abbrev pub after_all : Constants → World → List Mark → Option World
after_all c w [] = Some w
after_all c w (m ∷ ms) = option_and_then (λ v. after_all c v ms) (after c w m)
