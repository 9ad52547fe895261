-- Worlds that are the same but for the numbers of turns, and how earlier turns ended.
use Rattle.std.specs.Prelude.{◌≡◌, ◌≤◌, List, length, Option, option_map, All}
use Rattle.st_image.specs.Parts.{rebase}
use Rattle.st_image.specs.WorldInvariant.{IsWorld}
use Rattle.st_image.specs.Worlds.{Constants, World, WorldActor}
use Rattle.st_journal.specs.Marks.{Mark, after_all}

-- Two worlds are the same but for what actors began, what they accepted before that, and how earlier turns ended.
abbrev pub AreAlike : World → World → Type 0
AreAlike v w = rebase v ≡ rebase w

-- each actor has begun no more than it accepted
abbrev pub BeginsFew : World → Type 0
BeginsFew w = All (λ (b : WorldActor). length b.begun ≤ length b.accepted) w.actors

-- so it is in each world that a lawful image comes to
abbrev pub WorldsBeginFew : Type 0
WorldsBeginFew = (c : Constants) (w : World) → IsWorld c w → BeginsFew w

-- worlds are both missing, or both there and alike
abbrev pub BothAlike : Option World → Option World → Type 0
BothAlike o p = option_map rebase o ≡ option_map rebase p

-- what happens leads worlds that are alike to worlds that are alike
abbrev pub StayAlike : Type 0
StayAlike = (c : Constants) (v w : World) (ms : List Mark) → BeginsFew v → BeginsFew w → AreAlike v w
    → BothAlike (after_all c v ms) (after_all c w ms)
