-- How often a history changed the body of each actor.
use Rattle.std.specs.Prelude.{◌≡◌, ◌==◌, ℕ, List, Bool, false, Some, count_by, slice_index_or, slice_get}
use Rattle.std.specs.Option.{option_map}
use Rattle.st_image.specs.declared.history.Item.{Item}
use Rattle.st_image.specs.declared.history.Item.TheVariants.{Begun, Ran}
use Rattle.st_image.specs.Worlds.{Constants, World, WorldActor}
use Rattle.st_image.specs.Replay.{replay}

-- an item changes an actor's body: it begins a message of the actor's, or it is steps of the actor's
abbrev pub changes_body : ℕ → Item → Bool
changes_body a (Begun b) = b.0 == a
changes_body a (Ran b n) = b.0 == a
changes_body a _ = false

-- how many items of a history change an actor's body
abbrev pub changes_in : List Item → ℕ → ℕ
changes_in history a = count_by (changes_body a) history

-- the count of an actor in a list; 0 past its end
abbrev pub change_count : List ℕ → ℕ → ℕ
change_count counts a = slice_index_or counts a 0

-- a list has the counts of a history
abbrev pub CountsChanges : List ℕ → List Item → Type 0
CountsChanges counts history = (a : ℕ) → change_count counts a ≡ changes_in history a

-- if no item changes an actor's body, the body is still the same in the world to which the items lead
abbrev pub BodiesStay : Type 0
BodiesStay = (c : Constants) (w v : World) (items : List Item) (a : ℕ) (b : WorldActor)
    → replay c w items ≡ Some v
    → changes_in items a ≡ 0
    → slice_get w.actors a ≡ Some b
    → option_map (λ (d : WorldActor). d.body) (slice_get v.actors a) ≡ Some b.body
