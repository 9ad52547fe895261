-- The tallies of an image, after an item more.
use Rattle.std.proofs.Common.{◌≡◌, ℕ, ◌++◌, [], ◌∷◌, List}
use Rattle.st_classes.specs.declared.edits.Edit.{Edit}
use Rattle.st_turn.specs.declared.tally.Tally.{Tally}
use Rattle.st_image.specs.declared.history.Item.{Item}
use Rattle.st_image.specs.declared.settings.Settings.{Settings}
use Rattle.st_image.specs.Worlds.{World}
use Rattle.st_image.specs.Images.{world_of}
use Rattle.st_image.specs.ActorViews.{ActorView}
use Rattle.st_image.specs.ActResults.{constants_of}
use Rattle.st_image.specs.ImageInvariant.{IsImage}
use Rattle.st_image.specs.Tallies.{CountsSends, asked_by_item}
use Rattle.st_image.proofs.Counting.{counts_names, counts_none, counts_other}

-- after an item whose steps send nothing
pub sends_other : (base : World) (names : List (List ℕ)) (edits : List Edit) (actors : List ActorView) (h : List Item) (made : ℕ) (s : Settings) (rows : List (List Tally)) (i : Item)
    → IsImage base names edits actors h made s → CountsSends (constants_of names s.capacity) base h rows → asked_by_item (constants_of names s.capacity) (world_of (constants_of names s.capacity) base h) i ≡ [] → CountsSends (constants_of names s.capacity) base (h ++ i ∷ []) rows
sends_other base names edits actors h made s rows i k n e = counts_other (constants_of names s.capacity) base (world_of (constants_of names s.capacity) base h) h i rows n k.lawful e

-- for names that go on
pub sends_more : (base : World) (names more : List (List ℕ)) (edits : List Edit) (actors : List ActorView) (h : List Item) (made : ℕ) (s : Settings) (rows : List (List Tally))
    → IsImage base names edits actors h made s → CountsSends (constants_of names s.capacity) base h rows → CountsSends (constants_of (names ++ more) s.capacity) base h rows
sends_more base names more edits actors h made s rows k n = counts_names names more s.capacity base (world_of (constants_of names s.capacity) base h) h rows k.base_is k.sound k.lawful n

-- with no history yet, whatever the constants
pub sends_none : (names : List (List ℕ)) (base : World) (h : List Item) (one two : Settings) (rows : List (List Tally)) → h ≡ [] → CountsSends (constants_of names one.capacity) base h rows → CountsSends (constants_of names two.capacity) base h rows
sends_none names base [] one two rows e n = record { sends = n.sends; few = n.few }
sends_none names base (i ∷ is) one two rows e n = cc

-- a new image
pub sends_new : (names : List (List ℕ)) (base : World) (s : Settings) → CountsSends (constants_of names s.capacity) base [] []
sends_new names base s = counts_none (constants_of names s.capacity) base
