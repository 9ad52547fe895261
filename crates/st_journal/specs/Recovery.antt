-- What entries lead to, if they tell what happened.
use Rattle.std.specs.Prelude.{◌≡◌, ℕ, ◌+◌, List, [], ◌∷◌, ◌++◌, drop, map, take, Some}
use Rattle.st_image.specs.declared.counts.Counts.{Counts}
use Rattle.st_image.specs.declared.history.Item.{Item}
use Rattle.st_image.specs.Commits.{out_at}
use Rattle.st_image.specs.CompiledEdits.{AllCompiled}
use Rattle.st_image.specs.Images.{ImageView, counts_of, world}
use Rattle.st_image.specs.Scheduling.{is_free_at, is_ready_at}
use Rattle.st_image.specs.WorldInvariant.{IsLawful}
use Rattle.st_image.specs.Worlds.{Constants, World}
use Rattle.st_journal.specs.declared.entries.Entry.{Entry}
use Rattle.st_journal.specs.declared.entries.Entry.TheVariants as entry
use Rattle.st_journal.specs.Entries.{LeadsAll, SameOut, told}
use Rattle.st_journal.specs.Marks.{Mark, did, emptied, after_all}

-- the entry that tells an item or a checkpoint
abbrev pub told_mark : Mark → Entry
told_mark (did x) = told x
told_mark emptied = entry.Checkpoint

-- the texts that entries intern, in order
abbrev pub names_in : List Entry → List (List ℕ)
names_in [] = []
names_in (entry.Name text ∷ es) = text ∷ names_in es
names_in (e ∷ es) = names_in es

-- the other entries, in order
abbrev pub but_names : List Entry → List Entry
but_names [] = []
but_names (entry.Name text ∷ es) = but_names es
but_names (e ∷ es) = e ∷ but_names es

-- entries tell marks, and the names that were added since there were these
pub record Tells (before : List (List ℕ)) (es : List Entry) (ms : List Mark) (names : List (List ℕ)) : Type 0 where
  pub named : names ≡ before ++ names_in es
  pub marks : but_names es ≡ map told_mark ms

-- the entries that tell the names behind the first ones, and then items, tell these items and those names
abbrev pub TellingTells : Type 0
TellingTells = (names : List (List ℕ)) (known : ℕ) (h : List Item)
    → Tells (take known names) (map entry.Name (drop known names) ++ map told h) (map did h) names

-- what happened, with all names that there are now, from a world to a world whose methods are compiled from their sources
pub record Happened (c : Constants) (w : World) (ms : List Mark) (v : World) : Type 0 where
  pub led : after_all c w ms ≡ Some v
  pub compiled : AllCompiled c.names v.edits

-- If entries that tell what happened from an image's world on are done again, this leads to the very names and the very world to which
-- it led. The names may be told before the items that need them, and an install by its source.
abbrev pub RedoneIsWhatWasTold : Type 0
RedoneIsWhatWasTold = (i j : ImageView) (es : List Entry) (ms : List Mark) (names : List (List ℕ)) (v : World)
    → IsLawful i
    → Tells i.names es ms names
    → Happened (record { names = names; capacity = i.capacity }) (world i) ms v
    → LeadsAll i es j
    → (j.names ≡ names) × (world j ≡ v)

-- an image begins where another one began: at its base, with its capacity
pub record BeginsAt (i k : ImageView) : Type 0 where
  pub lawful : IsLawful i
  pub world : world i ≡ k.base
  pub capacity : i.capacity ≡ k.capacity

-- how many posts an entry tells
abbrev pub posts_told : Entry → ℕ
posts_told (entry.Posted actor message) = 1
posts_told e = 0

-- how many steps an entry tells
abbrev pub steps_told : Entry → ℕ
steps_told (entry.Ran actor steps) = steps
steps_told e = 0

-- the sum of such numbers
abbrev pub sum_of : (Entry → ℕ) → List Entry → ℕ
sum_of f [] = 0
sum_of f (e ∷ es) = f e + sum_of f es

-- the counts of an image go on by what entries tell, and as many claims are out as before
pub record GoesOn (i : ImageView) (es : List Entry) (j : ImageView) : Type 0 where
  pub posts : (counts_of j).posts ≡ (counts_of i).posts + sum_of posts_told es
  pub steps : (counts_of j).steps ≡ (counts_of i).steps + sum_of steps_told es
  pub out : SameOut i j

-- whatever entries are done again, an image goes on so
abbrev pub RedoneGoesOn : Type 0
RedoneGoesOn = (i j : ImageView) (es : List Entry) → LeadsAll i es j → GoesOn i es j

-- what was counted in an image when it began
abbrev pub counts_before : ImageView → Counts
counts_before k = record { posts = k.standing.earlier.posts; steps = k.standing.earlier.steps }

-- no claim is out
abbrev pub NoneOut : ImageView → Type 0
NoneOut i = (a : ℕ) → out_at i a ≡ 0

-- An image that was i comes to the names and the world of k. If it had counted what k had when that began, it has its counts. If no claim
-- was out, a worker may take just those actors that are ready in k's world: each that is in a turn, or has a message pending.
pub record HasComeTo (i j k : ImageView) : Type 0 where
  pub names : j.names ≡ k.names
  pub counts : counts_of i ≡ counts_before k → counts_of j ≡ counts_of k
  pub free : NoneOut i → (a : ℕ) → is_free_at j a ≡ is_ready_at (world k) a
  pub world : world j ≡ world k

-- So an image that begins where another began, and does again what tells that one's history, comes to it.
abbrev pub ComesToTheImage : Type 0
ComesToTheImage = (i j k : ImageView) (es : List Entry)
    → BeginsAt i k
    → IsLawful k
    → AllCompiled k.names (world k).edits
    → Tells i.names es (map did k.history) k.names
    → LeadsAll i es j
    → HasComeTo i j k
