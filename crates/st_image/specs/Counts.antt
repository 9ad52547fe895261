-- How many posts, edits and steps a history has.
use Rattle.std.specs.Prelude.{◌≡◌, ℕ, ◌+◌, ◌-◌, ◌^◌, ◌≤◌, List, [], ◌∷◌}
use Rattle.st_image.specs.declared.history.Item.{Item}
use Rattle.st_image.specs.declared.history.Item.TheVariants.{Edited, Created, Posted, Closed, Begun, Ran}
use Rattle.st_image.specs.declared.counts.Counts.{Counts}
use Rattle.st_image.specs.EarlierCounts.{EarlierCounts}

-- an item's posts
abbrev pub posts_of : Item → ℕ
posts_of (Edited e) = 0
posts_of (Created c) = 0
posts_of (Posted a m) = 1
posts_of (Closed a) = 0
posts_of (Begun a) = 0
posts_of (Ran a n) = 0

-- an item's edits
abbrev pub edits_of : Item → ℕ
edits_of (Edited e) = 1
edits_of (Created c) = 0
edits_of (Posted a m) = 0
edits_of (Closed a) = 0
edits_of (Begun a) = 0
edits_of (Ran a n) = 0

-- an item's steps
abbrev pub ran_of : Item → ℕ
ran_of (Edited e) = 0
ran_of (Created c) = 0
ran_of (Posted a m) = 0
ran_of (Closed a) = 0
ran_of (Begun a) = 0
ran_of (Ran a n) = n

-- the sum of the items' weights
abbrev pub weigh : (Item → ℕ) → List Item → ℕ
weigh f [] = 0
weigh f (item ∷ items) = f item + weigh f items

-- how many messages clients posted, and how many steps actors took
abbrev pub counts_in : List Item → Counts
counts_in history = record { posts = weigh posts_of history; steps = weigh ran_of history }

-- the most posts, and the most steps, that an image counts
abbrev pub most_counted : ℕ
most_counted = 2 ^ 63 - 1

-- counts that an image can have
pub record CanBeCounted (c : Counts) : Type 0 where
  pub posts : c.posts ≤ most_counted
  pub steps : c.steps ≤ most_counted

-- these are the counts of a history; with what was counted before, they are no more than an image counts
pub record CountsItems (c : Counts) (e : EarlierCounts) (history : List Item) : Type 0 where
  pub counts : c ≡ counts_in history
  pub few_posts : e.posts + weigh posts_of history ≤ most_counted
  pub few_steps : e.steps + weigh ran_of history ≤ most_counted
