-- What was counted in an image before its base: a history that is emptied leaves its counts here.
use Rattle.std.specs.Prelude.{ℕ, List, []}
use Rattle.st_image.specs.declared.counts.Counts.{Counts}

-- how often each actor's body was changed, by the actors' numbers, 0 past the end of the list; and how many edits, posts and steps
-- there were
pub record EarlierCounts : Type 0 where
  pub changes : List ℕ
  pub edits : ℕ
  pub posts : ℕ
  pub steps : ℕ

-- this many posts and steps were counted before, and nothing else
abbrev pub counted_earlier : Counts → EarlierCounts
counted_earlier c = record { changes = []; edits = 0; posts = c.posts; steps = c.steps }

-- nothing was counted before
abbrev pub nothing_earlier : EarlierCounts
nothing_earlier = record { changes = []; edits = 0; posts = 0; steps = 0 }
