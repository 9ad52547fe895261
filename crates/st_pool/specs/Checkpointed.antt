-- Checkpoints of what lies under the lock.
use Rattle.std.specs.Prelude.{◌≡◌, ◌+◌, List, [], ◌∷◌, length, Result, Ok, Err, OnErr, nat_lt}
use Rattle.st_classes.specs.declared.refusals.Refusal.{Refusal}
use Rattle.st_classes.specs.declared.refusals.Refusal.TheVariants.{HistoryFull}
use Rattle.st_classes.specs.Refusals.{Rule, first_of}
use Rattle.st_image.specs.declared.counts.Counts.{Counts}
use Rattle.st_image.specs.Calls.{AnswersExactly}
use Rattle.st_image.specs.Checkpoints.{BeginsAnew}
use Rattle.st_image.specs.Counts.{most_counted}
use Rattle.st_image.specs.Images.{counts_of}
use Rattle.st_pool.specs.Done.{Done, PoolView, one_call_more}

-- the refusals of a checkpoint: no more items are emptied than places are counted for
abbrev pub checkpoint_rules : PoolView → List Rule
checkpoint_rules o = (nat_lt most_counted (o.books.emptied + length o.image.history), HistoryFull) ∷ []

-- The image begins anew, and the answer is what it has counted. The books have the items of its history, which are emptied.
pub record HasCheckpointed (o : PoolView) (c : Counts) (p : PoolView) : Type 0 where
  pub image : BeginsAnew o.image p.image
  pub counts : c ≡ counts_of p.image
  pub books : p.books ≡ record o.books { emptied = o.books.emptied + length o.image.history }

-- a checkpoint is made; a refused one changes nothing
abbrev pub Checkpoints : PoolView → Result Counts Refusal → PoolView → Type 0
Checkpoints o result p = AnswersExactly (first_of (checkpoint_rules o)) result (λ c. HasCheckpointed o c p)
    × OnErr result (p ≡ o)

-- what a caller has done behind its checkpoint, which emptied the history that it found
abbrev pub with_checkpoint : PoolView → Result Counts Refusal → Done → Done
with_checkpoint o (Ok c) d = record (one_call_more d) { emptied = d.emptied + length o.image.history }
with_checkpoint o (Err e) d = one_call_more d
