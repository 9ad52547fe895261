-- What a run took, from what it added to the history.
use Rattle.std.specs.Prelude.{◌≡◌, ℕ, ◌+◌, ◌≤◌, ◌<◌, List, [], ◌∷◌, ◌++◌, All, length, sum}
use Rattle.st_image.specs.declared.history.Item.{Item}
use Rattle.st_image.specs.declared.history.Item.TheVariants.{Ran}
use Rattle.st_wire.specs.declared.replies.Reply.TheVariants as reply
use Rattle.st_script.specs.Runners.{RunnerView, NoneReady}
use Rattle.st_script.specs.CommandReplies.{Runs}

-- the steps of each quantum in a list of items
abbrev pub quanta_in : List Item → List ℕ
quanta_in [] = []
quanta_in (Ran a n ∷ is) = n ∷ quanta_in is
quanta_in (_ ∷ is) = quanta_in is

-- the history grew by q quanta with s steps in all, each from 1 step to one more than a quantum; there are fewer
-- quanta than requested only if no actor is ready
abbrev pub HasRun : ℕ → ℕ → RunnerView → ℕ → ℕ → RunnerView → Type 0
HasRun quantum quanta i q s j = (items : List Item) × (j.image.history ≡ i.image.history ++ items)
    × (length (quanta_in items) ≡ q)
    × (sum (quanta_in items) ≡ s)
    × All (λ n. (1 ≤ n) × (n ≤ quantum + 1)) (quanta_in items)
    × (q ≤ quanta)
    × (q < quanta → NoneReady j)

-- this holds of every run that answers its quanta and steps
abbrev pub RunsSayWhatTheyTook : Type 0
RunsSayWhatTheyTook = (quantum quanta q s : ℕ) (i j : RunnerView)
    → Runs quantum quanta i 0 0 (reply.Ran q s) j
    → HasRun quantum quanta i q s j
