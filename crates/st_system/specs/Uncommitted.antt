-- What the events of workers leave in the image if nothing is committed.
use Rattle.std.specs.Prelude.{◌≡◌, ◌≤◌, ◌+◌, ◌++◌, ℕ, List, [], ◌∷◌, length, map, Bool, true, false, Result}
use Rattle.std.specs.List.{list_all}
use Rattle.st_classes.specs.declared.values.ActorId.{ActorId}
use Rattle.st_classes.specs.declared.refusals.Refusal.{Refusal}
use Rattle.st_image.specs.declared.history.Item.TheVariants.{Begun}
use Rattle.st_image.specs.Images.{ImageView}
use Rattle.st_image.specs.Commits.{with_out}
use Rattle.st_image.specs.WorldInvariant.{settings_of}
use Rattle.st_system.specs.declared.events.Answer.{Answer}
use Rattle.st_system.specs.declared.events.Event.{Event}
use Rattle.st_system.specs.declared.events.Event.TheVariants.{Checkout, Local, Release, Forget}
use Rattle.st_system.specs.Schedules.{Schedule}
use Rattle.st_system.specs.Acts.{Acts, Leads}

-- an event of a worker that is neither a checkout nor a commit
abbrev pub is_apart : Event → Bool
is_apart (Local w) = true
is_apart (Release w) = true
is_apart (Forget w) = true
is_apart _ = false

-- an event of a worker that is not a commit
abbrev pub is_uncommitted : Event → Bool
is_uncommitted (Checkout w a) = true
is_uncommitted e = is_apart e

-- how many of the events are checkouts
abbrev pub checkouts : List Event → ℕ
checkouts [] = 0
checkouts (Checkout w a ∷ es) = checkouts es + 1
checkouts (_ ∷ es) = checkouts es

-- At most this many turns have begun, and nothing else has happened: their beginnings are appended to the history, and the base, the
-- names, the settings, the statistics and what was counted before the base are the same. It is left open from where the next ready
-- actor is looked for, and how many claims are out.
pub record OnlyBegins (most : ℕ) (i j : ImageView) : Type 0 where
  pub begun : List ActorId
  pub few : length begun ≤ most
  pub history : j.history ≡ i.history ++ map Begun begun
  pub base : j.base ≡ i.base
  pub names : j.names ≡ i.names
  pub settings : settings_of j ≡ settings_of i
  pub tallies : j.standing.tallies ≡ i.standing.tallies
  pub earlier : j.standing.earlier ≡ i.standing.earlier

-- Without checkouts and commits, workers change nothing of the image but how many claims are out. A checkout begins one turn at most.
-- So without commits the events of workers leave only turns that were begun, at most one for each checkout.
pub record LeavesNothing : Type 0 where
  pub apart : (S T : Schedule) (es : List Event) →
      list_all is_apart es ≡ true → Leads S es T → T.image ≡ with_out S.image T.image
  pub checkout : (S T : Schedule) (w : ℕ) (a : ActorId) (r : Result Answer Refusal) →
      Acts S (Checkout w a) r T → OnlyBegins 1 S.image T.image
  pub uncommitted : (S T : Schedule) (es : List Event) →
      list_all is_uncommitted es ≡ true → Leads S es T → OnlyBegins (checkouts es) S.image T.image
