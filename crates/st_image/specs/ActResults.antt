-- What the parts of an image show after an act, a step or a quantum of an actor, if they showed a world before.
use Rattle.std.specs.Prelude.{◌≡◌, ℕ, zero, suc, ◌+◌, ◌<◌, ◌≤◌, ◌^◌, List, All, Bool, true, false, Option, Some, Result, is_some, slice_get, option_and_then}
use Rattle.st_classes.specs.declared.values.ActorId.{ActorId}
use Rattle.st_classes.specs.declared.values.Value.{Value}
use Rattle.st_classes.specs.declared.faults.Fault.{Fault}
use Rattle.st_classes.specs.declared.edits.Edit.{Edit}
use Rattle.st_classes.specs.Classes.{is_class}
use Rattle.st_turn.specs.declared.acts.Act.{Act}
use Rattle.st_turn.specs.declared.acts.Act.TheVariants.{Post, Close, Create}
use Rattle.st_turn.specs.Steps.{is_outer, step}
use Rattle.st_image.specs.Worlds.{Constants, World, WorldActor}
use Rattle.st_image.specs.Replay.{ActResult, after_step, attempted_act}
use Rattle.st_image.specs.WorldInvariant.{IsWorld}
use Rattle.st_image.specs.ActorViews.{ActorView, Shows}

-- the constants by their parts
abbrev pub constants_of : List (List ℕ) → ℕ → Constants
constants_of names capacity = record { names = names; capacity = capacity }

-- the parts show a world with the invariant of worlds
pub record IsShown (names : List (List ℕ)) (capacity : ℕ) (edits : List Edit) (actors : List ActorView) (w : World)
    : Type 0 where
  pub shows : Shows edits actors w
  pub world : IsWorld (constants_of names capacity) w

-- each mailbox can count one more message
abbrev pub FewAccepted : List ActorView → Type 0
FewAccepted actors = All (λ (k : ActorView). k.accepted < 2 ^ 63) actors

-- the greatest number of messages that a mailbox has accepted grows by one at most
abbrev pub GrowsByOne : List ActorView → List ActorView → Type 0
GrowsByOne old new = (bound : ℕ)
    → All (λ (k : ActorView). k.accepted ≤ bound) old
    → All (λ (k : ActorView). k.accepted ≤ bound + 1) new

-- what was tried was done, or nothing was, as the answer says
abbrev pub Tries : List Edit → List ActorView → World → Option World → Bool → Type 0
Tries edits actors w o answer = Shows edits actors (attempted_act w o).world × (is_some o ≡ answer)

-- an act was done, and this is its answer
abbrev pub Does : List Edit → List ActorView → ActResult → Result Value Fault → Type 0
Does edits actors d answer = Shows edits actors d.world × (d.answer ≡ answer)

-- a class that an act names exists
abbrev pub NamesClasses : List Edit → Act → Type 0
NamesClasses edits (Post to args) = Unit {0}
NamesClasses edits (Close to) = Unit {0}
NamesClasses edits (Create c) = is_class edits c ≡ true

-- whether the next step of an actor is the image's
abbrev pub StandsBefore : ActorId → World → Bool → Type 0
StandsBefore a w outer = (b : WorldActor) → slice_get w.actors a.0 ≡ Some b → is_outer (step w.edits a b.body) ≡ outer

-- the actor's next step is the image's and was taken; or it is not the image's, and nothing changed
abbrev pub TakesOuter : Constants → List Edit → List ActorView → List ActorView → ActorId → World → Bool → Type 0
TakesOuter c edits old new a w true = StandsBefore a w true
    × ((v : World) × (after_step c a w ≡ Some v) × Shows edits new v)
TakesOuter c edits old new a w false = StandsBefore a w false × (new ≡ old)

-- the world after this many steps of an actor
abbrev pub world_after : Constants → ActorId → ℕ → World → Option World
world_after c a zero w = Some w
world_after c a (suc n) w = option_and_then (world_after c a n) (after_step c a w)
