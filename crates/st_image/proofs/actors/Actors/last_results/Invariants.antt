use Rattle.std.proofs.Common.{◌≡◌, map, take}
use Rattle.st_image.specs.ActorViews.{last_kept}
use Rattle.st_image.specs.NewestResults.{kept_in}
use Rattle.st_image.proofs.actors.Actors.last_results.Given as goal

abbrev pub invariant-loop-actor : goal.invariant-loop-actor
invariant-loop-actor g l = map kept_in l.all.items ≡ map last_kept (take l.actor-index l.actor-items)
