use Rattle.std.proofs.Common.{arith, ◌≡◌, ◌++◌, [], ◌∷◌, Some, length, slice_get, ap, ◌∙◌}
use Rattle.std.proofs.lemmas.Grind.{common_steps}
use Rattle.std.proofs.lemmas.Option.{slice_get_within}
use Rattle.st_image.specs.ActorViews.{ActorView}
use Rattle.st_image.proofs.FreeOnes.{here, only_one}
use Rattle.st_image.proofs.RenewedEach.{IsNextLeft, next_left}
use Rattle.st_image.proofs.actors.renewal.begin_each.Goals as goal

pub left-preserved : goal.left-preserved
left-preserved g c =
    let left = c.pop.new.self.items in
    let actors = c.left.actors.items in
    let more : c.left.results.items ≡ left ++ c.in-Some.last ∷ [] = grind (arith, common_steps) in
    let n : IsNextLeft c.args.actors.now.items left c.in-Some.last actors = next_left c.args.actors.now.items actors c.left.results.items left c.in-Some.last more c.left.invariant in
    let place : c.len-place.result ≡ length left = grind (arith, common_steps) in
    let there : slice_get actors c.len-place.result ≡ Some n.here = ap (slice_get actors) place ∙ n.there in
    let k : ActorView = c.index_mut-actor.result.now in
    let at : slice_get actors c.len-place.result ≡ Some k = here actors c.len-place.result k (slice_get_within actors c.len-place.result n.here there) c.index_mut-actor.ensures.value in
    let same : k ≡ n.here = only_one actors c.len-place.result k n.here at there in
    rw (c.begin_anew.ensures, same, place) n.after
