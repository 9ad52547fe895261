use Rattle.std.proofs.Common.{◌≡◌, ◌++◌, ◌∷◌, [], ℕ, ◌+◌, List, Some, None, Option, drop, map, slice_get, ap, ◌∙◌}
use Rattle.std.specs.Prelude.{option_map}
use Rattle.st_classes.specs.declared.edits.Edit.{Edit}
use Rattle.st_image.specs.declared.actor_part.ActorPart.{ActorPart}
use Rattle.st_image.specs.Images.{world}
use Rattle.st_image.specs.Parts.{actor_of, part_of, rebase, rebased}
use Rattle.st_image.specs.Worlds.{World, WorldActor}
use Rattle.st_image.proofs.OneMore.{given_more}
use Rattle.st_image.proofs.image.Image.present_base.Goals as goal

as_rebased : (o : Option WorldActor) (p : ActorPart) → option_map part_of o ≡ Some p → option_map rebased o ≡ Some (actor_of p)
as_rebased None p e = cc
as_rebased (Some b) p e = cc

-- a world by its parts
abbrev made : List Edit → List WorldActor → List (ℕ × ℕ) → World
made es bs cs = record { edits = es; actors = bs; clients = cs }

same : (v : World) (es : List Edit) (bs : List WorldActor) (cs : List (ℕ × ℕ)) → es ≡ v.edits → bs ≡ v.actors → cs ≡ v.clients → made es bs cs ≡ v
same v es bs cs e b c = ap (λ (x : List Edit). made x bs cs) e ∙ ap (λ (x : List WorldActor). made v.edits x cs) b ∙ ap (λ (x : List (ℕ × ℕ)). made v.edits v.actors x) c

pub loop-actor-preserved : goal.loop-actor-preserved
loop-actor-preserved g c =
    let w : World = world c.args.self.now in
    let v : World = rebase w in
    let n : ℕ = c.loop-actor.actor in
    let b : World = c.loop-actor.base in
    let p : ActorPart = c.in-Ok.part in
    let pushed : c.push.new.self ≡ made b.edits (b.actors ++ actor_of p ∷ []) b.clients = c.in_ok-push.ensures.ok in
    let before = c.loop-actor.invariant in
    ap (λ (x : World). made x.edits (x.actors ++ map rebased (drop (n + 1) w.actors)) x.clients) pushed
    ∙ same v b.edits _ b.clients (ap (λ (x : World). x.edits) before) (given_more rebased b.actors v.actors w.actors n (actor_of p) (as_rebased (slice_get w.actors n) p c.in-Ok.ensures.1) (ap (λ (x : World). x.actors) before)) (ap (λ (x : World). x.clients) before)
