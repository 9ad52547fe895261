use Rattle.std.proofs.Common.{◌≡◌, ◌<◌, Some, length, slice_get, sym, subst, ap, ◌∙◌, Ok, arith}
use Rattle.st_turn.specs.Steps.{outer, reply_body, step}
use Rattle.st_image.specs.ActorViews.{ActorView, ActorsView, view_after_steps, AreActors}
use Rattle.st_image.proofs.FreeOnes.{here, put_view, mark_kept, only_one}
use Rattle.st_image.proofs.actors.Actors.give.Goals as goal

pub invariant_of-self : goal.invariant_of-self
invariant_of-self g c =
    let i = c.self.inside in
    let v : ActorsView = record { list = i.items.items; out = i.out.items } in
    let k : ActorView = c.index_mut-item.result.now in
    let within : c.args.actor.0 < length i.items.items = subst (λ (x : ActorsView). c.args.actor.0 < length x.list) (sym c.self.view_is) c.requires.there in
    let at : slice_get i.items.items c.args.actor.0 ≡ Some k = here i.items.items c.args.actor.0 k within c.index_mut-item.ensures.value in
    mark_kept v i.free c.set.new.self c.args.actor.0 c.give.new.self c.is_ready.result c.is_free-free.result c.index.result.now c.self.invariant within c.index.ensures c.is_ready.ensures c.is_free-free.ensures c.set.ensures

pub returns : goal.returns
returns g c = λ l act e f.
    let i = c.self.inside in
    let v : ActorsView = record { list = i.items.items; out = i.out.items } in
    let k : ActorView = c.index_mut-item.result.now in
    let within : c.args.actor.0 < length i.items.items = subst (λ (x : ActorsView). c.args.actor.0 < length x.list) (sym c.self.view_is) c.requires.there in
    let at : slice_get i.items.items c.args.actor.0 ≡ Some k = here i.items.items c.args.actor.0 k within c.index_mut-item.ensures.value in
    let same : k ≡ l = only_one i.items.items c.args.actor.0 k l at (subst (λ (x : ActorsView). slice_get x.list c.args.actor.0 ≡ Some l) (sym c.self.view_is) e) in
    let step_is : step c.args.version.now c.args.actor k.body ≡ outer act = subst (λ (x : ActorView). step c.args.version.now c.args.actor x.body ≡ outer act) (sym same) f in
    put_view (view_after_steps (reply_body act (Ok c.args.value) l.body)) v c.args.self.now c.args.actor.0 k c.give.new.self c.self.view_is at (c.give.ensures act step_is ∙ ap (λ (x : ActorView). view_after_steps (reply_body act (Ok c.args.value) x.body) k) same)

pub index_mut-item-requires : goal.index_mut-item-requires
index_mut-item-requires g c =
    let i = c.self.inside in
    let within : c.args.actor.0 < length i.items.items = subst (λ (x : ActorsView). c.args.actor.0 < length x.list) (sym c.self.view_is) c.requires.there in
    omega (arith, within, i.items.ok.0)

pub give-requires-clause-fits : goal.give-requires-clause-fits
give-requires-clause-fits g c =
    let i = c.self.inside in
    let k : ActorView = c.index_mut-item.result.now in
    let within : c.args.actor.0 < length i.items.items = subst (λ (x : ActorsView). c.args.actor.0 < length x.list) (sym c.self.view_is) c.requires.there in
    let at : slice_get i.items.items c.args.actor.0 ≡ Some k = here i.items.items c.args.actor.0 k within c.index_mut-item.ensures.value in
    c.requires.fits k (subst (λ (x : ActorsView). slice_get x.list c.args.actor.0 ≡ Some k) c.self.view_is at)

pub give-requires-clause-act : goal.give-requires-clause-act
give-requires-clause-act g c =
    let i = c.self.inside in
    let k : ActorView = c.index_mut-item.result.now in
    let within : c.args.actor.0 < length i.items.items = subst (λ (x : ActorsView). c.args.actor.0 < length x.list) (sym c.self.view_is) c.requires.there in
    let at : slice_get i.items.items c.args.actor.0 ≡ Some k = here i.items.items c.args.actor.0 k within c.index_mut-item.ensures.value in
    c.requires.act k (subst (λ (x : ActorsView). slice_get x.list c.args.actor.0 ≡ Some k) c.self.view_is at)

pub index-requires : goal.index-requires
index-requires g c =
    let i = c.self.inside in
    let v : ActorsView = record { list = i.items.items; out = i.out.items } in
    let within : c.args.actor.0 < length i.items.items = subst (λ (x : ActorsView). c.args.actor.0 < length x.list) (sym c.self.view_is) c.requires.there in
    let kept : AreActors v i.free = c.self.invariant in
    omega (arith, kept.each_count, within)

pub set-requires : goal.set-requires
set-requires g c =
    let i = c.self.inside in
    let v : ActorsView = record { list = i.items.items; out = i.out.items } in
    let within : c.args.actor.0 < length i.items.items = subst (λ (x : ActorsView). c.args.actor.0 < length x.list) (sym c.self.view_is) c.requires.there in
    let kept : AreActors v i.free = c.self.invariant in
    omega (arith, kept.each_flag, within)
