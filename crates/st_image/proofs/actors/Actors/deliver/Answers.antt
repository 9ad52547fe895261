use Rattle.std.proofs.Common.{◌≡◌, ◌<◌, Some, length, slice_get, sym, subst, ap, ◌∙◌, ◌+◌, true, arith}
use Rattle.st_image.specs.ActorViews.{ActorView, ActorsView, is_ready_view, view_with_message, AreActors}
use Rattle.st_image.proofs.FreeOnes.{here, put_view, mark_kept, only_one, ready_taken}
use Rattle.st_image.proofs.actors.Actors.deliver.Goals as goal

pub invariant_of-self : goal.invariant_of-self
invariant_of-self g c =
    let i = c.self.inside in
    let v : ActorsView = record { list = i.items.items; out = i.out.items } in
    let k : ActorView = c.index_mut-item.result.now in
    let within : c.args.actor.0 < length i.items.items = subst (λ (x : ActorsView). c.args.actor.0 < length x.list) (sym c.self.view_is) c.requires.there in
    let at : slice_get i.items.items c.args.actor.0 ≡ Some k = here i.items.items c.args.actor.0 k within c.index_mut-item.ensures.value in
    let ready : is_ready_view c.take_in-count.new.self ≡ true = ap is_ready_view c.take_in-count.ensures.message ∙ ready_taken c.args.message k in
    mark_kept v i.free c.set.new.self c.args.actor.0 c.take_in-count.new.self true c.is_free-free.result c.index.result.now c.self.invariant within c.index.ensures (sym ready) c.is_free-free.ensures c.set.ensures

pub returns-clause-count : goal.returns-clause-count
returns-clause-count g c = λ l e.
    let i = c.self.inside in
    let v : ActorsView = record { list = i.items.items; out = i.out.items } in
    let k : ActorView = c.index_mut-item.result.now in
    let within : c.args.actor.0 < length i.items.items = subst (λ (x : ActorsView). c.args.actor.0 < length x.list) (sym c.self.view_is) c.requires.there in
    let at : slice_get i.items.items c.args.actor.0 ≡ Some k = here i.items.items c.args.actor.0 k within c.index_mut-item.ensures.value in
    let same : k ≡ l = only_one i.items.items c.args.actor.0 k l at (subst (λ (x : ActorsView). slice_get x.list c.args.actor.0 ≡ Some l) (sym c.self.view_is) e) in
    c.take_in-count.ensures.count ∙ ap (λ (x : ActorView). x.accepted + 1) same

pub returns-clause-message : goal.returns-clause-message
returns-clause-message g c =
    let i = c.self.inside in
    let v : ActorsView = record { list = i.items.items; out = i.out.items } in
    let k : ActorView = c.index_mut-item.result.now in
    let within : c.args.actor.0 < length i.items.items = subst (λ (x : ActorsView). c.args.actor.0 < length x.list) (sym c.self.view_is) c.requires.there in
    let at : slice_get i.items.items c.args.actor.0 ≡ Some k = here i.items.items c.args.actor.0 k within c.index_mut-item.ensures.value in
    put_view (view_with_message c.args.message) v c.args.self.now c.args.actor.0 k c.take_in-count.new.self c.self.view_is at c.take_in-count.ensures.message

pub index_mut-item-requires : goal.index_mut-item-requires
index_mut-item-requires g c =
    let i = c.self.inside in
    let within : c.args.actor.0 < length i.items.items = subst (λ (x : ActorsView). c.args.actor.0 < length x.list) (sym c.self.view_is) c.requires.there in
    omega (arith, within, i.items.ok.0)

pub take_in-count-requires-clause-few : goal.take_in-count-requires-clause-few
take_in-count-requires-clause-few g c =
    let i = c.self.inside in
    let k : ActorView = c.index_mut-item.result.now in
    let within : c.args.actor.0 < length i.items.items = subst (λ (x : ActorsView). c.args.actor.0 < length x.list) (sym c.self.view_is) c.requires.there in
    let at : slice_get i.items.items c.args.actor.0 ≡ Some k = here i.items.items c.args.actor.0 k within c.index_mut-item.ensures.value in
    c.requires.few k (subst (λ (x : ActorsView). slice_get x.list c.args.actor.0 ≡ Some k) c.self.view_is at)

pub take_in-count-requires-clause-accepts : goal.take_in-count-requires-clause-accepts
take_in-count-requires-clause-accepts g c =
    let i = c.self.inside in
    let k : ActorView = c.index_mut-item.result.now in
    let within : c.args.actor.0 < length i.items.items = subst (λ (x : ActorsView). c.args.actor.0 < length x.list) (sym c.self.view_is) c.requires.there in
    let at : slice_get i.items.items c.args.actor.0 ≡ Some k = here i.items.items c.args.actor.0 k within c.index_mut-item.ensures.value in
    c.requires.accepts k (subst (λ (x : ActorsView). slice_get x.list c.args.actor.0 ≡ Some k) c.self.view_is at)

pub index-requires : goal.index-requires
index-requires g c =
    let i = c.self.inside in
    let v : ActorsView = record { list = i.items.items; out = i.out.items } in
    let within : c.args.actor.0 < length i.items.items = subst (λ (x : ActorsView). c.args.actor.0 < length x.list) (sym c.self.view_is) c.requires.there in
    let kept : AreActors v i.free = c.self.invariant in
    omega (arith, kept.each_count, within)

pub set-requires : goal.set-requires
set-requires g c =
    let i = c.self.inside in
    let v : ActorsView = record { list = i.items.items; out = i.out.items } in
    let within : c.args.actor.0 < length i.items.items = subst (λ (x : ActorsView). c.args.actor.0 < length x.list) (sym c.self.view_is) c.requires.there in
    let kept : AreActors v i.free = c.self.invariant in
    omega (arith, kept.each_flag, within)
