use Rattle.std.proofs.Common.{◌≡◌, ◌<◌, Some, length, slice_get, sym, subst, ap, ◌∙◌, false, Bool, true}
use Rattle.std.specs.Prelude.{◌||◌, ◌==◌, not}
use Rattle.st_turn.specs.Idle.{is_idle}
use Rattle.st_image.specs.ActorViews.{ActorView, ActorsView, is_ready_view}
use Rattle.st_image.proofs.FreeOnes.{here, put_view, only_one, same_free}
use Rattle.st_image.proofs.actors.Actors.put_back.Goals as goal

busy_ready : (k : ActorView) → is_idle k.body.phase ≡ false → is_ready_view k ≡ true
busy_ready k e = ap (λ (t : Bool). not t || not (length k.pending == 0)) e

pub invariant_of-self : goal.invariant_of-self
invariant_of-self g c =
    let i = c.self.inside in
    let v : ActorsView = record { list = i.items.items; out = i.out.items } in
    let k : ActorView = c.index_mut-item.result.now in
    let within : c.args.actor.0 < length i.items.items = subst (λ (x : ActorsView). c.args.actor.0 < length x.list) (sym c.self.view_is) c.requires.there in
    let at : slice_get i.items.items c.args.actor.0 ≡ Some k = here i.items.items c.args.actor.0 k within c.index_mut-item.ensures.value in
    let busy : is_idle k.body.phase ≡ false = c.requires.busy k (subst (λ (x : ActorsView). slice_get x.list c.args.actor.0 ≡ Some k) c.self.view_is at) in
    let back : is_ready_view c.put_back.new.self ≡ true = ap is_ready_view c.put_back.ensures.back ∙ busy_ready (record k { body = c.args.body }) c.requires.still in
    same_free v i.free c.args.actor.0 k c.put_back.new.self c.self.invariant at (back ∙ sym (busy_ready k busy))

pub returns-clause-had : goal.returns-clause-had
returns-clause-had g c = λ l e.
    let i = c.self.inside in
    let v : ActorsView = record { list = i.items.items; out = i.out.items } in
    let k : ActorView = c.index_mut-item.result.now in
    let within : c.args.actor.0 < length i.items.items = subst (λ (x : ActorsView). c.args.actor.0 < length x.list) (sym c.self.view_is) c.requires.there in
    let at : slice_get i.items.items c.args.actor.0 ≡ Some k = here i.items.items c.args.actor.0 k within c.index_mut-item.ensures.value in
    let same : k ≡ l = only_one i.items.items c.args.actor.0 k l at (subst (λ (x : ActorsView). slice_get x.list c.args.actor.0 ≡ Some l) (sym c.self.view_is) e) in
    c.put_back.ensures.had ∙ ap (λ (x : ActorView). x.body) same

pub returns-clause-back : goal.returns-clause-back
returns-clause-back g c =
    let i = c.self.inside in
    let v : ActorsView = record { list = i.items.items; out = i.out.items } in
    let k : ActorView = c.index_mut-item.result.now in
    let within : c.args.actor.0 < length i.items.items = subst (λ (x : ActorsView). c.args.actor.0 < length x.list) (sym c.self.view_is) c.requires.there in
    let at : slice_get i.items.items c.args.actor.0 ≡ Some k = here i.items.items c.args.actor.0 k within c.index_mut-item.ensures.value in
    put_view (λ (x : ActorView). record x { body = c.args.body }) v c.args.self.now c.args.actor.0 k c.put_back.new.self c.self.view_is at c.put_back.ensures.back

pub put_back-requires : goal.put_back-requires
put_back-requires g c =
    let i = c.self.inside in
    let k : ActorView = c.index_mut-item.result.now in
    let within : c.args.actor.0 < length i.items.items = subst (λ (x : ActorsView). c.args.actor.0 < length x.list) (sym c.self.view_is) c.requires.there in
    let at : slice_get i.items.items c.args.actor.0 ≡ Some k = here i.items.items c.args.actor.0 k within c.index_mut-item.ensures.value in
    c.requires.busy k (subst (λ (x : ActorsView). slice_get x.list c.args.actor.0 ≡ Some k) c.self.view_is at)
