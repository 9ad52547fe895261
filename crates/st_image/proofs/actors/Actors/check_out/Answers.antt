use Rattle.std.proofs.Common.{arith, ◌≡◌, ◌<◌, Some, List, length, slice_get, sym, subst, ap, ◌∙◌, ℕ, slice_set}
use Rattle.st_image.specs.Worlds.{change_at}
use Rattle.st_image.specs.ClaimsOut.{one_more}
use Rattle.st_image.specs.ActorViews.{ActorView, ActorsView, view_checked_out}
use Rattle.st_image.proofs.Changing.{change_here}
use Rattle.st_image.proofs.FreeOnes.{here, mark_more, put_count}
use Rattle.st_image.proofs.actors.Actors.check_out.Goals as goal

pub invariant_of-self : goal.invariant_of-self
invariant_of-self g c =
    let i = c.self.inside in
    let v : ActorsView = record { list = i.items.items; out = i.out.items } in
    let within : c.args.actor.0 < length i.items.items = subst (λ (x : ActorsView). c.args.actor.0 < length x.list) (sym c.self.view_is) c.requires in
    mark_more v i.free c.set.new.self c.args.actor.0 c.check_out.new.self c.index.result.now c.one_more-out.result c.self.invariant within c.one_more-out.ensures c.set.ensures

pub returns-clause-checked : goal.returns-clause-checked
returns-clause-checked g c =
    let i = c.self.inside in
    let v : ActorsView = record { list = i.items.items; out = i.out.items } in
    let within : c.args.actor.0 < length i.items.items = subst (λ (x : ActorsView). c.args.actor.0 < length x.list) (sym c.self.view_is) c.requires in
    let k : ActorView = c.index_mut-item.result.now in
    let at : slice_get i.items.items c.args.actor.0 ≡ Some k = here i.items.items c.args.actor.0 k within c.index_mut-item.ensures.value in
    let kept : slice_set i.items.items c.args.actor.0 c.check_out.new.self ≡ change_at view_checked_out c.args.actor.0 i.items.items = ap (slice_set i.items.items c.args.actor.0) c.check_out.ensures ∙ sym (change_here view_checked_out c.args.actor.0 i.items.items k at) in
    let out : slice_set i.out.items c.args.actor.0 c.one_more-out.result ≡ change_at one_more c.args.actor.0 i.out.items = put_count one_more i.out.items c.args.actor.0 c.index.result.now c.one_more-out.result (omega (arith, within, c.self.invariant.each_count)) c.index.ensures c.one_more-out.ensures in
    ap (λ (ks : List ActorView). let new : ActorsView = record { list = ks; out = slice_set i.out.items c.args.actor.0 c.one_more-out.result } in new) kept
    ∙ ap (λ (ns : List ℕ). let new : ActorsView = record { list = change_at view_checked_out c.args.actor.0 i.items.items; out = ns } in new) out
    ∙ ap (λ (x : ActorsView). let new : ActorsView = record { list = change_at view_checked_out c.args.actor.0 x.list; out = change_at one_more c.args.actor.0 x.out } in new) c.self.view_is

pub returns-clause-counted : goal.returns-clause-counted
returns-clause-counted g c =
    let i = c.self.inside in
    let within : c.args.actor.0 < length i.items.items = subst (λ (x : ActorsView). c.args.actor.0 < length x.list) (sym c.self.view_is) c.requires in
    subst (λ (x : ActorsView). c.args.actor.0 < length x.out) c.self.view_is (omega (arith, within, c.self.invariant.each_count))
