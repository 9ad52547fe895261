use Rattle.std.proofs.Common.{◌≡◌, Option, Result, Ok, Err, true, sym, subst}
use Rattle.std.specs.Prelude.{OnOk}
use Rattle.std.specs.Option.{IfSome}
use Rattle.st_classes.specs.declared.keys.SiteId.{SiteId}
use Rattle.st_image.specs.Tallies.{has_place}
use Rattle.st_image.proofs.Placing.{places_of}
use Rattle.st_image.proofs.tallies.Tallies.make_room.Goals as goal

on_ok : {T E A B : Type 0} (r : Result T E) → OnOk r A → (A → B) → OnOk r B
on_ok (Ok x) a f = f a
on_ok (Err e) a f = tt

pub returns-in-Some-clause-ok : goal.returns-in-Some-clause-ok
returns-in-Some-clause-ok c =
    on_ok c.make_place.result c.make_place.ensures.ok (λ placed.
    places_of c.make_places.new.self c.make_place.new.self c.sums.result.now c.args.sends.now.items c.args.act c.sums.ensures c.make_place.ensures.keeps c.in_ok-make_places.ensures.ok (subst (λ (o : Option SiteId). IfSome o (λ id. has_place c.make_place.new.self id ≡ true)) (sym c.in-Some.is) placed))

pub returns-in-None-clause-ok : goal.returns-in-None-clause-ok
returns-in-None-clause-ok c =
    places_of c.make_places.new.self c.make_places.new.self c.sums.result.now c.args.sends.now.items c.args.act c.sums.ensures (λ id h. h) c.in_ok-make_places.ensures.ok (subst (λ (o : Option SiteId). IfSome o (λ id. has_place c.make_places.new.self id ≡ true)) (sym c.in-None.is) tt)
