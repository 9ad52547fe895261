use Rattle.std.proofs.Common.{arith, [], length, Result, Ok, Err}
use Rattle.std.specs.Prelude.{OnOk}
use Rattle.std.specs.List.{slice_index_or}
use Rattle.std.proofs.lemmas.Bool.{lt-ltb}
use Rattle.st_image.proofs.tallies.Tallies.make_place.Goals as goal

on_ok : {T E A B : Type 0} (r : Result T E) → OnOk r A → (A → B) → OnOk r B
on_ok (Ok x) a f = f a
on_ok (Err e) a f = tt

pub returns-clause-ok : goal.returns-clause-ok
returns-clause-ok c = on_ok c.make_row.result c.make_row.ensures.ok (λ long. lt-ltb c.args.site.place (length (slice_index_or c.make_row.new.self c.args.site.method.0 [])) (omega (arith, long)))
