use Rattle.std.proofs.Common.{◌≡◌, ◌++◌, length}
use Rattle.std.specs.Prelude.{replicate}
use Rattle.std.specs.Vec.Iter.{into_iter_items, into_iter_len}
use Rattle.st_image.specs.ActorViews.{ActorsView}
use Rattle.st_image.proofs.Bases.{kept_parts}
use Rattle.st_image.proofs.actors.Actors.from_parts.Given as goal

abbrev pub invariant-loop-part : goal.invariant-loop-part
invariant-loop-part g l = record {
  parts : l.yielded ++ into_iter_items l.part-iterator ≡ into_iter_items l.initial.part-iterator;
  actors : l.actors ≡ (let v : ActorsView = record { list = kept_parts l.yielded; out = replicate (length l.yielded) 0 } in v);
  rest : into_iter_len l.part-iterator ≡ length (into_iter_items l.part-iterator);
}
