use Rattle.std.proofs.Common.{◌≡◌, ◌≤◌, length, drop}
use Rattle.std.specs.Prelude.{vec_len, vec_capacity}
use Rattle.st_image.specs.GoingOn.{GoesOnIn}
use Rattle.st_script.proofs.Arguments.{ResolvesOn}
use Rattle.st_script.proofs.posting.argument_values.Given as goal

abbrev pub invariant-loop-argument : goal.invariant-loop-argument
invariant-loop-argument g l = record {
  resolves : ResolvesOn g.H.Holder.image_of g.H.Holder.calls l.initial.holder l.initial.mine l.arguments l.values.items l.holder l.mine (drop l.argument-index l.arguments);
  later : GoesOnIn (g.H.Holder.image_of l.initial.holder) (g.H.Holder.image_of l.holder);
  room : length l.arguments ≤ vec_capacity l.values;
  so_many : vec_len l.values ≡ l.argument-index;
}
