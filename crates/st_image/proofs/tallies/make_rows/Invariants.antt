use Rattle.std.proofs.Common.{◌≡◌, ◌+◌, ◌-◌, ℕ, [], vec_len}
use Rattle.std.specs.List.{slice_index_or}
use Rattle.st_image.proofs.tallies.make_rows.Given as goal

abbrev pub invariant-rows : goal.invariant-rows
invariant-rows l = (i : ℕ) → slice_index_or l.rows.items i [] ≡ slice_index_or l.fn.rows.items i []

abbrev pub decreases-rows : goal.decreases-rows
decreases-rows l = l.method + 1 - vec_len l.rows
