use Rattle.std.proofs.Common.{◌≡◌, ◌+◌, ◌%◌, ◌^◌, length, true}
use Rattle.st_classes.specs.Classes.{chain, is_class}
use Rattle.st_classes.specs.Walks.{walk}
use Rattle.st_guard.specs.RowsRead.{rows_walked}
use Rattle.st_guard.proofs.walking.walk.Given as goal

abbrev pub invariant-up : goal.invariant-up
invariant-up g l =
    let edits = g.R.ClassRows.edits l.fn.rows in
    (g.R.ClassRows.edits l.rows ≡ edits) × (is_class edits l.at ≡ true) × (walk edits l.at l.selector ≡ walk edits l.fn.class l.selector) × ((g.R.ClassRows.reads l.rows + rows_walked edits (chain edits l.at) l.selector) % 2 ^ 64 ≡ (g.R.ClassRows.reads l.fn.rows + rows_walked edits (chain edits l.fn.class) l.selector) % 2 ^ 64)

abbrev pub decreases-up : goal.decreases-up
decreases-up g l = length (chain (g.R.ClassRows.edits l.fn.rows) l.at)
