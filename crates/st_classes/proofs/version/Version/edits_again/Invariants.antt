use Rattle.std.proofs.Common.{◌≡◌, take}
use Rattle.st_classes.proofs.version.Version.edits_again.Given as goal

abbrev pub invariant-loop-edit : goal.invariant-loop-edit
invariant-loop-edit l = l.edits.items ≡ take l.edit-index l.edit-items
