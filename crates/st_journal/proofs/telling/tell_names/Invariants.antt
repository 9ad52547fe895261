use Rattle.std.proofs.Common.{◌≡◌}
use Rattle.st_journal.proofs.Names.{told_before}
use Rattle.st_journal.proofs.telling.tell_names.Given as goal

abbrev pub invariant-loop-place : goal.invariant-loop-place
invariant-loop-place l = l.entries.items ≡ told_before l.names l.known l.place
