use Rattle.std.proofs.Common.{◌≡◌, drop}
use Rattle.st_wire.proofs.Lists.{after}
use Rattle.st_file.specs.Meanings.{all_of}
use Rattle.st_file.proofs.resolving.resolve_all.Given as goal

abbrev pub invariant-loop-text : goal.invariant-loop-text
invariant-loop-text g l = all_of (g.T.Resolve.meaning l.names l.version) l.texts ≡ after l.found.items (all_of (g.T.Resolve.meaning l.names l.version) (drop l.text-index l.texts))
