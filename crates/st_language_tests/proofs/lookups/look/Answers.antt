use Rattle.std.proofs.Common.{sym, subst, List}
use Rattle.st_classes.specs.declared.edits.Edit.{Edit}
use Rattle.st_guard.specs.Moves.{IsAt}
use Rattle.st_language_tests.proofs.lookups.look.Goals as goal

pub lookup-target-requires-clause-at : goal.lookup-target-requires-clause-at
lookup-target-requires-clause-at g c = subst (λ (es : List Edit). IsAt (g.G.Guard.count c.args.caches.now.guard) (g.G.Guard.floor c.args.caches.now.guard) c.args.caches.now.sites c.args.caches.now.recent c.args.caches.now.edits es) (sym c.new-rows.ensures.edits) c.requires.at
