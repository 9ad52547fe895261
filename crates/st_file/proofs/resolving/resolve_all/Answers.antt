use Rattle.std.proofs.Common.{inl, inr}
use Rattle.st_file.proofs.AllOf.{all-more, all-none}
use Rattle.st_file.proofs.resolving.resolve_all.Goals as goal

pub returns-in-Err : goal.returns-in-Err
returns-in-Err g c = elim c.in-Err.ensures [
  | inl e ↦ inl e
  | inr e ↦ inr (e.0, all-none (g.T.Resolve.meaning c.args.names.now c.args.version.now) c.args.texts.now c.loop-text.text-index c.text-item.result c.loop-text.found.items c.loop-text-test.true c.text-item.is e.1 c.loop-text.invariant)
]

pub loop-text-preserved : goal.loop-text-preserved
loop-text-preserved g c = all-more (g.T.Resolve.meaning c.args.names.now c.args.version.now) c.args.texts.now c.loop-text.text-index c.text-item.result c.in-Ok.one c.loop-text.found.items c.push.new.self.items c.loop-text-test.true c.text-item.is c.in-Ok.ensures c.in-Ok-push.ensures.items c.loop-text.invariant
