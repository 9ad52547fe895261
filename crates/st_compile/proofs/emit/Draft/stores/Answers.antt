use Rattle.std.proofs.Common.{map, arith}
use Rattle.st_compile.specs.DraftViews.{line_of}
use Rattle.st_compile.proofs.EmittingRows.{stores_step}
use Rattle.st_compile.proofs.emit.Draft.stores.Goals as goal

pub loop-last-preserved : goal.loop-last-preserved
loop-last-preserved c = record {
  code = stores_step c.args.depth _ (map line_of c.loop-last.self.lines.items) _ c.loop-last.left.now c.in-Some.rest.now c.in-Some.last.now c.in-Some.ensures.cases.0 c.in_ok-put.ensures.code c.loop-last.invariant.code;
  longer = omega (arith, c.in_ok-put.ensures.longer);
}
