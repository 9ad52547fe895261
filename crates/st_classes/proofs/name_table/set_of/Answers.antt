use Rattle.st_classes.proofs.Naming.{borrowed-next}
use Rattle.st_classes.proofs.name_table.set_of.Goals as goal

pub loop-text-preserved : goal.loop-text-preserved
loop-text-preserved c = borrowed-next c.args.texts.now c.loop-text.text-index _ _ _ c.requires c.loop-text-test.true c.loop-text.invariant c.in_ok-add.ensures.ok
