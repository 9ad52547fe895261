use Rattle.std.proofs.Common.{add-one, drop-cons, arith}
use Rattle.std.proofs.lemmas.List.{drop_all}
use Rattle.st_file.proofs.TextWriting.{puts_array, puts_item}
use Rattle.st_file.proofs.saving.lists.each.Goals as goal

pub loop-item-init : goal.loop-item-init
loop-item-init g c = λ d w more. more

pub loop-item-preserved : goal.loop-item-preserved
loop-item-preserved g c = λ d w more.
    c.loop-item.invariant d w (rw (drop-cons c.args.list.now c.loop-item.item-index c.item-item.result (omega arith), ← c.item-item.is) (puts_item c.loop-item.later _ _ c.comma.ensures c.write.ensures (rw (add-one) at more)))

pub returns : goal.returns
returns g c = puts_array _ c.put.ensures (c.loop-item.invariant _ _ (rw (drop_all c.loop-item.item-index c.args.list.now (omega (arith, c.loop-item-test.false))) c.put-2.ensures))
