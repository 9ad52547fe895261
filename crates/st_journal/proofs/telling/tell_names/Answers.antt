use Rattle.std.proofs.Common.{◌∙◌, arith}
use Rattle.st_journal.proofs.Names.{all_told, none_told, step_told}
use Rattle.st_journal.proofs.telling.tell_names.Goals as goal

pub loop-place-init : goal.loop-place-init
loop-place-init c = c.new-entries.ensures.items ∙ none_told c.args.names.now c.args.known

pub loop-place-preserved : goal.loop-place-preserved
loop-place-preserved c = step_told c.args.names.now c.args.known c.loop-place.place c.loop-place.entries.items _ c.in_ok-copy.copy c.text.result.now c.in_ok-push.ensures.items c.in_ok-copy.ensures c.loop-place.auto.place c.text.ensures.text c.loop-place.invariant

pub returns : goal.returns
returns c = c.loop-place.invariant ∙ all_told c.args.names.now c.args.known c.loop-place.place (omega (arith, c.loop-place-test.false, c.len-place-end.ensures))
