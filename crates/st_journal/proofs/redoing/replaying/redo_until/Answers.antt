use Rattle.std.proofs.Common.{refl, sym, ◌∙◌, arith}
use Rattle.st_journal.proofs.SaidLines.{read_left, read_next, read_none, read_stops, read_to_end}
use Rattle.st_journal.proofs.redoing.replaying.redo_until.Goals as goal

pub loop-rest-init : goal.loop-rest-init
loop-rest-init g c = record { read = read_none c.args.image.now c.args.text.now; kept = c.requires; within = omega arith }

pub loop-rest-preserved : goal.loop-rest-preserved
loop-rest-preserved g c = record {
  read = read_next c.args.image.now c.loop-rest.image c.redo_unless.new.image c.args.text.now c.loop-rest.rest.now c.first_line.result.0.now c.first_line.result.1.now c.loop-rest.done
      c.in-Ok.next c.loop-rest.invariant.read c.first_line.ensures.line (sym c.is_some.ensures ∙ c.if-is_some.false) c.in-Ok.ensures.ok c.known.ensures;
  kept = c.in-Ok.ensures.kept;
  within = omega (arith, c.first_line.ensures.less, c.loop-rest.invariant.within);
}

pub returns-in-Err-clause-err : goal.returns-in-Err-clause-err
returns-in-Err-clause-err g c =
    read_stops c.args.image.now c.loop-rest.image c.args.text.now c.loop-rest.rest.now c.first_line.result.0.now c.first_line.result.1.now c.loop-rest.done
    (record { place = c.loop-rest.done; error = c.in-Err.error })
    c.loop-rest.invariant.read c.first_line.ensures.line refl c.in-Err.ensures.err

pub returns-then-is_some-clause-ok : goal.returns-then-is_some-clause-ok
returns-then-is_some-clause-ok g c =
    read_left c.args.image.now c.loop-rest.image c.redo_unless.new.image c.args.text.now c.loop-rest.rest.now c.first_line.result.0.now c.first_line.result.1.now c.loop-rest.done c.in-Ok.next
    c.loop-rest.invariant.read c.first_line.ensures.line (sym c.is_some.ensures ∙ c.if-is_some.true) c.in-Ok.ensures.ok
