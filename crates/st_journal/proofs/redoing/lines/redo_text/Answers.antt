use Rattle.std.proofs.Common.{refl, arith}
use Rattle.st_image.proofs.Following.{kept_none}
use Rattle.st_image.specs.Images.{world}
use Rattle.st_journal.proofs.SaidLines.{read_more, read_none, read_stops}
use Rattle.st_journal.proofs.redoing.lines.redo_text.Goals as goal

pub loop-rest-init : goal.loop-rest-init
loop-rest-init g c = record { read = read_none c.args.image.now c.args.text.now; kept = kept_none c.forget.new.self (world c.args.image.now).edits c.forget.ensures.kept; within = omega arith }

pub loop-rest-preserved : goal.loop-rest-preserved
loop-rest-preserved g c =
    let did = c.in-Ok.ensures.ok in
    record {
      read = read_more c.args.image.now c.loop-rest.image c.redo_line.new.image c.args.text.now c.loop-rest.rest.now c.first_line.result.0.now c.first_line.result.1.now c.loop-rest.place did.0
          c.loop-rest.invariant.read c.first_line.ensures.line did.1 did.2 c.known.ensures;
      kept = c.in-Ok.ensures.kept;
      within = omega (arith, c.first_line.ensures.less, c.loop-rest.invariant.within);
    }

pub returns-in-Err-clause-err : goal.returns-in-Err-clause-err
returns-in-Err-clause-err g c =
    read_stops c.args.image.now c.loop-rest.image c.args.text.now c.loop-rest.rest.now c.first_line.result.0.now c.first_line.result.1.now c.loop-rest.place
    (record { place = c.loop-rest.place; error = c.in-Err.error })
    c.loop-rest.invariant.read c.first_line.ensures.line refl c.in-Err.ensures.err
