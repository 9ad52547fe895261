use Rattle.std.proofs.Common.{◌++◌, ◌≤◌, [], length, arith, refl, inl, inr}
use Rattle.st_wire.proofs.Parts.{kept_appends}
use Rattle.st_session.proofs.Stopping.{kept_nothing, held_still}
use Rattle.st_session.proofs.answering.take_turn.Goals as goal

pub returns-in-Ok-answer_whole-clause-written : goal.returns-in-Ok-answer_whole-clause-written
returns-in-Ok-answer_whole-clause-written g c p h =
    let read = c.in-Ok.ensures.piece p h in
    let some : 1 ≤ length read.0 = omega (arith, c.in-Ok.field-0-test.1, read.3.0) in
    let a = c.in-Ok-answer_whole.ensures.written (p ++ read.0) read.3.1 in
    (read.0, a.0, read.1, read.2, kept_appends _ _ _ _ c.in-Ok.ensures.keeps a.1, (c.in-Ok.ensures.unfailed, some, a.2))

pub returns-in-Err-answer_whole-clause-written : goal.returns-in-Err-answer_whole-clause-written
returns-in-Err-answer_whole-clause-written g c p h =
    let read = c.in-Ok.ensures.piece p h in
    let a = c.in-Err-answer_whole.ensures.written (p ++ read.0) read.3.1 in
    (read.0, a.0, read.1, read.2, kept_appends _ _ _ _ c.in-Ok.ensures.keeps a.1, inl (c.in-Ok.ensures.unfailed, a.2))

pub returns-in-Err-clause-written : goal.returns-in-Err-clause-written
returns-in-Err-clause-written g c p h =
    let read = c.in-Err.ensures.piece p h in
    (read.0, [], read.1, read.2, kept_nothing _ _ c.in-Err.ensures.keeps, inr (read.3, refl {a = []}, refl {a = c.args.handler.now}, c.in-Err.ensures.why))

pub returns-in-Ok-eq0-clause-written : goal.returns-in-Ok-eq0-clause-written
returns-in-Ok-eq0-clause-written g c p h =
    let read = c.in-Ok-eq0.ensures.piece p h in
    let still = held_still p read.0 _ c.read_piece.new.unread read.3.0 c.in-Ok-eq0.field-0-test read.3.1 in
    (read.0, [], read.1, read.2, kept_nothing _ _ c.in-Ok-eq0.ensures.keeps, (c.in-Ok-eq0.ensures.unfailed, still.0, refl {a = []}, refl {a = c.args.handler.now}, still.1))
