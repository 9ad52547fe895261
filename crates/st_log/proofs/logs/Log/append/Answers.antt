use Rattle.std.proofs.Common.{arith}
use Rattle.st_log.specs.Lines.{whole_lines, IsBeforeOrAfter}
use Rattle.st_log.proofs.Failing.{on_err}
use Rattle.st_log.proofs.Moments.{weaker, both}
use Rattle.st_log.proofs.Texts.{whole_is_whole}
use Rattle.st_log.proofs.Appending.{staged_crash, staged_is, gate_crash, gate_is, lines_are, ready}
use Rattle.st_log.proofs.logs.Log.append.Goals as goal

pub returns-in_err-write_synced-clause-any_moment :
    goal.returns-in_err-write_synced-clause-any_moment
returns-in_err-write_synced-clause-any_moment g c =
    let file = g.D.Device.contents c.args.self.now.device in
    let s = c.requires.ready in
    weaker g.D.Device.moment g.D.Device.left_since c.args.self.now.device c.write_synced.new.device _ (IsBeforeOrAfter (whole_lines file) c.args.batch.now) c.write_synced.ensures.any_moment
    (staged_crash file (whole_lines file) c.args.batch.now c.args.self.now.end _ _ (whole_is_whole file) s.file s.end (omega arith))

pub returns-in_err-write_synced-2-clause-any_moment :
    goal.returns-in_err-write_synced-2-clause-any_moment
returns-in_err-write_synced-2-clause-any_moment g c =
    let file = g.D.Device.contents c.args.self.now.device in
    let s = c.requires.ready in
    let P = IsBeforeOrAfter (whole_lines file) c.args.batch.now in
    let first = weaker g.D.Device.moment g.D.Device.left_since c.args.self.now.device c.write_synced.new.device _ P c.write_synced.ensures.any_moment
    (staged_crash file (whole_lines file) c.args.batch.now c.args.self.now.end _ _ (whole_is_whole file) s.file s.end (omega arith)) in
    let is = staged_is file (whole_lines file) c.args.batch.now _ c.args.self.now.end (whole_is_whole file) s.file s.end c.in_ok-write_synced.ensures.written in
    let second = weaker g.D.Device.moment g.D.Device.left_since c.write_synced.new.device c.write_synced-2.new.device _ P c.write_synced-2.ensures.any_moment
    (gate_crash _ (whole_lines file) c.args.batch.now c.args.self.now.end (whole_is_whole file) c.requires.batch is s.end) in
    both g.D.Device.moment g.D.Device.left_since _ _ _ P first second

pub returns-clause-any_moment : goal.returns-clause-any_moment
returns-clause-any_moment g c =
    let file = g.D.Device.contents c.args.self.now.device in
    let s = c.requires.ready in
    let P = IsBeforeOrAfter (whole_lines file) c.args.batch.now in
    let first = weaker g.D.Device.moment g.D.Device.left_since c.args.self.now.device c.write_synced.new.device _ P c.write_synced.ensures.any_moment
    (staged_crash file (whole_lines file) c.args.batch.now c.args.self.now.end _ _ (whole_is_whole file) s.file s.end (omega arith)) in
    let is = staged_is file (whole_lines file) c.args.batch.now _ c.args.self.now.end (whole_is_whole file) s.file s.end c.in_ok-write_synced.ensures.written in
    let second = weaker g.D.Device.moment g.D.Device.left_since c.write_synced.new.device c.write_synced-2.new.device _ P c.write_synced-2.ensures.any_moment
    (gate_crash _ (whole_lines file) c.args.batch.now c.args.self.now.end (whole_is_whole file) c.requires.batch is s.end) in
    both g.D.Device.moment g.D.Device.left_since _ _ _ P first second

pub returns-in_err-write_synced-clause-torn : goal.returns-in_err-write_synced-clause-torn
returns-in_err-write_synced-clause-torn g c =
    let file = g.D.Device.contents c.args.self.now.device in
    let s = c.requires.ready in
    on_err c.from_residual.result (staged_crash file (whole_lines file) c.args.batch.now c.args.self.now.end _ _ (whole_is_whole file) s.file s.end (omega arith) _ c.in_err-write_synced.ensures.torn)

pub returns-in_err-write_synced-2-clause-torn : goal.returns-in_err-write_synced-2-clause-torn
returns-in_err-write_synced-2-clause-torn g c =
    let file = g.D.Device.contents c.args.self.now.device in
    let s = c.requires.ready in
    let is = staged_is file (whole_lines file) c.args.batch.now _ c.args.self.now.end (whole_is_whole file) s.file s.end c.in_ok-write_synced.ensures.written in
    on_err c.from_residual-in_err-write_synced-2.result (gate_crash _ (whole_lines file) c.args.batch.now c.args.self.now.end (whole_is_whole file) c.requires.batch is s.end _ c.in_err-write_synced-2.ensures.torn)

pub returns-clause-ready : goal.returns-clause-ready
returns-clause-ready g c =
    let file = g.D.Device.contents c.args.self.now.device in
    let s = c.requires.ready in
    let is = staged_is file (whole_lines file) c.args.batch.now _ c.args.self.now.end (whole_is_whole file) s.file s.end c.in_ok-write_synced.ensures.written in
    let done = gate_is _ (whole_lines file) c.args.batch.now _ c.args.self.now.end (whole_is_whole file) c.requires.batch is s.end c.in_ok-write_synced-2.ensures.written in
    ready g.D.Device.contents g.D.Device.may_leave (record { device = c.write_synced-2.new.device; end = _ }) (whole_lines file) c.args.batch.now c.args.self.now.end (whole_is_whole file) c.requires.batch s.end c.in_ok-write_synced.ensures.fits done (omega arith) c.in_ok-write_synced-2.ensures.durable

pub returns-clause-appended : goal.returns-clause-appended
returns-clause-appended g c =
    let file = g.D.Device.contents c.args.self.now.device in
    let s = c.requires.ready in
    let is = staged_is file (whole_lines file) c.args.batch.now _ c.args.self.now.end (whole_is_whole file) s.file s.end c.in_ok-write_synced.ensures.written in
    let done = gate_is _ (whole_lines file) c.args.batch.now _ c.args.self.now.end (whole_is_whole file) c.requires.batch is s.end c.in_ok-write_synced-2.ensures.written in
    lines_are (whole_lines file) c.args.batch.now _ (whole_is_whole file) done
