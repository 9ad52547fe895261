use Rattle.std.proofs.Common.{◌≡◌, true, rules}
use Rattle.st_journal.specs.FileDevices.{first_bytes}
use Rattle.st_journal.proofs.FileChanges.{adds_none, elapses_to}
use Rattle.st_journal.proofs.files.FileDeviceDevice.sync.Goals as goal

pub returns-then-not-is_done-clause-time : goal.returns-then-not-is_done-clause-time
returns-then-not-is_done-clause-time g c =
    elapses_to (first_bytes c.args.self.now.opened.items) c.args.self.now.changes.items c.and-self.result.items _ c.and-self.ensures

pub returns-clause-crash : goal.returns-clause-crash
returns-clause-crash g c =
    let was = c.args.self.now in
    let done : c.sync-is_done.result ≡ true = search rules in
    adds_none (first_bytes was.opened.items) was.changes.items c.and-self.result.items c.sync-is_done.result c.and-self.ensures done (was.none_failed c.if-self.false) was.begin_within

pub returns-clause-time : goal.returns-clause-time
returns-clause-time g c =
    elapses_to (first_bytes c.args.self.now.opened.items) c.args.self.now.changes.items c.and-self.result.items _ c.and-self.ensures
