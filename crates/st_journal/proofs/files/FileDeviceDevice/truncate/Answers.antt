use Rattle.st_journal.specs.FileDevices.{first_bytes}
use Rattle.st_journal.proofs.FileChanges.{elapses_to}
use Rattle.st_journal.proofs.files.FileDeviceDevice.truncate.Goals as goal

pub returns-then-not-is_done-clause-time : goal.returns-then-not-is_done-clause-time
returns-then-not-is_done-clause-time g c =
    elapses_to (first_bytes c.args.self.now.opened.items) c.args.self.now.changes.items c.and-self.result.items _ c.and-self.ensures

pub returns-clause-time : goal.returns-clause-time
returns-clause-time g c =
    elapses_to (first_bytes c.args.self.now.opened.items) c.args.self.now.changes.items c.and-self.result.items _ c.and-self.ensures
