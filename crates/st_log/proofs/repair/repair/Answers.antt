use Rattle.std.proofs.Common.{sym, ◌∙◌, ap}
use Rattle.st_log.specs.Lines.{whole_len_from}
use Rattle.st_log.proofs.Recovering.{first_sync, first_read, then_mended}
use Rattle.st_log.proofs.repair.repair.Goals as goal

pub returns-in_err-sync-clause-any_moment : goal.returns-in_err-sync-clause-any_moment
returns-in_err-sync-clause-any_moment g c =
    let old = c.args.device.now in
    first_sync g.D.Device.contents g.D.Device.may_leave g.D.Device.moment g.D.Device.left_since old c.sync.new.self (g.met.D.Device.only_now old) c.sync.ensures.time c.sync.ensures.crash

pub returns-in_err-bytes-clause-any_moment : goal.returns-in_err-bytes-clause-any_moment
returns-in_err-bytes-clause-any_moment g c =
    let old = c.args.device.now in
    let synced = first_sync g.D.Device.contents g.D.Device.may_leave g.D.Device.moment g.D.Device.left_since old c.sync.new.self (g.met.D.Device.only_now old) c.sync.ensures.time c.sync.ensures.crash in
    first_read g.D.Device.contents g.D.Device.may_leave g.D.Device.moment g.D.Device.left_since old c.sync.new.self c.read.new.self synced c.in_ok-sync.ensures.durable c.read.ensures.time c.read.ensures.crash

pub mend-requires-clause-end : goal.mend-requires-clause-end
mend-requires-clause-end g c =
    c.whole_len-end.ensures ∙ ap (whole_len_from 0) (c.deref.ensures.value ∙ c.in_ok-bytes.ensures.bytes ∙ sym c.read.ensures.same)

pub returns-in_err-mend-clause-any_moment : goal.returns-in_err-mend-clause-any_moment
returns-in_err-mend-clause-any_moment g c =
    let old = c.args.device.now in
    let synced = first_sync g.D.Device.contents g.D.Device.may_leave g.D.Device.moment g.D.Device.left_since old c.sync.new.self (g.met.D.Device.only_now old) c.sync.ensures.time c.sync.ensures.crash in
    let read = first_read g.D.Device.contents g.D.Device.may_leave g.D.Device.moment g.D.Device.left_since old c.sync.new.self c.read.new.self synced c.in_ok-sync.ensures.durable c.read.ensures.time c.read.ensures.crash in
    then_mended g.D.Device.contents g.D.Device.may_leave g.D.Device.moment g.D.Device.left_since old c.read.new.self c.mend.new.device read (c.read.ensures.same ∙ c.sync.ensures.same) c.mend.ensures.any_moment

pub returns-clause-any_moment : goal.returns-clause-any_moment
returns-clause-any_moment g c =
    let old = c.args.device.now in
    let synced = first_sync g.D.Device.contents g.D.Device.may_leave g.D.Device.moment g.D.Device.left_since old c.sync.new.self (g.met.D.Device.only_now old) c.sync.ensures.time c.sync.ensures.crash in
    let read = first_read g.D.Device.contents g.D.Device.may_leave g.D.Device.moment g.D.Device.left_since old c.sync.new.self c.read.new.self synced c.in_ok-sync.ensures.durable c.read.ensures.time c.read.ensures.crash in
    then_mended g.D.Device.contents g.D.Device.may_leave g.D.Device.moment g.D.Device.left_since old c.read.new.self c.mend.new.device read (c.read.ensures.same ∙ c.sync.ensures.same) c.mend.ensures.any_moment
