use Rattle.st_journal.proofs.Refusing.{define_refused}
use Rattle.st_journal.proofs.redoing.redo_by_kind.Goals as goal

pub returns-in-Define-clause-err : goal.returns-in-Define-clause-err
returns-in-Define-clause-err g c =
    define_refused c.args.image.now c.args.entry.now c.in-Define.name c.as_slice-in-Define.result.now c.in-Define.parent c.in-Define.slots c.as_slice-in-Define-2.result.now c.define.result
    c.in-Define.is c.as_slice-in-Define.ensures c.as_slice-in-Define-2.ensures c.define.ensures.err
