use Rattle.st_journal.proofs.resolving.edited.Goals as goal

pub returns-in-Define : goal.returns-in-Define
returns-in-Define c = rw c.in-Define.is c.define.ensures

pub returns-in-Remove : goal.returns-in-Remove
returns-in-Remove c = rw c.in-Remove.is c.remove.ensures

pub returns-in-Reparent : goal.returns-in-Reparent
returns-in-Reparent c = rw c.in-Reparent.is c.reparent.ensures
