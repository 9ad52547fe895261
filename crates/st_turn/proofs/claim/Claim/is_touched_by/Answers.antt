use Rattle.std.proofs.Common.{sym, subst, ◌≡◌, ◌∙◌, false}
use Rattle.st_classes.specs.declared.edits.Edit.{Edit}
use Rattle.st_turn.specs.Claims.{used}
use Rattle.st_turn.specs.Surviving.{touches_used}
use Rattle.st_turn.proofs.UsedSelectors.{defines_none, reparents_all}
use Rattle.st_turn.proofs.claim.Claim.is_touched_by.Goals as goal

pub returns-in-Define : goal.returns-in-Define
returns-in-Define c = subst (λ (e : Edit). false ≡ touches_used c.args.self.now e) (sym c.in-Define.is) (sym (defines_none c.in-Define.name c.in-Define.parent c.in-Define.slots (used c.args.self.now)))

pub returns-in-Reparent : goal.returns-in-Reparent
returns-in-Reparent c = rw c.in-Reparent.is (c.is_used-in-Reparent.ensures ∙ reparents_all c.in-Reparent.class c.in-Reparent.parent (used c.args.self.now))
