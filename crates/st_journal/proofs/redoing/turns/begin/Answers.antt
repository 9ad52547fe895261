use Rattle.std.proofs.Common.{◌∙◌, rules, sym}
use Rattle.st_journal.proofs.Turns.{begins_again}
use Rattle.st_journal.proofs.redoing.turns.begin.Goals as goal

-- the answer names no release: without one there is none to be found
pub returns-in-Ok-clause-ok : goal.returns-in-Ok-clause-ok
returns-in-Ok-clause-ok g c =
    begins_again _ _ _ _ _ c.known.ensures c.known-in-Ok.ensures (sym c.is_idle_at-is_idle.ensures ∙ c.if-not-is_idle.false) c.in-Ok.ensures.0.1 (search rules)
