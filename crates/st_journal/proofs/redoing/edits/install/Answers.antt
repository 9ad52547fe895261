use Rattle.std.proofs.Common.{◌∙◌, sym}
use Rattle.st_journal.proofs.Installed.{installed_alone, missing_names}
use Rattle.st_journal.proofs.redoing.edits.install.Goals as goal

pub returns-then-behind-before-clause-ok : goal.returns-then-behind-before-clause-ok
returns-then-behind-before-clause-ok g c =
    let h = c.in-Ok.ensures.answers in
    installed_alone _ _ _ _ _ _ (sym c.name_count-behind.ensures ∙ c.if-behind-before.true ∙ c.name_count-before.ensures) c.known.ensures c.known-2.ensures h.1 h.2 h.3

pub returns-else-behind-before-clause-err : goal.returns-else-behind-before-clause-err
returns-else-behind-before-clause-err g c =
    let h = c.in-Ok.ensures.answers in
    missing_names _ _ _ _ _ _ (λ same. c.if-behind-before.false (c.name_count-behind.ensures ∙ same ∙ sym c.name_count-before.ensures)) h.1 h.3
