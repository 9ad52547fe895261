use Rattle.std.proofs.Common.{List, sym, subst}
use Rattle.st_classes.specs.declared.edits.Edit.{Edit}
use Rattle.st_turn.specs.BodyFits.{FitsSome}
use Rattle.st_script_tests.proofs.steps.plain_turn.Goals as goal

pub run_plainly-requires : goal.run_plainly-requires
run_plainly-requires c =
    let fits = rw c.in-Some.is at c.in_ok-body.ensures in
    subst (λ (es : List Edit). FitsSome es (record { 0 = 0 }) c.in-Some.body) (sym c.version.ensures) fits
