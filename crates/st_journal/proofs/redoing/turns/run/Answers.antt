use Rattle.std.proofs.Common.{◌∙◌, refl, sym}
use Rattle.st_turn.proofs.ClaimBeginnings.{runs_began}
use Rattle.st_image.proofs.Following.{begins_by, checked_out_edits, kept_claim, kept_of_claim}
use Rattle.st_image.specs.Images.{world}
use Rattle.st_image.specs.declared.history.Item.TheVariants as item
use Rattle.st_journal.proofs.Replayed.{does_beside}
use Rattle.st_journal.proofs.StepsRefused.{steps_refused}
use Rattle.st_journal.proofs.Turns.{ran_alone, ran_beside, ran_fits}
use Rattle.st_journal.proofs.redoing.turns.run.Goals as goal

pub run_unchecked-ran-requires : goal.run_unchecked-ran-requires
run_unchecked-ran-requires g c = kept_claim c.args.image.now c.checkout.new.self c.args.actor c.in-Ok.claim c.args.worker.now c.in-Ok.ensures.0.1 c.requires

pub commit_unchecked-requires-clause-begins : goal.commit_unchecked-requires-clause-begins
commit_unchecked-requires-clause-begins g c =
    (ran_fits c.args.image.now c.checkout.new.self c.args.actor c.in-Ok.claim c.run_unchecked-ran.new.claim c.known.ensures c.known-2.ensures c.in-Ok.ensures (runs_began _ _ _ _ _ _ _ c.run_unchecked-ran.ensures.runs.2)).edits

pub commit_unchecked-requires-clause-body : goal.commit_unchecked-requires-clause-body
commit_unchecked-requires-clause-body g c =
    (ran_fits c.args.image.now c.checkout.new.self c.args.actor c.in-Ok.claim c.run_unchecked-ran.new.claim c.known.ensures c.known-2.ensures c.in-Ok.ensures (runs_began _ _ _ _ _ _ _ c.run_unchecked-ran.ensures.runs.2)).body

pub returns-in-Ok-commit_unchecked-clause-ok : goal.returns-in-Ok-commit_unchecked-clause-ok
returns-in-Ok-commit_unchecked-clause-ok g c =
    let idle = sym c.is_idle_at-is_idle.ensures ∙ c.if-is_idle.false in
    let mine = c.if-not-is_of.ensures refl in
    does_beside _ (item.Ran c.args.actor c.args.steps) _ _ refl tt c.known.ensures c.known-in-Ok-commit_unchecked.ensures
    (ran_alone c.args.image.now c.checkout.new.self c.commit_unchecked.new.self c.args.actor c.run_unchecked-ran.new.claim c.args.steps _ idle c.in-Ok.ensures.0.1.image mine c.if-steps-eq0.false c.in-Ok-commit_unchecked.ensures)
    (ran_beside _ _ _ _ _ c.run_unchecked-ran.new.claim _ _ idle c.in-Ok.ensures.0.1 mine.0 c.in-Ok-commit_unchecked.ensures)

pub returns-in-Err-default-None-clause-err : goal.returns-in-Err-default-None-clause-err
returns-in-Err-default-None-clause-err g c =
    let idle = sym c.is_idle_at-is_idle.ensures ∙ c.if-is_idle.false in
    let mine = c.if-not-is_of.ensures refl in
    let runs = c.run_unchecked-ran.ensures.runs in
    steps_refused c.args.image.now c.checkout.new.self _ c.args.actor _ c.run_unchecked-ran.new.claim c.args.steps _ _ idle c.if-steps-eq0.false c.in-Ok.ensures.0.1 (runs_began _ _ _ _ _ _ _ runs.2) mine.1 c.in-Err-default-None.ensures

pub returns-in-Err-ran-clause-kept : goal.returns-in-Err-ran-clause-kept
returns-in-Err-ran-clause-kept g c =
    let i = c.args.image.now in
    let last = c.run_unchecked-ran.new.claim in
    kept_of_claim c.run_unchecked-ran.new.self last.edits (world i).edits c.run_unchecked-ran.ensures.stands.kept
    (begins_by (world i).edits last.edits (c.run_unchecked-ran.ensures.edits ∙ checked_out_edits i c.checkout.new.self c.args.actor c.in-Ok.claim c.in-Ok.ensures.0.1))
