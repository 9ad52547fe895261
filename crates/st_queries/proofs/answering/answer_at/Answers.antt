use Rattle.std.proofs.Common.{sym, subst, rules, ap, ◌∙◌}
use Rattle.st_queries.specs.Answers.{IsAnswer, source_told, told_of}
use Rattle.st_queries.specs.Snapshots.{Snapshot}
use Rattle.st_queries.proofs.Found.{source_answers}
use Rattle.st_queries.proofs.answering.answer_at.Goals as goal

pub returns-in_ok-selector-in-Source : goal.returns-in_ok-selector-in-Source
returns-in_ok-selector-in-Source c =
    let s = c.args.snapshot.now in
    subst (λ q. IsAnswer (told_of s c.args.host c.args.offsets.now q) c.source.result) (sym c.in-Source.is) (source_answers s.edits _ _ c.in_ok-class-in-Source.class c.in_ok-selector-in-Source.selector c.source.result (search rules) (search rules)
    (subst (λ es. IsAnswer (source_told es c.in_ok-class-in-Source.class c.in_ok-selector-in-Source.selector) c.source.result) (c.shown-version.ensures ∙ ap (λ (v : Snapshot). v.edits) c.snapshot.view_is) c.source.ensures))
