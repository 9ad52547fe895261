use Rattle.std.proofs.Common.{ℕ, List, [], ◌∷◌, sym, ap, ◌∙◌}
use Rattle.std.proofs.lemmas.Result.{err_from_is_err_and}
use Rattle.st_classes.specs.Refusals.{first_of}
use Rattle.st_compile.specs.DraftViews.{line_of}
use Rattle.st_compile.specs.NeededNames.{names_rule}
use Rattle.st_compile.specs.Scopes.{pattern_selector}
use Rattle.st_compile.proofs.Interning.{first-more, first-grows, refused_first}
use Rattle.st_compile.proofs.Mapped.{texts}
use Rattle.st_compile.proofs.Places.{place-append}
use Rattle.st_compile.proofs.resolve.resolve.Goals as goal

pub returns-in_err-number-clause-answers : goal.returns-in_err-number-clause-answers
returns-in_err-number-clause-answers c =
    let p = err_from_is_err_and c.from_residual.result c.from_residual.ensures.1 in
    rw (p.1, p.2) (refused_first c.args.names.now (pattern_selector c.args.pattern.now) (texts line_of c.args.lines.now) c.in_err-number.field-0.0 c.in_err-number.ensures.answers)

pub returns-in_err-code-clause-some : goal.returns-in_err-code-clause-some
returns-in_err-code-clause-some c = first-more c.args.names.now c.pattern_number.new.names c.code_of.new.names (pattern_selector c.args.pattern.now) (texts line_of c.args.lines.now) c.in_ok-number.ensures.names c.in_err-code.ensures.some

pub returns-clause-answers : goal.returns-clause-answers
returns-clause-answers c =
    let g = first-grows c.pattern_number.new.names (texts line_of c.args.lines.now) c.code_of.new.names c.in_ok-code.ensures.some in (
      ap (λ (n : List (List ℕ)). first_of (names_rule n (texts line_of c.args.lines.now) ∷ [])) (sym c.in_ok-number.ensures.names) ∙ c.in_ok-code.ensures.answers.0,
      (rw g.1 (place-append c.pattern_number.new.names g.0 (pattern_selector c.args.pattern.now) c.in_ok-number.number.0 c.in_ok-number.ensures.answers.1), c.in_ok-code.ensures.answers.1),
    )

pub returns-clause-some : goal.returns-clause-some
returns-clause-some c = first-more c.args.names.now c.pattern_number.new.names c.code_of.new.names (pattern_selector c.args.pattern.now) (texts line_of c.args.lines.now) c.in_ok-number.ensures.names c.in_ok-code.ensures.some
