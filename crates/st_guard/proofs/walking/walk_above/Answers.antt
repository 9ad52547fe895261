use Rattle.std.proofs.Common.{ℕ, ◌+◌, ◌%◌, ◌^◌, ◌∙◌, sym, ap, ap₂, List, Option}
use Rattle.st_classes.specs.declared.edits.Edit.{Edit}
use Rattle.st_classes.specs.declared.values.ClassId.{ClassId}
use Rattle.st_classes.specs.Classes.{chain}
use Rattle.st_classes.specs.Walks.{walk, walk_from}
use Rattle.st_guard.specs.RowsRead.{rows_from, rows_walked}
use Rattle.st_guard.proofs.ChainWalks.{above_is_class, count_on}
use Rattle.st_guard.proofs.walking.walk_above.Goals as goal

pub walk-requires : goal.walk-requires
walk-requires g c =
    rw c.read.ensures.edits (above_is_class (g.R.ClassRows.edits c.args.rows.now) c.args.holder c.in-Some.up c.known.ensures.lawful (sym c.read.ensures.parent ∙ c.in-Some.is))

pub returns-in-Some-clause-found : goal.returns-in-Some-clause-found
returns-in-Some-clause-found g c =
    let edits = g.R.ClassRows.edits c.args.rows.now in
    c.walk.ensures.found ∙ (ap (λ (es : List Edit). walk es c.in-Some.up c.args.selector) c.read.ensures.edits ∙ sym (ap (λ (o : Option ClassId). walk_from edits o c.args.selector) (sym c.read.ensures.parent ∙ c.in-Some.is)))

pub returns-in-Some-clause-reads : goal.returns-in-Some-clause-reads
returns-in-Some-clause-reads g c =
    let edits = g.R.ClassRows.edits c.args.rows.now in
    let up = rows_walked edits (chain edits c.in-Some.up) c.args.selector in
    c.walk.ensures.reads ∙ (ap₂ (λ (n : ℕ) (es : List Edit). (n + rows_walked es (chain es c.in-Some.up) c.args.selector) % 2 ^ 64) c.read.ensures.reads c.read.ensures.edits ∙ (count_on (g.R.ClassRows.reads c.args.rows.now) 1 up ∙ ap (λ (o : Option ClassId). (g.R.ClassRows.reads c.args.rows.now + (1 + rows_from edits o c.args.selector)) % 2 ^ 64) (sym (sym c.read.ensures.parent ∙ c.in-Some.is))))
