use Rattle.std.proofs.Common.{◌≡◌, ℕ, ◌+◌, ◌%◌, ◌^◌, ◌∙◌, sym, ap, List, Some, None}
use Rattle.st_classes.specs.declared.edits.Edit.{Edit}
use Rattle.st_classes.specs.Classes.{chain, parent}
use Rattle.st_classes.specs.Walks.{own}
use Rattle.st_guard.specs.RowsRead.{rows_walked}
use Rattle.st_guard.proofs.ChainWalks.{walk_above, above_is_class, above_is_shorter, count_on}
use Rattle.st_guard.proofs.walking.walk.Goals as goal

pub up-smaller : goal.up-smaller
up-smaller g c = above_is_shorter (g.R.ClassRows.edits c.args.rows.now) c.up.at c.in-Some-parent.up c.known.ensures.lawful (ap (λ (es : List Edit). parent es c.up.at) (sym c.up.invariant.0) ∙ (sym c.read-row.ensures.parent ∙ c.in-Some-parent.is))

pub up-preserved : goal.up-preserved
up-preserved g c =
    let edits = g.R.ClassRows.edits c.args.rows.now in
    let here : own edits c.up.at c.args.selector ≡ None = ap (λ (es : List Edit). own es c.up.at c.args.selector) (sym c.up.invariant.0) ∙ (sym c.read-row.ensures.own ∙ c.in_default.is) in
    let up : parent edits c.up.at ≡ Some c.in-Some-parent.up = ap (λ (es : List Edit). parent es c.up.at) (sym c.up.invariant.0) ∙ (sym c.read-row.ensures.parent ∙ c.in-Some-parent.is) in
    let w = walk_above edits c.up.at c.in-Some-parent.up c.args.selector c.known.ensures.lawful here up in (
      c.read-row.ensures.edits ∙ c.up.invariant.0,
      above_is_class edits c.up.at c.in-Some-parent.up c.known.ensures.lawful up,
      w.0 ∙ c.up.invariant.2,
      ap (λ (n : ℕ). (n + rows_walked edits (chain edits c.in-Some-parent.up) c.args.selector) % 2 ^ 64) c.read-row.ensures.reads ∙ (count_on (g.R.ClassRows.reads c.up.rows) 1 (rows_walked edits (chain edits c.in-Some-parent.up) c.args.selector) ∙ (ap (λ (n : ℕ). (g.R.ClassRows.reads c.up.rows + n) % 2 ^ 64) (sym w.1) ∙ c.up.invariant.3)),
    )
