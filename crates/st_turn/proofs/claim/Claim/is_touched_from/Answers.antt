use Rattle.std.proofs.Common.{rules, sym, ◌∙◌, ◌≡◌, Some, slice_get}
use Rattle.st_turn.specs.Surviving.{touches_used}
use Rattle.st_turn.proofs.UsedSelectors.{any_here, any_next}
use Rattle.st_turn.proofs.claim.Claim.is_touched_from.Goals as goal

pub returns-then-is_touched_by : goal.returns-then-is_touched_by
returns-then-is_touched_by c =
    let at : slice_get c.args.version.now c.later.place ≡ Some c.in-Some.edit.now = search rules in
    sym (c.later.invariant ∙ any_here (touches_used c.args.self.now) c.args.version.now c.later.place c.in-Some.edit.now at (sym c.is_touched_by.ensures ∙ c.if-is_touched_by.true))

pub later-preserved : goal.later-preserved
later-preserved c =
    let at : slice_get c.args.version.now c.later.place ≡ Some c.in-Some.edit.now = search rules in
    c.later.invariant ∙ any_next (touches_used c.args.self.now) c.args.version.now c.later.place c.in-Some.edit.now at (sym c.is_touched_by.ensures ∙ c.if-is_touched_by.false)
