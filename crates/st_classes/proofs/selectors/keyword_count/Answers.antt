use Rattle.std.proofs.Common.{◌+◌, ◌<◌, ◌≤◌, length, ◌∙◌, sym, arith}
use Rattle.std.proofs.lemmas.List.{take_rest, length-drop}
use Rattle.std.proofs.lemmas.List.Quantifiers.{position-Some}
use Rattle.st_classes.proofs.Keywords.{count-more, count-stops, count-left}
use Rattle.st_classes.proofs.selectors.keyword_count.Goals as goal

pub returns-then-not-is_identifier : goal.returns-then-not-is_identifier
returns-then-not-is_identifier c = count-stops _ c.loop-end.count _ c.loop-end.invariant.0 c.in-Some.end (sym c.colon.ensures ∙ c.in-Some.is) (sym c.is_identifier.ensures ∙ c.if-not-is_identifier.true)

pub loop-end-preserved : goal.loop-end-preserved
loop-end-preserved c =
    let more = count-more _ c.loop-end.count _ c.loop-end.invariant.0 c.in-Some.end (sym c.colon.ensures ∙ c.in-Some.is) (sym c.is_identifier.ensures ∙ c.if-not-is_identifier.false) in
    let below : c.in-Some.end < length c.loop-end.rest.now = (position-Some _ c.loop-end.rest.now c.in-Some.end 0 (sym c.colon.ensures ∙ c.in-Some.is)).0 in
    let long : c.loop-end.count + length c.loop-end.rest.now ≤ length c.args.text.now = c.loop-end.invariant.1 in
    rw (take_rest c.loop-end.rest.now (c.in-Some.end + 1)) (more, omega (arith, length-drop (c.in-Some.end + 1) c.loop-end.rest.now))

pub returns-else-is_empty : goal.returns-else-is_empty
returns-else-is_empty c = count-left _ c.loop-end.count _ c.loop-end.invariant.0 (sym c.colon.ensures ∙ c.in_default.is) (sym c.is_empty.ensures ∙ c.if-is_empty.false)
