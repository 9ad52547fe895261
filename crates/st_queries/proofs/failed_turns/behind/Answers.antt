use Rattle.std.proofs.Common.{◌+◌, ◌++◌, ◌∙◌, sym, ap, arith, drop, Vec, Global}
use Rattle.std.specs.List.{filter_map}
use Rattle.st_image.specs.Failures.{failures_of}
use Rattle.st_image.specs.NewestResults.{newest}
use Rattle.st_queries.specs.FailedTurns.{failed_behind, if_behind}
use Rattle.st_queries.specs.declared.failed_turns.FailedTurn.{FailedTurn}
use Rattle.st_queries.proofs.KeptLoops.{few_newest, given_all, given_more, given_none}
use Rattle.st_queries.proofs.failed_turns.behind.Goals as goal
use Rattle.st_queries.proofs.failed_turns.behind.Goals.{in-Some+in_ok-push, in_default}

pub loop-place-preserved : goal.loop-place-preserved
loop-place-preserved g c =
    let h = if_behind c.args.from in
    let fs = newest (failures_of c.args.image.now) in
    let place = c.loop-place.place in
    let items = c.loop-place.turns.items in
    let all = failed_behind c.args.from fs in
    let later = filter_map h (drop (place + 1) fs) in
    elim c.match-behind_at.branch [
      | in-Some+in_ok-push w ↦ ap (λ (v : Vec FailedTurn Global). v.items ++ later) w.turns-is ∙ ap (λ ts. ts ++ later) w.in_ok-push.ensures.items ∙ given_more h fs place w.in-Some.turn items all (sym c.behind_at.ensures ∙ w.in-Some.is) c.loop-place.invariant
      | in_default w ↦ ap (λ (v : Vec FailedTurn Global). v.items ++ later) w.turns-is ∙ given_none h fs place items all (sym c.behind_at.ensures ∙ w.in_default.is) c.loop-place.invariant
    ]

pub returns : goal.returns
returns g c =
    let fs = newest (failures_of c.args.image.now) in
    let few = few_newest (failures_of c.args.image.now) in
    given_all (if_behind c.args.from) fs c.loop-place.place c.loop-place.turns.items (failed_behind c.args.from fs) (omega (arith, few, c.loop-place-test.false)) c.loop-place.invariant
