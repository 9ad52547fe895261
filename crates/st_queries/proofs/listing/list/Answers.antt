use Rattle.std.proofs.Common.{◌≡◌, ◌+◌, ◌-◌, ◌∙◌, sym, ap, arith, refl, map, option_map}
use Rattle.std.specs.List.{filter_map, range_with_len}
use Rattle.serde_json.specs.Data.{array}
use Rattle.serde_json.specs.View.{items_of, view}
use Rattle.st_queries.proofs.Rows.{no_row, one_row}
use Rattle.st_queries.proofs.listing.list.Goals as goal
use Rattle.st_queries.proofs.listing.list.Goals.{in-Some+in_ok-push, in_default}

pub loop-number-init : goal.loop-number-init
loop-number-init g c =
    let none : c.args.from - c.args.from ≡ 0 = omega arith in
    (omega arith, rw (c.new-items.ensures, none) refl)

pub loop-number-preserved : goal.loop-number-preserved
loop-number-preserved g c =
    let row = g.R.Rows.row_of c.args.rows.now in
    let n = c.loop-number.number in
    let first = c.args.from in
    let so_far = c.loop-number.invariant in
    let place : first + (n - first) ≡ n = omega (arith, so_far.0) in
    let more : n + 1 - first ≡ n - first + 1 = omega (arith, so_far.0) in
    let items = c.loop-number.items in (
      omega (arith, so_far.0),
      rw more (elim c.match-branch-2.branch [
        | in-Some+in_ok-push w ↦ ap (map view) (w.items-is ∙ w.in_ok-push.ensures) ∙ one_row row first (n - first) n items w.in-Some.told place (sym c.in_ok-told.ensures ∙ ap (option_map view) w.in-Some.is) so_far.1
        | in_default w ↦ ap (map view) w.items-is ∙ no_row row first (n - first) n items place (sym c.in_ok-told.ensures ∙ ap (option_map view) w.in_default.is) so_far.1
      ]),
    )

pub returns : goal.returns
returns g c =
    let so_far = c.loop-number.invariant in
    let row = g.R.Rows.row_of c.args.rows.now in
    let all : c.loop-number.number - c.args.from ≡ c.args.until - c.args.from = omega (arith, c.loop-number.auto.number-end c.requires.order, c.loop-number-test.false) in
    c.told.ensures ∙ ap (λ ds. array (items_of ds)) (so_far.1 ∙ ap (λ k. filter_map row (range_with_len c.args.from k)) all)
