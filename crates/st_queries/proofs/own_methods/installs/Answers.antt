use Rattle.std.proofs.Common.{◌≡◌, ◌∙◌, ◌+◌, sym, arith, length, ap, slice_index_or, slice_set, Vec, Global, ℕ}
use Rattle.st_classes.specs.Classes.{class_count}
use Rattle.st_queries.proofs.Counting.{at_class, counts, filled, installs_few, length_counts, none_more, one_more, within}
use Rattle.st_queries.proofs.own_methods.installs.Goals as goal
use Rattle.st_queries.proofs.own_methods.installs.Goals.{in-Some, in_default}

pub loop-place-init : goal.loop-place-init
loop-place-init c =
    let edits = c.args.version.now in
    let none = c.in_ok-counts.ensures in
    c.in_ok-resize.ensures.items ∙ rw (none.items, none.len, c.classes-classes.ensures) (filled edits (class_count edits))

pub raise-requires-clause-within : goal.raise-requires-clause-within
raise-requires-clause-within c =
    let edits = c.args.version.now in
    rw (c.loop-place.invariant, c.from.ensures, length_counts edits (class_count edits) c.loop-place.place) (within edits c.in-Some.class c.in-Some.ensures.class)

pub raise-requires-clause-few : goal.raise-requires-clause-few
raise-requires-clause-few c =
    let edits = c.args.version.now in
    let few = installs_few edits c.in-Some.class c.loop-place.place in
    rw (c.loop-place.invariant, c.from.ensures, at_class edits (class_count edits) c.loop-place.place c.in-Some.class (within edits c.in-Some.class c.in-Some.ensures.class)) (omega (arith, few, c.known.ensures.few, c.edits-place-end.ensures, c.loop-place-test.true))

pub loop-place-preserved : goal.loop-place-preserved
loop-place-preserved c =
    let edits = c.args.version.now in
    let place = c.loop-place.place in
    let classes = class_count edits in
    elim c.match-standing.branch [
      | in-Some w ↦ ap (λ (v : Vec ℕ Global). v.items) w.counts-is ∙ w.raise.ensures ∙ ap (λ k. slice_set c.loop-place.counts.items k (slice_index_or c.loop-place.counts.items k 0 + 1)) w.from.ensures
          ∙ ap (λ ns. slice_set ns w.in-Some.class.0 (slice_index_or ns w.in-Some.class.0 0 + 1)) c.loop-place.invariant
          ∙ one_more edits classes place w.in-Some.class (sym w.in-Some.ensures.standing) (within edits w.in-Some.class w.in-Some.ensures.class)
      | in_default w ↦ ap (λ (v : Vec ℕ Global). v.items) w.counts-is ∙ c.loop-place.invariant ∙ none_more edits classes place (sym w.in_default.ensures.standing)
    ]

pub returns : goal.returns
returns c =
    let edits = c.args.version.now in
    let all : c.loop-place.place ≡ length edits = omega (arith, c.loop-place-test.false, c.loop-place.auto.place-end, c.edits-place-end.ensures) in
    c.loop-place.invariant ∙ ap (λ n. counts edits (class_count edits) n) all
