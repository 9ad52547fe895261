use Rattle.std.proofs.Common.{◌≡◌, ◌+◌, ◌-◌, [], ◌∷◌, ◌∙◌, ℕ, Option, sym, ap, arith, option_map, slice_get, Vec, Global}
use Rattle.std.proofs.lemmas.List.{length-append}
use Rattle.st_image.specs.Images.{world}
use Rattle.st_queries.specs.declared.actor_snapshots.ActorSnapshot.{ActorSnapshot}
use Rattle.st_queries.specs.ActorSnapshots.{actor_snapshot_of}
use Rattle.st_queries.proofs.Rows.{next_none, next_there}
use Rattle.st_queries.proofs.actor_snapshots.actor_snapshots.Goals as goal
use Rattle.st_queries.proofs.actor_snapshots.actor_snapshots.Goals.{in-Some+in_ok-push, in_default}

pub loop-number-preserved : goal.loop-number-preserved
loop-number-preserved g c =
    let row : ℕ → Option ActorSnapshot = λ n. option_map actor_snapshot_of (slice_get (world c.args.image.now).actors n) in
    let n = c.loop-number.number in
    let first = c.args.from in
    let so_far = c.loop-number.invariant in
    let place : first + (n - first) ≡ n = omega (arith, so_far.0) in
    let more : n + 1 - first ≡ n - first + 1 = omega (arith, so_far.0) in
    let items = c.loop-number.seen.items in (
      omega (arith, so_far.0),
      rw more (elim c.match-actor_snapshot_at.branch [
        | in-Some+in_ok-push w ↦ ap (λ (v : Vec ActorSnapshot Global). v.items) w.seen-is ∙ w.in_ok-push.ensures.items ∙ next_there row first (n - first) n items w.in-Some.actor_snapshot place (sym c.actor_snapshot_at.ensures ∙ w.in-Some.is) so_far.1
        | in_default w ↦ ap (λ (v : Vec ActorSnapshot Global). v.items) w.seen-is ∙ next_none row first (n - first) n items place (sym c.actor_snapshot_at.ensures ∙ w.in_default.is) so_far.1
      ]),
      rw more (elim c.match-actor_snapshot_at.branch [
        | in-Some+in_ok-push w ↦ rw (ap (λ (v : Vec ActorSnapshot Global). v.items) w.seen-is, w.in_ok-push.ensures.items) (omega (arith, length-append items (w.in-Some.actor_snapshot ∷ []), so_far.2))
        | in_default w ↦ rw (ap (λ (v : Vec ActorSnapshot Global). v.items) w.seen-is) (omega (arith, so_far.2))
      ]),
    )
