use Rattle.std.proofs.Common.{Ok, Err, ap, length, subst, sym, ◌+◌, ◌∙◌, ◌≡◌}
use Rattle.st_image.specs.declared.history.Item.{Item}
use Rattle.std.specs.Prelude.{List, ◌≤◌}
use Rattle.std.proofs.Common.{arith}
use Rattle.st_image.specs.Counts.{most_counted}
use Rattle.st_pool.specs.Books.{BooksView, Kept}
use Rattle.st_pool.specs.Calling.{booked}
use Rattle.st_pool.specs.Done.{PoolView}
use Rattle.st_pool.proofs.Calling.{checkpoint_booked, checkpoint_without_room, kept_booked}
use Rattle.st_calls.proofs.GoingThen.{goes_then}
use Rattle.st_pool.proofs.Knowing.{prefix_later}
use Rattle.st_calls.specs.declared.calls.Call.TheVariants as call
use Rattle.std.proofs.Common.{refl}
use Rattle.st_pool.specs.Holds.{called}
use Rattle.st_pool.proofs.Holding.{run_then}
use Rattle.st_pool.proofs.pool_state.PoolState.checkpoint.Goals as goal

pub invariant_of-self-in-Ok : goal.invariant_of-self-in-Ok
invariant_of-self-in-Ok g c =
    let o : PoolView = record { image = c.self.inside.image; books = c.self.inside.books } in
    let j = c.checkpoint_into.new.image in
    let are : c.empty.new.self ≡ booked o (Ok c.in-Ok.answer) =
    c.empty.ensures.books
    ∙ ap (λ (h : List Item). let k : BooksView = record o.books { emptied = o.books.emptied + length h } in k) c.history.ensures
    ∙ sym (checkpoint_booked o c.in-Ok.answer j c.in-Ok.ensures.does) in (
      subst (λ (b : BooksView). Kept g.K.Naming.start j b) (sym are) (kept_booked g.K.Naming.start o j (Ok c.in-Ok.answer) c.self.invariant.0 c.in-Ok.ensures.grows),
      prefix_later c.self.inside.prefix c.self.inside.image j c.in-Ok.ensures.later c.self.invariant.1,
      goes_then g.K.Naming.first c.self.inside.image j c.self.invariant.2 c.in-Ok.ensures.later,
      run_then g.K.Naming.first o (record { image = j; books = c.empty.new.self }) (called call.Checkpoint (Ok c.in-Ok.answer)) c.self.invariant.3 (c.in-Ok.ensures.does, are),
    )

pub invariant_of-self-in-Err-1 : goal.invariant_of-self-in-Err-1
invariant_of-self-in-Err-1 g c =
    let o : PoolView = record { image = c.self.inside.image; books = c.self.inside.books } in
    let j = c.checkpoint_into.new.image in (
      kept_booked g.K.Naming.start o j (Err c.in-Err.refusal) c.self.invariant.0 c.in-Err.ensures.grows,
      prefix_later c.self.inside.prefix c.self.inside.image j c.in-Err.ensures.later c.self.invariant.1,
      goes_then g.K.Naming.first c.self.inside.image j c.self.invariant.2 c.in-Err.ensures.later,
      run_then g.K.Naming.first o (record { image = j; books = c.self.inside.books }) (called call.Checkpoint (Err c.in-Err.refusal)) c.self.invariant.3 (c.in-Err.ensures.does, refl),
    )

pub returns-then-is_err-clause-calls : goal.returns-then-is_err-clause-calls
returns-then-is_err-clause-calls g c =
    let few : c.self.inside.books.emptied + length c.self.inside.image.history ≤ most_counted =
    omega (arith, c.emptied.ensures.value, ap (λ (h : List Item). length h) c.history.ensures, c.if-emptied-count-gt-MOST_COUNTED.false) in
    checkpoint_without_room c.args.self.now _ c.args.mine.now c.args.mine.now (rw (← c.self.view_is) few) c.self.view_is refl
