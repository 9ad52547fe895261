use Rattle.std.proofs.Common.{◌≡◌, ◌∙◌, subst, sym}
use Rattle.st_pool.specs.Books.{BooksView, Kept}
use Rattle.st_pool.specs.Calling.{booked}
use Rattle.st_pool.specs.Done.{PoolView, nothing_done}
use Rattle.st_pool.proofs.Calling.{kept_booked, plain_told}
use Rattle.st_calls.proofs.GoingThen.{goes_then}
use Rattle.st_pool.proofs.Knowing.{prefix_later}
use Rattle.st_pool.specs.Holds.{called}
use Rattle.st_pool.proofs.Holding.{run_then}
use Rattle.st_pool.proofs.pool_state.PoolState.call.Goals as goal

pub invariant_of-self : goal.invariant_of-self
invariant_of-self g c =
    let o : PoolView = record { image = c.self.inside.image; books = c.self.inside.books } in
    let j = c.apply-answer.new.image in
    let are : c.edit.new.self ≡ booked o c.apply-answer.result =
    c.edit.ensures.books ∙ (plain_told o nothing_done c.args.call c.apply-answer.result j c.requires.plain c.apply-answer.ensures.does).books in (
      subst (λ (b : BooksView). Kept g.K.Naming.start j b) (sym are) (kept_booked g.K.Naming.start o j c.apply-answer.result c.self.invariant.0 c.apply-answer.ensures.grows),
      prefix_later c.self.inside.prefix c.self.inside.image j c.apply-answer.ensures.later c.self.invariant.1,
      goes_then g.K.Naming.first c.self.inside.image j c.self.invariant.2 c.apply-answer.ensures.later,
      run_then g.K.Naming.first o (record { image = j; books = c.edit.new.self }) (called c.args.call c.apply-answer.result) c.self.invariant.3 (c.apply-answer.ensures.does, are),
    )
