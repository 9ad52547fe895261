use Rattle.std.proofs.Common.{Bool, ap, subst, sym, ◌+◌, ◌∙◌, ◌≡◌}
use Rattle.st_calls.specs.Growth.{counted}
use Rattle.st_pool.specs.Books.{BooksView, Kept}
use Rattle.st_pool.specs.Calling.{booked}
use Rattle.st_pool.specs.Done.{PoolView}
use Rattle.st_pool.proofs.Calling.{kept_booked, post_booked}
use Rattle.st_calls.proofs.GoingThen.{goes_then}
use Rattle.st_pool.proofs.Knowing.{prefix_later}
use Rattle.st_calls.specs.declared.calls.Call.TheVariants as call
use Rattle.st_pool.specs.Holds.{called}
use Rattle.st_pool.proofs.Holding.{run_then}
use Rattle.st_pool.proofs.pool_state.PoolState.post.Goals as goal

pub invariant_of-self : goal.invariant_of-self
invariant_of-self g c =
    let o : PoolView = record { image = c.self.inside.image; books = c.self.inside.books } in
    let are : c.post.new.self ≡ booked o c.apply-answer.result =
    c.post.ensures.books
    ∙ ap (λ (b : Bool). let k : BooksView = record o.books { posts = o.books.posts + counted b } in k) c.is_ok-is_accepted.ensures.value
    ∙ post_booked o c.args.sender c.args.seq c.args.actor c.args.selector c.args.args c.apply-answer.result c.apply-answer.new.image c.apply-answer.ensures.does in (
      subst (λ (b : BooksView). Kept g.K.Naming.start c.apply-answer.new.image b) (sym are) (kept_booked g.K.Naming.start o c.apply-answer.new.image c.apply-answer.result c.self.invariant.0 c.apply-answer.ensures.grows),
      prefix_later c.self.inside.prefix c.self.inside.image c.apply-answer.new.image c.apply-answer.ensures.later c.self.invariant.1,
      goes_then g.K.Naming.first c.self.inside.image c.apply-answer.new.image c.self.invariant.2 c.apply-answer.ensures.later,
      run_then g.K.Naming.first o (record { image = c.apply-answer.new.image; books = c.post.new.self }) (called (call.Post c.args.sender c.args.seq c.args.actor c.args.selector c.args.args) c.apply-answer.result) c.self.invariant.3 (c.apply-answer.ensures.does, are),
    )
