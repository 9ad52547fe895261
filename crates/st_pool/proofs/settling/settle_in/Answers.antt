use Rattle.std.proofs.Common.{◌≡◌, ℕ, List, Result, Ok, Err, IfOk, OnOk, subst}
use Rattle.st_classes.specs.declared.refusals.Refusal.{Refusal}
use Rattle.st_image.specs.Images.{ImageView}
use Rattle.st_calls.specs.Growth.{Amounts}
use Rattle.st_pool.specs.Books.{BooksView}
use Rattle.st_pool.specs.Done.{Done}
use Rattle.st_pool.specs.Holds.{IsRun}
use Rattle.st_pool.specs.Settled.{AllStand, AreCounts, AreFew, HaveStood, emptied_by}
use Rattle.st_pool.specs.declared.totals.Totals.{Totals}
use Rattle.st_pool.proofs.settling.settle_in.Goals as goal

stood : (start : Amounts) (emptied : ℕ) (callers : List Done) (r : Result (ImageView × Totals) Refusal) → OnOk r (emptied ≡ emptied_by callers) → IfOk r (λ v. AreCounts start v.0 v.1) → IfOk r (λ v. AllStand emptied v.0 callers × AreFew emptied v.0 v.1.posts callers)
    → IfOk r (λ v. AreCounts start v.0 v.1 × HaveStood v.0 v.1.posts callers)
stood start emptied callers (Ok v) same counts stand = (
  counts,
  record {
    stand = subst (λ (n : ℕ). AllStand n v.0 callers) same stand.0;
    few = subst (λ (n : ℕ). AreFew n v.0 v.1.posts callers) same stand.1;
  },
)
stood start emptied callers (Err e) same counts stand = tt

pub returns-clause-history : goal.returns-clause-history
returns-clause-history g c = stood g.K.Naming.start c.into_inner.result.books.emptied c.args.shares.callers.items c.settle.result c.settle.ensures.emptied c.settle.ensures.counts c.settle.ensures.stand

pub returns-clause-refused : goal.returns-clause-refused
returns-clause-refused g c = c.settle.ensures.named

ran : (first : ImageView) (b : BooksView) (r : Result (ImageView × Totals) Refusal) → IfOk r (λ v. IsRun first (record { image = v.0; books = b }))
    → IfOk r (λ v. (c : BooksView) × IsRun first (record { image = v.0; books = c }))
ran first b (Ok v) h = (b, h)
ran first b (Err e) h = tt

pub returns-clause-run : goal.returns-clause-run
returns-clause-run g c = ran g.K.Naming.first c.into_inner.result.books c.settle.result c.settle.ensures.run
