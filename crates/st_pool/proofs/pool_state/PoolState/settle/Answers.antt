use Rattle.std.proofs.Common.{rules, arith, ◌≡◌, ◌∙◌, ◌-◌, ◌≤◌, ℕ, List, All, ap, sym, subst, refl, inr, IsTrue}
use Rattle.std.specs.List.{sum_by}
use Rattle.st_image.specs.declared.history.Item.{Item}
use Rattle.st_image.specs.Counts.{posts_of, weigh}
use Rattle.st_pool.specs.Done.{Done, PoolView, StandsIn}
use Rattle.st_pool.specs.Holds.{IsRun}
use Rattle.st_pool.specs.Settled.{AllStand, gone}
use Rattle.st_pool.proofs.pool_state.PoolState.settle.Goals as goal

pub returns-then-not-all_callers_stand-clause-refused : goal.returns-then-not-all_callers_stand-clause-refused
returns-then-not-all_callers_stand-clause-refused g c =
    inr (
      refl,
      (search rules, search rules),
      λ h.
          let all : AllStand c.self.inside.books.emptied c.self.inside.image c.args.shares.callers.items =
          subst (λ (o : PoolView). AllStand o.books.emptied o.image c.args.shares.callers.items) (sym c.self.view_is) h.0 in
          let here : All (λ (d : Done). All (StandsIn c.self.inside.books.emptied c.history.result.now) d.receipts) c.args.shares.callers.items =
          subst (λ (hs : List Item). All (λ (d : Done). All (StandsIn c.self.inside.books.emptied hs) d.receipts) c.args.shares.callers.items) (sym c.history.ensures) all in
          let there : All (λ (d : Done). All (StandsIn c.emptied.result c.history.result.now) d.receipts) c.args.shares.callers.items =
          subst (λ (n : ℕ). All (λ (d : Done). All (StandsIn n c.history.result.now) d.receipts) c.args.shares.callers.items) (sym c.emptied.ensures.value) here in
          search (rules, c.if-not-all_callers_stand.true, c.all_callers_stand.ensures.1 there),
    )

pub returns-then-saturating_sub-gone-clause-refused : goal.returns-then-saturating_sub-gone-clause-refused
returns-then-saturating_sub-gone-clause-refused g c =
    inr (
      refl,
      (search rules, search rules),
      λ h.
          let few : sum_by (gone c.self.inside.books.emptied) c.args.shares.callers.items ≤ c.self.inside.books.posts - weigh posts_of c.self.inside.image.history =
          subst (λ (o : PoolView). sum_by (gone o.books.emptied) c.args.shares.callers.items ≤ o.books.posts - weigh posts_of o.image.history) (sym c.self.view_is) h.1 in
          let posts : c.posts_in.result ≡ weigh posts_of c.self.inside.image.history = c.posts_in.ensures ∙ ap (weigh posts_of) c.history-2.ensures in
          let left : c.saturating_sub.result ≡ c.self.inside.books.posts - weigh posts_of c.self.inside.image.history =
          c.saturating_sub.ensures ∙ ap (λ (n : ℕ). c.close-gone.result.0.posts - n) posts ∙ ap (λ (n : ℕ). n - weigh posts_of c.self.inside.image.history) c.close-gone.ensures.posts in
          omega (arith, few, left, c.close-gone.ensures.gone, c.if-saturating_sub-gone.true),
    )

pub returns-clause-stand : goal.returns-clause-stand
returns-clause-stand g c =
    let said : IsTrue c.all_callers_stand.result = search (rules, c.if-not-all_callers_stand.false) in
    let seen : All (λ (d : Done). All (StandsIn c.self.inside.books.emptied c.history.result.now) d.receipts) c.args.shares.callers.items =
    subst (λ (n : ℕ). All (λ (d : Done). All (StandsIn n c.history.result.now) d.receipts) c.args.shares.callers.items) c.emptied.ensures.value (c.all_callers_stand.ensures.0 said) in
    let here : All (λ (d : Done). All (StandsIn c.self.inside.books.emptied c.self.inside.image.history) d.receipts) c.args.shares.callers.items =
    subst (λ (hs : List Item). All (λ (d : Done). All (StandsIn c.self.inside.books.emptied hs) d.receipts) c.args.shares.callers.items) c.history.ensures seen in
    let posts : c.posts_in.result ≡ weigh posts_of c.self.inside.image.history = c.posts_in.ensures ∙ ap (weigh posts_of) c.history-2.ensures in
    let left : c.saturating_sub.result ≡ c.close-gone.result.0.posts - weigh posts_of c.self.inside.image.history = c.saturating_sub.ensures ∙ ap (λ (n : ℕ). c.close-gone.result.0.posts - n) posts in
    let are : sum_by (gone c.args.self.books.emptied) c.args.shares.callers.items ≡ c.close-gone.result.1 =
    ap (λ (o : PoolView). sum_by (gone o.books.emptied) c.args.shares.callers.items) (sym c.self.view_is) ∙ sym c.close-gone.ensures.gone in (
      subst (λ (o : PoolView). All (λ (d : Done). All (StandsIn o.books.emptied c.self.inside.image.history) d.receipts) c.args.shares.callers.items) c.self.view_is here,
      omega (arith, are, left, c.if-saturating_sub-gone.false),
    )

pub returns-clause-run : goal.returns-clause-run
returns-clause-run g c = subst (λ (o : PoolView). IsRun g.K.Naming.first (record { image = c.self.inside.image; books = o.books })) c.self.view_is c.self.invariant.3
