use Rattle.std.proofs.Common.{rules, arith, ◌≡◌, ◌<◌, ◌+◌, ◌++◌, ◌∷◌, [], ◌∙◌, ap, length, sym, take}
use Rattle.std.proofs.lemmas.List.{take_more}
use Rattle.st_image.specs.declared.history.Item.{Item}
use Rattle.st_image.specs.Counts.{posts_of, weigh}
use Rattle.st_image.proofs.CountingItems.{weigh_append}
use Rattle.st_pool.proofs.settling.posts_in.Goals as goal

pub loop-item-preserved : goal.loop-item-preserved
loop-item-preserved c =
    let items = c.args.history.now in
    let i = c.loop-item.item-index in
    let item = c.item-item.result in
    let within : i < length items = search rules in
    let first : take (i + 1) items ≡ take i items ++ item ∷ [] =
    take_more items i item within ∙ ap (λ (x : Item). take i items ++ x ∷ []) (sym c.item-item.is) in (
      omega (arith, ap (weigh posts_of) first, weigh_append posts_of (take i items) (item ∷ []), c.loop-item.invariant.0, c.posts_at-posts.ensures.value),
      omega (arith, c.loop-item.invariant.1, c.posts_at-posts.ensures.few),
    )
