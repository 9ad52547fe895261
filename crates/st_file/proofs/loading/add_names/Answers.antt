use Rattle.std.proofs.Common.{ℕ, List, inl, inr, subst}
use Rattle.st_image.specs.Loading.{LoadsName, Nowhere}
use Rattle.st_image.proofs.LoadingAll.{goes_nowhere}
use Rattle.st_file.proofs.loading.add_names.Goals as goal

pub returns-in-Err : goal.returns-in-Err
returns-in-Err c =
    let so_far = c.loop-name.invariant in
    let same : Nowhere (LoadsName c.loop-name.loader c.as_slice.result.now) → Nowhere (LoadsName c.loop-name.loader c.name-item.result) =
    subst (λ (text : List ℕ). Nowhere (LoadsName c.loop-name.loader text)) c.as_slice.ensures in
    elim c.in-Err.ensures.1 [
      | inl n ↦ inl n
      | inr r ↦ inr (r.0, goes_nowhere LoadsName c.args.loader.now c.loop-name.loader c.args.names.now c.loop-name.name-index c.name-item.result c.loop-name-test.true c.name-item.is so_far (same r.1))
    ]
