use Rattle.std.proofs.Common.{◌≡◌, ◌+◌, ℕ, List, Some, get_or, slice_get, subst, sym, ap, take, ◌∙◌}
use Rattle.std.specs.Global.{Vec}
use Rattle.st_classes.specs.Names.{interned, texts_of}
use Rattle.st_classes.proofs.Naming.{copied-next}
use Rattle.st_classes.proofs.name_table.copied.Goals as goal

pub loop-text-preserved : goal.loop-text-preserved
loop-text-preserved c =
    let vs = c.as_slice-text-items.result.now in
    let same = c.as_slice-text-items.ensures.keys in
    let k = c.loop-text.text-index in
    let v = c.text-item.result in
    let read : v ≡ get_or vs k v = cc in
    let different = subst (λ (ws : List (Vec ℕ)). (a b : ℕ) (t : List ℕ) → slice_get (texts_of ws) a ≡ Some t → slice_get (texts_of ws) b ≡ Some t → a ≡ b) (sym same) c.requires.different in
    let so_far = c.loop-text.invariant ∙ ap (λ (ws : List (Vec ℕ)). take k (texts_of ws)) (sym same) in
    let added = c.in_ok-add.ensures.ok ∙ ap (interned (texts_of c.loop-text.copy.keys)) (c.as_slice.ensures.value ∙ ap (λ (w : Vec ℕ). w.items) read) in
    copied-next vs k v (texts_of c.loop-text.copy.keys) (texts_of c.add.new.texts.keys) different c.loop-text-test.true so_far added
    ∙ ap (λ (ws : List (Vec ℕ)). take (k + 1) (texts_of ws)) same
