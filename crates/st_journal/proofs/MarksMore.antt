-- What led on leads on with more names too.
use Rattle.std.proofs.Common.{◌≡◌, ℕ, List, [], ◌∷◌, ◌++◌, Option, Some, option_and_then, ap, subst, ◌∙◌, append_assoc}
use Rattle.std.proofs.lemmas.Option.{same_Some}
use Rattle.st_classes.specs.declared.edits.Edit.{Edit}
use Rattle.st_classes.specs.EditLists.{AllSound}
use Rattle.st_image.specs.Parts.{rebase}
use Rattle.st_image.specs.WorldInvariant.{IsSoundItem, IsWorld}
use Rattle.st_image.specs.Worlds.{Constants, World}
use Rattle.st_image.proofs.Lasting.{named_more, next_keeps}
use Rattle.st_image.proofs.Renewal.{world_anew}
use Rattle.st_image.proofs.Stepping.{bound}
use Rattle.st_journal.specs.Marks.{Mark, did, emptied, after, after_all}
use Rattle.st_journal.proofs.Recovered.{item_more, more_edits, sound_item}

module _ (c : Constants) (more : List (List ℕ)) (edits : List Edit) (sound : AllSound edits) where
  -- one item or a checkpoint, where it led to a world of whose edits the later ones are known
  pub mark_more : (w u : World) (m : Mark) (later : List Edit) → IsWorld c w → after c w m ≡ Some u → edits ≡ u.edits ++ later → (after (named_more c more) w m ≡ Some u) × IsWorld c u
  mark_more w u (did x) later h e is =
      let one : IsSoundItem x = sound_item c w u x later edits e is sound in
      (item_more c more w u x h one e, (next_keeps c w u x h one e).world)
  mark_more w u emptied later h e is = (e, subst (IsWorld c) (same_Some (rebase w) u e) (world_anew c w h))

  -- the edits behind a world that led on to another one
  pub edits_behind : (u v : World) (ms : List Mark) (later : List Edit) → after_all c u ms ≡ Some v → edits ≡ v.edits ++ later → (rest : List Edit) × (edits ≡ u.edits ++ rest)
  edits_behind u v ms later e is =
      let grown = more_edits c u v ms e in
      (grown.0 ++ later, is ∙ ap (λ (es : List Edit). es ++ later) grown.1 ∙ append_assoc u.edits grown.0 later)

  -- several
  pub marks_more : (ms : List Mark) (w v : World) (later : List Edit) → IsWorld c w → after_all c w ms ≡ Some v → edits ≡ v.edits ++ later → (after_all (named_more c more) w ms ≡ Some v) × IsWorld c v
  marks_more [] w v later h e is = (e, subst (IsWorld c) (same_Some w v e) h)
  marks_more (m ∷ ms) w v later h e is =
      let p = bound (λ u. after_all c u ms) (after c w m) v e in
      let behind = edits_behind p.0 v ms later p.2 is in
      let first = mark_more w p.0 m behind.0 h p.1 behind.1 in
      let rest = marks_more ms p.0 v later first.1 p.2 is in
      (ap (λ (o : Option World). option_and_then (λ u. after_all (named_more c more) u ms) o) first.0 ∙ rest.0, rest.1)

-- what leads to a world from which something leads on
pub lead_both : (c : Constants) (xs ys : List Mark) (w u v : World) → after_all c w xs ≡ Some u → after_all c u ys ≡ Some v → after_all c w (xs ++ ys) ≡ Some v
lead_both c [] ys w u v first second = ap (λ (x : World). after_all c x ys) (same_Some w u first) ∙ second
lead_both c (m ∷ xs) ys w u v first second =
    let p = bound (λ x. after_all c x xs) (after c w m) u first in
    ap (λ (o : Option World). option_and_then (λ x. after_all c x (xs ++ ys)) o) p.1 ∙ lead_both c xs ys p.0 u v p.2 second
