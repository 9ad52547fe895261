use Rattle.std.proofs.Common.{arith, rules, ℕ, suc, ◌≡◌, ◌∙◌, ◌<◌, ◌+◌, ◌-◌, ◌++◌, ◌∷◌, [], sym, ap, subst, true, take, drop, take-append-drop, length, slice_get, Some, List}
use Rattle.st_classes.specs.declared.edits.Edit.{Edit}
use Rattle.st_classes.specs.EditLists.{AreLawful}
use Rattle.st_classes.proofs.LawLists.{take_at_place}
use Rattle.st_classes.proofs.LawGrowing.{lawful_before}
use Rattle.st_guard.specs.Moves.{IsAt}
use Rattle.st_guard.proofs.LaterEdits.{noted_more}
use Rattle.st_guard.proofs.invalidation.follow.Goals as goal

pub later-smaller : goal.later-smaller
later-smaller g c =
    let noted : c.note.result ≡ true = search rules in
    let grew = c.note.ensures.grows noted in
    let within : c.later.caches.edits < length c.args.version.now = search rules in
    omega (arith, grew, within)

pub later-preserved : goal.later-preserved
later-preserved g c =
    let v = c.args.version.now in
    let p = c.later.caches.edits in
    let first = c.args.caches.now.edits in
    let raises = g.G.Guard.raises in
    let noted : c.note.result ≡ true = search rules in
    let grew = c.note.ensures.grows noted in
    let within : p < length v = search rules in
    let here : slice_get v p ≡ Some c.in-Some.edit.now = search rules in
    let more : take (p + 1) v ≡ take p v ++ c.in-Some.edit.now ∷ [] = ap (λ (n : ℕ). take n v) (let e : p + 1 ≡ suc p = omega arith in e) ∙ take_at_place v p c.in-Some.edit.now here in
    let lawful : AreLawful (take p v ++ c.in-Some.edit.now ∷ []) = subst (λ (es : List Edit). AreLawful es) more (lawful_before (take (p + 1) v) (drop (p + 1) v) (subst (λ (es : List Edit). AreLawful es) (sym (take-append-drop (p + 1) v)) c.known.ensures.lawful)) in
    let at = c.note.ensures.noted noted (take p v) lawful c.later.invariant.1 in (
      omega (arith, grew, within),
      subst (λ (es : List Edit). IsAt (g.G.Guard.count c.note.new.caches.guard) (g.G.Guard.floor c.note.new.caches.guard) c.note.new.caches.sites c.note.new.caches.recent c.note.new.caches.edits es) (sym (ap (λ (n : ℕ). take n v) grew ∙ more)) at,
      omega (arith, grew, c.later.invariant.2),
      λ s. noted_more raises v first p s (g.G.Guard.floor c.args.caches.now.guard s) (g.G.Guard.floor c.later.caches.guard s) (g.G.Guard.floor c.note.new.caches.guard s) c.in-Some.edit.now (c.note.new.caches.edits - first) c.later.invariant.2 here (omega (arith, grew, c.later.invariant.2)) (c.later.invariant.3 s) (c.note.ensures.floors noted s),
      c.note.ensures.sites ∙ c.later.invariant.4,
      c.note.ensures.recent ∙ c.later.invariant.5,
    )
