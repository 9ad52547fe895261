-- The walk, class by class.
use Rattle.std.proofs.Common.{◌≡◌, ◌<◌, ◌+◌, ◌%◌, ◌^◌, ℕ, arith, ap, sym, ◌∙◌, length, List, Some, None, true}
use Rattle.std.proofs.lemmas.Bool.{lt-ltb}
use Rattle.std.proofs.Math.Nat.{mod-add-mod, mod-eq_of_lt}
use Rattle.st_classes.specs.declared.values.ClassId.{ClassId}
use Rattle.st_classes.specs.declared.values.Selector.{Selector}
use Rattle.st_classes.specs.declared.edits.Edit.{Edit}
use Rattle.st_classes.specs.Classes.{chain, class_count, classes, is_class, parent}
use Rattle.st_classes.specs.EditLists.{AreLawful}
use Rattle.st_classes.specs.Walks.{own, walk, first_own}
use Rattle.st_classes.proofs.LawChains.{forest, chain_above, parent_is_class}
use Rattle.st_classes.proofs.Chains.{chain_longer}
use Rattle.st_guard.specs.RowsRead.{rows_walked}

-- what a walk finds, and the rows that it reads, where a class has none and its superclass goes on
pub walk_above : (edits : List Edit) (c p : ClassId) (s : Selector) → AreLawful edits → own edits c s ≡ None → parent edits c ≡ Some p → (walk edits p s ≡ walk edits c s) × (rows_walked edits (chain edits c) s ≡ 1 + rows_walked edits (chain edits p) s)
walk_above edits c p s l e f =
    let up = chain_above edits c p l f in
    (sym (ap (λ (cs : List ClassId). first_own edits cs s) up ∙ rw e), ap (λ (cs : List ClassId). rows_walked edits cs s) up ∙ rw e)

pub above_is_class : (edits : List Edit) (c p : ClassId) → AreLawful edits → parent edits c ≡ Some p → is_class edits p ≡ true
above_is_class edits c p l e = lt-ltb p.0 (class_count edits) (parent_is_class edits c p l e)

pub above_is_shorter : (edits : List Edit) (c p : ClassId) → AreLawful edits → parent edits c ≡ Some p → length (chain edits p) < length (chain edits c)
above_is_shorter edits c p l e = chain_longer (classes edits) (forest edits l) c p e

-- ---- counts

-- counting on, in a count that wraps
pub count_on : (r a b : ℕ) → ((r + a) % 2 ^ 64 + b) % 2 ^ 64 ≡ (r + (a + b)) % 2 ^ 64
count_on r a b = mod-add-mod (r + a) (2 ^ 64) b ∙ ap (λ (n : ℕ). n % 2 ^ 64) (let e : r + a + b ≡ r + (a + b) = omega arith in e)

pub count_none : (r : ℕ) → r < 2 ^ 64 → r ≡ (r + 0) % 2 ^ 64
count_none r h = sym (ap (λ (n : ℕ). n % 2 ^ 64) (let e : r + 0 ≡ r = omega arith in e) ∙ mod-eq_of_lt h)
