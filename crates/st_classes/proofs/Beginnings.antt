-- Lists that begin others.
use Rattle.std.proofs.Common.{◌≡◌, ◌≤◌, ℕ, List, ◌++◌, sym, ◌∙◌, ap, length, take, drop, take-append-drop}
use Rattle.std.proofs.lemmas.List.{take_all}
use Rattle.st_classes.specs.declared.edits.Edit.{Edit}

-- a list whose edits are the first of another begins it
pub begins_whole : (xs ys : List Edit) (n : ℕ) → length xs ≤ n → take n xs ≡ take n ys → ys ≡ xs ++ drop n ys
begins_whole xs ys n l e = sym (take-append-drop n ys) ∙ ap (λ (zs : List Edit). zs ++ drop n ys) (sym e ∙ take_all n xs l)
