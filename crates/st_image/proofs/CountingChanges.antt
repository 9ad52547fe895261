-- How often bodies were changed, along a history.
use Rattle.std.proofs.Common.{arith, ◌≡◌, ◌+◌, ◌≤◌, ◌==◌, ◌++◌, ℕ, [], ◌∷◌, List, ap, ◌∙◌, length, Bool, true, false, cond, append-nil}
use Rattle.std.proofs.lemmas.Bool.Decides.{nat_tests}
use Rattle.std.proofs.lemmas.List.Sums.{count_by-le-length}
use Rattle.st_classes.specs.declared.values.ActorId.{ActorId}
use Rattle.st_image.specs.declared.history.Item.{Item}
use Rattle.st_image.specs.declared.history.Item.TheVariants.{Begun}
use Rattle.st_image.specs.Changes.{CountsChanges, change_count, changes_body, changes_in}
use Rattle.st_image.proofs.BodyChanges.{changes_append}
use Rattle.st_image.proofs.CheckingOut.{begun_items}

pub few_changes : (h : List Item) (a : ℕ) → changes_in h a ≤ length h
few_changes h a = count_by-le-length (changes_body a) h

-- an item that changes no body
pub counts_other : (counts : List ℕ) (h : List Item) (i : Item) → ((a : ℕ) → changes_body a i ≡ false) → CountsChanges counts h → CountsChanges counts (h ++ i ∷ [])
counts_other counts h i none k = λ a.
    let one : changes_in (i ∷ []) a ≡ 0 = ap (λ (t : Bool). 0 + cond t 1 0) (none a) in
    omega (arith, k a, one, changes_append h (i ∷ []) a)

-- numbers that are the same
pub counts_same : (counts others : List ℕ) (h : List Item) → ((a : ℕ) → change_count others a ≡ change_count counts a) → CountsChanges counts h → CountsChanges others h
counts_same counts others h same k = λ a. same a ∙ k a

same_test : (m n : ℕ) → (m == n) ≡ (n == m)
same_test m n = grind (arith, nat_tests)

-- an item that changes the body of an actor
pub counts_one : (counts made others : List ℕ) (h : List Item) (i : Item) (b : ℕ) → ((a : ℕ) → changes_body a i ≡ (b == a)) → ((a : ℕ) → change_count made a ≡ change_count counts a)
    → ((a : ℕ) → change_count others a ≡ change_count made a + cond (a == b) 1 0) → CountsChanges counts h → CountsChanges others (h ++ i ∷ [])
counts_one counts made others h i b is same raised k = λ a.
    let one : changes_in (i ∷ []) a ≡ 0 + cond (a == b) 1 0 = ap (λ (t : Bool). 0 + cond t 1 0) (is a ∙ same_test b a) in
    omega (arith, k a, same a, raised a, one, changes_append h (i ∷ []) a)

-- the changes of an actor after a checkout, by whether a message begins
pub changes_out : (h : List Item) (b : ActorId) (t : Bool) → changes_in (h ++ begun_items t b) b.0 ≡ changes_in h b.0 + cond t 1 0
changes_out h b true =
    let here : changes_in (Begun b ∷ []) b.0 ≡ 0 + 1 = (let s : (b.0 == b.0) ≡ true = grind (arith, nat_tests) in ap (λ (t : Bool). 0 + cond t 1 0) s) in
    omega (arith, here, changes_append h (Begun b ∷ []) b.0)
changes_out h b false = ap (λ (is : List Item). changes_in is b.0) (append-nil h) ∙ omega arith

-- the stamp of a claim that is handed out
pub stamp_is : (earlier : ℕ) (h : List Item) (b : ActorId) (t : Bool) (n : ℕ) → n ≡ earlier + changes_in h b.0 + cond t 1 0 → n ≡ earlier + changes_in (h ++ begun_items t b) b.0
stamp_is earlier h b t n e = omega (arith, e, changes_out h b t)
