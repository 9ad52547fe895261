-- Mailboxes that are filled, one message after the other.
use Rattle.std.proofs.Common.{arith, ◌≡◌, ℕ, ◌+◌, ◌<◌, ◌++◌, [], ◌∷◌, List, length, take, get_or, None, true, false, refl, ap, sym, ◌∙◌, add-one, nat_le}
use Rattle.std.proofs.lemmas.Bool.Decides.{nat_tests}
use Rattle.std.proofs.Math.Seq.{take-suc}
use Rattle.st_mailbox.specs.declared.messages.Message.{Message}
use Rattle.st_mailbox.specs.Mailboxes.{BoxView, box_refusal, with_message}

-- one item more of the first ones
pub first_more : {X : Type 0} (xs : List X) (n : ℕ) (x : X) → n < length xs → x ≡ get_or xs n x → take (n + 1) xs ≡ take n xs ++ x ∷ []
first_more xs n x h e = ap (λ (m : ℕ). take m xs) (add-one n) ∙ take-suc xs n x h ∙ ap (λ y. take n xs ++ y ∷ []) (sym e)

-- a mailbox with some messages
abbrev pub holding : BoxView → List Message → BoxView
holding b ms = record b { items = ms }

pub holds_none : (b : BoxView) → b.items ≡ [] → b ≡ holding b []
holds_none b e = ap (λ (ms : List Message). holding b ms) e

-- an open one that holds fewer than it can refuses none
pub has_place : (b : BoxView) (ms : List Message) → b.is_open ≡ true → length ms < b.capacity → box_refusal (holding b ms) ≡ None
has_place b ms opened few =
    let full : nat_le b.capacity (length ms) ≡ false = grind (arith, nat_tests) in
    rw (opened, full) refl

pub holds_more : (b c : BoxView) (ms : List Message) (n : ℕ) (m x : Message) → c ≡ with_message m (holding b (take n ms)) → m ≡ x → n < length ms → x ≡ get_or ms n x → c ≡ holding b (take (n + 1) ms)
holds_more b c ms n m x e f h g =
    e ∙ ap (λ (y : Message). holding b (take n ms ++ y ∷ [])) f ∙ ap (holding b) (sym (first_more ms n x h g))
