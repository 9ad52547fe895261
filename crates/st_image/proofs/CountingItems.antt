-- The posts and the steps of a history, item by item.
use Rattle.std.proofs.Common.{arith, ◌≡◌, ℕ, ◌+◌, ◌≤◌, ◌++◌, [], ◌∷◌, List, refl, ap, ap₂, sym, ◌∙◌}
use Rattle.st_classes.specs.declared.values.ActorId.{ActorId}
use Rattle.st_mailbox.specs.declared.messages.Message.{Message}
use Rattle.st_image.specs.declared.history.Item.{Item}
use Rattle.st_image.specs.declared.history.Item.TheVariants.{Posted, Ran}
use Rattle.st_image.specs.declared.counts.Counts.{Counts}
use Rattle.st_image.specs.Counts.{CountsItems, most_counted, posts_of, ran_of, weigh}
use Rattle.st_image.specs.EarlierCounts.{EarlierCounts}

pub weigh_append : (f : Item → ℕ) (xs ys : List Item) → weigh f (xs ++ ys) ≡ weigh f xs + weigh f ys
weigh_append f [] ys = omega arith
weigh_append f (x ∷ xs) ys = omega (arith, weigh_append f xs ys)

counted_by : (p q s t : ℕ) → p ≡ q → s ≡ t → (let c : Counts = record { posts = p; steps = s } in c) ≡ record { posts = q; steps = t }
counted_by p q s t e f = ap₂ (λ (x y : ℕ). let c : Counts = record { posts = x; steps = y } in c) e f

-- an item with a post or not, and some steps
counts_one : (c d : Counts) (e : EarlierCounts) (h : List Item) (i : Item) → d.posts ≡ c.posts + posts_of i → d.steps ≡ c.steps + ran_of i → e.posts + weigh posts_of h + posts_of i ≤ most_counted → e.steps + weigh ran_of h + ran_of i ≤ most_counted → CountsItems c e h → CountsItems d e (h ++ i ∷ [])
counts_one c d e h i posts steps some few k =
    let p : weigh posts_of (h ++ i ∷ []) ≡ weigh posts_of h + posts_of i = omega (arith, weigh_append posts_of h (i ∷ [])) in
    let s : weigh ran_of (h ++ i ∷ []) ≡ weigh ran_of h + ran_of i = omega (arith, weigh_append ran_of h (i ∷ [])) in
    record {
      counts = counted_by d.posts (weigh posts_of (h ++ i ∷ [])) d.steps (weigh ran_of (h ++ i ∷ [])) (posts ∙ ap (λ (x : Counts). x.posts + posts_of i) k.counts ∙ sym p) (steps ∙ ap (λ (x : Counts). x.steps + ran_of i) k.counts ∙ sym s);
      few_posts = omega (arith, p, some);
      few_steps = omega (arith, s, few);
    }

-- an item that is no post and has no steps
pub items_other : (c : Counts) (e : EarlierCounts) (h : List Item) (i : Item) → posts_of i ≡ 0 → ran_of i ≡ 0 → CountsItems c e h → CountsItems c e (h ++ i ∷ [])
items_other c e h i posts steps k = counts_one c c e h i (omega (arith, posts)) (omega (arith, steps)) (omega (arith, posts, k.few_posts)) (omega (arith, steps, k.few_steps)) k

-- a post
pub items_posted : (c : Counts) (e : EarlierCounts) (h : List Item) (a : ActorId) (m : Message) → e.posts + weigh posts_of h + 1 ≤ most_counted → CountsItems c e h → CountsItems (record c { posts = c.posts + 1 }) e (h ++ Posted a m ∷ [])
items_posted c e h a m room k = counts_one c (record c { posts = c.posts + 1 }) e h (Posted a m) refl (omega arith) room (omega (arith, k.few_steps)) k

-- steps
pub items_ran : (c : Counts) (e : EarlierCounts) (h : List Item) (a : ActorId) (n : ℕ) → e.steps + weigh ran_of h + n ≤ most_counted → CountsItems c e h → CountsItems (record c { steps = c.steps + n }) e (h ++ Ran a n ∷ [])
items_ran c e h a n room k = counts_one c (record c { steps = c.steps + n }) e h (Ran a n) (omega arith) refl (omega (arith, k.few_posts)) room k
