-- What is kept beside the world goes on, entry by entry.
use Rattle.std.proofs.Common.{◌≡◌, ℕ, ◌+◌, ◌<◌, List, [], ◌∷◌, ◌++◌, Bool, true, false, map, arith, refl, sym, ap, ap₂, subst, ◌∙◌}
use Rattle.std.specs.Prelude.{◌&&◌, ◌==◌}
use Rattle.st_classes.specs.declared.edits.Edit.TheVariants.{Define, Install, Remove, Reparent}
use Rattle.st_image.specs.declared.counts.Counts.{Counts}
use Rattle.st_image.specs.declared.history.Item.{Item}
use Rattle.st_image.specs.declared.history.Item.TheVariants.{Edited, Created, Posted, Closed, Begun, Ran}
use Rattle.st_image.specs.Checkpoints.{BeginsAnew}
use Rattle.st_image.specs.Commits.{out_at}
use Rattle.st_image.specs.Counts.{posts_of, ran_of, weigh}
use Rattle.st_image.specs.EarlierCounts.{EarlierCounts}
use Rattle.st_image.specs.Images.{ImageView, counts_of, world}
use Rattle.st_image.specs.Scheduling.{is_free_at, is_ready_at}
use Rattle.st_image.specs.Worlds.{World}
use Rattle.st_image.proofs.CountingItems.{weigh_append}
use Rattle.st_journal.specs.declared.entries.Entry.{Entry}
use Rattle.st_journal.specs.declared.entries.Entry.TheVariants as entry
use Rattle.st_journal.specs.Entries.{Does, IsNamed, Leads, SameOut, told}
use Rattle.st_journal.specs.Marks.{did}
use Rattle.st_journal.specs.Recovery.{GoesOn, NoneOut, RedoneGoesOn, but_names, counts_before, posts_told, steps_told, sum_of, told_mark}

-- ---- one entry

item_posts : (x : Item) → posts_of x ≡ posts_told (told x)
item_posts (Edited (Define name parent slots)) = refl
item_posts (Edited (Install c m)) = refl
item_posts (Edited (Remove c s)) = refl
item_posts (Edited (Reparent c p)) = refl
item_posts (Created c) = refl
item_posts (Posted a m) = refl
item_posts (Closed a) = refl
item_posts (Begun a) = refl
item_posts (Ran a n) = refl

item_steps : (x : Item) → ran_of x ≡ steps_told (told x)
item_steps (Edited (Define name parent slots)) = refl
item_steps (Edited (Install c m)) = refl
item_steps (Edited (Remove c s)) = refl
item_steps (Edited (Reparent c p)) = refl
item_steps (Created c) = refl
item_steps (Posted a m) = refl
item_steps (Closed a) = refl
item_steps (Begun a) = refl
item_steps (Ran a n) = refl

-- an entry goes on from an image to the next
record GoesOne (i : ImageView) (e : Entry) (j : ImageView) : Type 0 where
  posts : (counts_of j).posts ≡ (counts_of i).posts + posts_told e
  steps : (counts_of j).steps ≡ (counts_of i).steps + steps_told e
  out : SameOut i j

-- one item more
one_more_item : (f : Item → ℕ) (x : Item) (h g : List Item) (p q n : ℕ) → g ≡ h ++ x ∷ [] → q ≡ p → f x ≡ n → q + weigh f g ≡ p + weigh f h + n
one_more_item f x h g p q n longer same is = omega (arith, ap (λ (xs : List Item). weigh f xs) longer, weigh_append f h (x ∷ []), same, is)

does_one : (i : ImageView) (e : Entry) (j : ImageView) → Does i e j → GoesOne i e j
does_one i e j d =
    let x : Item = d.happened in
    let longer : j.history ≡ i.history ++ x ∷ [] = ap (λ (k : ImageView). k.history) d.redone.image in
    let earlier = d.redone.beside.earlier in
    record {
      posts = one_more_item posts_of x i.history j.history i.standing.earlier.posts j.standing.earlier.posts (posts_told e) longer (ap (λ (s : EarlierCounts). s.posts) earlier) (item_posts x ∙ ap posts_told d.telling);
      steps = one_more_item ran_of x i.history j.history i.standing.earlier.steps j.standing.earlier.steps (steps_told e) longer (ap (λ (s : EarlierCounts). s.steps) earlier) (item_steps x ∙ ap steps_told d.telling);
      out = d.redone.beside.out;
    }

nothing_more : (n m : ℕ) → m ≡ n → m ≡ n + 0
nothing_more n m same = omega (arith, same)

name_one : (i : ImageView) (text : List ℕ) (j : ImageView) → IsNamed i text j → GoesOne i (entry.Name text) j
name_one i text j d = record {
  posts = nothing_more _ _ (ap (λ (k : ImageView). (counts_of k).posts) d.image);
  steps = nothing_more _ _ (ap (λ (k : ImageView). (counts_of k).steps) d.image);
  out = λ a few. ap (λ (k : ImageView). out_at k a) d.image;
}

anew_one : (i j : ImageView) → BeginsAnew i j → GoesOne i entry.Checkpoint j
anew_one i j d = record {
  posts = nothing_more _ _ (ap (λ (c : Counts). c.posts) d.counts);
  steps = nothing_more _ _ (ap (λ (c : Counts). c.steps) d.counts);
  out = λ a few. ap (λ (k : ImageView). out_at k a) d.image;
}

leads_one : (i : ImageView) (e : Entry) (j : ImageView) → Leads i e j → GoesOne i e j
leads_one i (entry.Name text) j d = name_one i text j d
leads_one i entry.Checkpoint j d = anew_one i j d
leads_one i (entry.Define name parent slots) j d = does_one i (entry.Define name parent slots) j d
leads_one i (entry.Install class source) j d = does_one i (entry.Install class source) j d
leads_one i (entry.Remove class selector) j d = does_one i (entry.Remove class selector) j d
leads_one i (entry.Reparent class parent) j d = does_one i (entry.Reparent class parent) j d
leads_one i (entry.Created class) j d = does_one i (entry.Created class) j d
leads_one i (entry.Posted actor message) j d = does_one i (entry.Posted actor message) j d
leads_one i (entry.Closed actor) j d = does_one i (entry.Closed actor) j d
leads_one i (entry.Begun actor) j d = does_one i (entry.Begun actor) j d
leads_one i (entry.Ran actor steps) j d = does_one i (entry.Ran actor steps) j d

-- ---- all entries

one_then_rest : (p q r n m : ℕ) → q ≡ p + n → r ≡ q + m → r ≡ p + (n + m)
one_then_rest p q r n m first rest = omega (arith, first, rest)

same_out : (i j k : ImageView) → SameOut i j → SameOut j k → SameOut i k
same_out i j k first rest a few = let here = first a few in rest a (subst (λ (n : ℕ). n < 4294967295) (sym here) few) ∙ here

pub goes_on : RedoneGoesOn
goes_on i j [] l = record {
  posts = nothing_more _ _ (ap (λ (k : ImageView). (counts_of k).posts) l);
  steps = nothing_more _ _ (ap (λ (k : ImageView). (counts_of k).steps) l);
  out = λ a few. ap (λ (k : ImageView). out_at k a) l;
}
goes_on i j (e ∷ es) l =
    let first = leads_one i e l.0 l.1 in
    let rest = goes_on l.0 j es l.3 in
    record {
      posts = one_then_rest (counts_of i).posts (counts_of l.0).posts (counts_of j).posts (posts_told e) (sum_of posts_told es) first.posts rest.posts;
      steps = one_then_rest (counts_of i).steps (counts_of l.0).steps (counts_of j).steps (steps_told e) (sum_of steps_told es) first.steps rest.steps;
      out = same_out i l.0 j first.out rest.out;
    }

-- ---- the history of an image

-- names count for nothing
but_names_sum : (f : Entry → ℕ) → ((t : List ℕ) → f (entry.Name t) ≡ 0) → (es : List Entry) → sum_of f es ≡ sum_of f (but_names es)
but_names_sum f h [] = refl
but_names_sum f h (entry.Name text ∷ es) = omega (arith, h text, but_names_sum f h es)
but_names_sum f h (entry.Checkpoint ∷ es) = ap (λ (n : ℕ). f entry.Checkpoint + n) (but_names_sum f h es)
but_names_sum f h (entry.Define name parent slots ∷ es) = ap (λ (n : ℕ). f (entry.Define name parent slots) + n) (but_names_sum f h es)
but_names_sum f h (entry.Install class source ∷ es) = ap (λ (n : ℕ). f (entry.Install class source) + n) (but_names_sum f h es)
but_names_sum f h (entry.Remove class selector ∷ es) = ap (λ (n : ℕ). f (entry.Remove class selector) + n) (but_names_sum f h es)
but_names_sum f h (entry.Reparent class parent ∷ es) = ap (λ (n : ℕ). f (entry.Reparent class parent) + n) (but_names_sum f h es)
but_names_sum f h (entry.Created class ∷ es) = ap (λ (n : ℕ). f (entry.Created class) + n) (but_names_sum f h es)
but_names_sum f h (entry.Posted actor message ∷ es) = ap (λ (n : ℕ). f (entry.Posted actor message) + n) (but_names_sum f h es)
but_names_sum f h (entry.Closed actor ∷ es) = ap (λ (n : ℕ). f (entry.Closed actor) + n) (but_names_sum f h es)
but_names_sum f h (entry.Begun actor ∷ es) = ap (λ (n : ℕ). f (entry.Begun actor) + n) (but_names_sum f h es)
but_names_sum f h (entry.Ran actor steps ∷ es) = ap (λ (n : ℕ). f (entry.Ran actor steps) + n) (but_names_sum f h es)

items_sum : (f : Entry → ℕ) (g : Item → ℕ) → ((x : Item) → g x ≡ f (told x)) → (h : List Item) → sum_of f (map told_mark (map did h)) ≡ weigh g h
items_sum f g same [] = refl
items_sum f g same (x ∷ h) = ap₂ (λ (n m : ℕ). n + m) (sym (same x)) (items_sum f g same h)

told_sum : (f : Entry → ℕ) (g : Item → ℕ) (es : List Entry) (h : List Item) → ((t : List ℕ) → f (entry.Name t) ≡ 0) → ((x : Item) → g x ≡ f (told x)) → but_names es ≡ map told_mark (map did h) → sum_of f es ≡ weigh g h
told_sum f g es h names same is = but_names_sum f names es ∙ ap (λ (xs : List Entry). sum_of f xs) is ∙ items_sum f g same h

counts_by : (p q s t : ℕ) → p ≡ q → s ≡ t → (let c : Counts = record { posts = p; steps = s } in c) ≡ record { posts = q; steps = t }
counts_by p q s t e f = ap₂ (λ (x y : ℕ). let c : Counts = record { posts = x; steps = y } in c) e f

-- the counts are those of the image whose history was told
pub same_counts : (i j k : ImageView) (es : List Entry) → GoesOn i es j → but_names es ≡ map told_mark (map did k.history) → counts_of i ≡ counts_before k → counts_of j ≡ counts_of k
same_counts i j k es on marks began =
    counts_by (counts_of j).posts (counts_of k).posts (counts_of j).steps (counts_of k).steps
    (on.posts ∙ ap₂ (λ (n m : ℕ). n + m) (ap (λ (c : Counts). c.posts) began) (told_sum posts_told posts_of es k.history (λ t. refl) item_posts marks))
    (on.steps ∙ ap₂ (λ (n m : ℕ). n + m) (ap (λ (c : Counts). c.steps) began) (told_sum steps_told ran_of es k.history (λ t. refl) item_steps marks))

none_of : (b : Bool) (n : ℕ) → n ≡ 0 → (b && (n == 0)) ≡ b
none_of true n none = ap (λ (m : ℕ). m == 0) none
none_of false n none = refl

-- an actor is free if it is ready, where no claim was out
pub free_where_ready : (i j k : ImageView) → SameOut i j → world j ≡ world k → NoneOut i → (a : ℕ) → is_free_at j a ≡ is_ready_at (world k) a
free_where_ready i j k same worlds none a =
    let few : out_at i a < 4294967295 = omega (arith, none a) in
    none_of (is_ready_at (world j) a) (out_at j a) (same a few ∙ none a) ∙ ap (λ (w : World). is_ready_at w a) worlds
