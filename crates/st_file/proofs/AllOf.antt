-- Lists that mean something item by item.
use Rattle.std.proofs.Common.{◌≡◌, ℕ, ◌+◌, ◌<◌, List, [], ◌∷◌, ◌++◌, length, get_or, take, drop, Option, Some, None, slice_get, refl, ap, ◌∙◌, sym, drop-cons, add-one}
use Rattle.std.proofs.lemmas.List.{take_more}
use Rattle.std.proofs.lemmas.Option.{slice_get_within, get_or_from_slice_get}
use Rattle.st_wire.specs.Fields.{cons_of}
use Rattle.st_wire.proofs.Lists.{after, after_one}
use Rattle.st_file.specs.Meanings.{all_of}

-- one item more
pub all-more : {S T : Type 0} (f : S → Option T) (xs : List S) (i : ℕ) (x : S) (y : T) (found more : List T) → i < length xs → x ≡ get_or xs i x → f x ≡ Some y
    → more ≡ found ++ y ∷ [] → all_of f xs ≡ after found (all_of f (drop i xs)) → all_of f xs ≡ after more (all_of f (drop (i + 1) xs))
all-more f xs i x y found more h at e longer so_far =
    let here : f (get_or xs i x) ≡ Some y = ap f (sym at) ∙ e in
    so_far ∙ rw (longer, add-one, drop-cons xs i x, here) (after_one found y _)

-- an item that is none
pub all-none : {S T : Type 0} (f : S → Option T) (xs : List S) (i : ℕ) (x : S) (found : List T) → i < length xs → x ≡ get_or xs i x → f x ≡ None
    → all_of f xs ≡ after found (all_of f (drop i xs)) → all_of f xs ≡ None
all-none f xs i x found h at e so_far =
    let here : f (get_or xs i x) ≡ None = ap f (sym at) ∙ e in
    so_far ∙ rw (drop-cons xs i x, here)

further : {T : Type 0} (o : Option T) (p q : Option (List T)) (ys : List T) (y : T) → ((zs : List T) → p ≡ Some zs → q ≡ Some (zs ++ y ∷ [])) → cons_of o p ≡ Some ys → cons_of o q ≡ Some (ys ++ y ∷ [])
further None p q ys y k h = cc
further (Some z) None q ys y k h = cc
further (Some z) (Some zs) q ys y k h =
    let e : z ∷ zs ≡ ys = cc in
    rw (k zs refl) (ap (λ (us : List _). Some (us ++ y ∷ [])) e)

-- an item behind others
pub all-push : {S T : Type 0} (f : S → Option T) (xs : List S) (x : S) (ys : List T) (y : T) → all_of f xs ≡ Some ys → f x ≡ Some y → all_of f (xs ++ x ∷ []) ≡ Some (ys ++ y ∷ [])
all-push f [] x ys y h e = let s : [] ≡ ys = cc in rw e (ap (λ (us : List _). Some (us ++ y ∷ [])) s)
all-push f (z ∷ xs) x ys y h e = further (f z) (all_of f xs) (all_of f (xs ++ x ∷ [])) ys y (λ zs k. all-push f xs x zs y k e) h

-- the next of some parts is told
pub all-told : {S T : Type 0} (f : S → Option T) (told : List S) (parts : List T) (i : ℕ) (d : T) (t : S) → i < length parts → all_of f told ≡ Some (take i parts) → f t ≡ Some (get_or parts i d) → all_of f (told ++ t ∷ []) ≡ Some (take (i + 1) parts)
all-told f told parts i d t h e next = all-push f told t (take i parts) (get_or parts i d) e next ∙ ap Some (sym (take_more parts i d h))

-- the same, by the part at its place
pub all-told-at : {S T : Type 0} (f : S → Option T) (told : List S) (parts : List T) (i : ℕ) (x : T) (t : S) → slice_get parts i ≡ Some x → all_of f told ≡ Some (take i parts) → f t ≡ Some x → all_of f (told ++ t ∷ []) ≡ Some (take (i + 1) parts)
all-told-at f told parts i x t at e next = all-told f told parts i x t (slice_get_within parts i x at) e (next ∙ ap Some (sym (get_or_from_slice_get parts i x x at)))
