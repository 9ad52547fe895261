-- Beginnings of one list, and images that go on in one another.
use Rattle.std.proofs.Common.{◌≡◌, ◌≤◌, List, [], ◌∷◌, ◌++◌, length, refl, ap, sym, ◌∙◌, subst, arith, append_assoc, length-append, inl, inr}
use Rattle.std.specs.Prelude.{All}
use Rattle.std.proofs.lemmas.List.Elements.{All-nil, All-cons, All-head, All-tail, All-push}
use mathlib.Core.List.{IsPrefix}
use Rattle.st_image.specs.Images.{ImageView}
use Rattle.st_image.specs.GoingOn.{GoesOnIn}
use Rattle.st_calls.proofs.GoingThen.{goes_same, goes_then}
use Rattle.st_pool.specs.Seen.{Along, Ends, LeadsTo, MayFollow}

-- of two beginnings of one list the shorter begins the longer
pub prefix_shorter : {A : Type 0} (xs ys zs : List A) → IsPrefix xs zs → IsPrefix ys zs → length xs ≤ length ys → IsPrefix xs ys
prefix_shorter [] ys zs p q le = (ys, refl)
prefix_shorter (x ∷ xs) [] zs p q le = absurd (omega arith)
prefix_shorter (x ∷ xs) (y ∷ ys) [] p q le = absurd (cc (p.1))
prefix_shorter (x ∷ xs) (y ∷ ys) (z ∷ zs) p q le =
    let heads : x ≡ y = cc (p.1, q.1) in
    let rest = prefix_shorter xs ys zs (p.0, cc (p.1)) (q.0, cc (q.1)) (omega arith) in
    (rest.0, cc (heads, rest.1))

-- a beginning as long as the whole is the whole
pub prefix_whole : {A : Type 0} (xs ys : List A) → IsPrefix xs ys → length ys ≤ length xs → xs ≡ ys
prefix_whole [] [] p le = refl
prefix_whole [] (y ∷ ys) p le = absurd (omega arith)
prefix_whole (x ∷ xs) [] p le = absurd (cc (p.1))
prefix_whole (x ∷ xs) (y ∷ ys) p le =
    let rest = prefix_whole xs ys (p.0, cc (p.1)) (omega arith) in cc (p.1, rest)

last_all : (P : ImageView → Type 0) (bs : List ImageView) (l : ImageView) → All P (bs ++ l ∷ []) → P l
last_all P [] l h = All-head P l [] h
last_all P (b ∷ bs) l h = last_all P bs l (All-tail P b (bs ++ l ∷ []) h)

leads_all : (bs : List ImageView) (l e : ImageView) → Along (bs ++ l ∷ []) → GoesOnIn l e → All (λ x. GoesOnIn x e) (bs ++ l ∷ [])
leads_all [] l e h g = All-cons (λ x. GoesOnIn x e) l [] g (All-nil (λ x. GoesOnIn x e))
leads_all (b ∷ bs) l e h g = All-cons (λ x. GoesOnIn x e) b (bs ++ l ∷ []) (goes_then b l e (last_all (GoesOnIn b) bs l h.0) g) (leads_all bs l e h.1 g)

along_push : (xs : List ImageView) (e : ImageView) → Along xs → All (λ x. GoesOnIn x e) xs → Along (xs ++ e ∷ [])
along_push [] e h a = (All-nil (GoesOnIn e), tt)
along_push (x ∷ xs) e h a = (All-push (GoesOnIn x) xs e h.0 (All-head (λ y. GoesOnIn y e) x xs a), along_push xs e h.1 (All-tail (λ y. GoesOnIn y e) x xs a))

-- an image that may follow does
pub along_more : (log : List ImageView) (e : ImageView) → Along log → MayFollow log e → Along (log ++ e ∷ [])
along_more log e h (inl none) = subst (λ (l : List ImageView). Along (l ++ e ∷ [])) (sym none) (All-nil (GoesOnIn e), tt)
along_more log e h (inr leads) =
    let i = leads.0 in
    let before = leads.1.0 in
    along_push log e h (subst (λ (l : List ImageView). All (λ x. GoesOnIn x e) l) (sym leads.1.1) (leads_all before i e (subst Along leads.1.1 h) leads.2))

reached : (bs cs rest : List ImageView) (i k : ImageView) → Along (cs ++ k ∷ []) → cs ++ k ∷ [] ≡ bs ++ i ∷ rest → GoesOnIn i k
reached [] [] rest i k h e = let same : k ≡ i = cc e in subst (λ (x : ImageView). GoesOnIn x k) same (goes_same k)
reached [] (c ∷ cs) rest i k h e = let same : c ≡ i = cc e in subst (λ (x : ImageView). GoesOnIn x k) same (last_all (GoesOnIn c) cs k h.0)
reached (b ∷ bs) [] rest i k h e = absurd (omega (arith, ap length e, length-append bs (i ∷ rest)))
reached (b ∷ bs) (c ∷ cs) rest i k h e = reached bs cs rest i k h.1 (cc e)

-- the last image of a beginning goes on in what the last image of the whole goes on in
pub carries : (ls all : List ImageView) (i j : ImageView) → Along all → IsPrefix ls all → Ends ls i → LeadsTo all j → GoesOnIn i j
carries ls all i j h p ends leads =
    let k = leads.0 in
    let cs = leads.1.0 in
    let at : cs ++ k ∷ [] ≡ ends.0 ++ i ∷ p.0 = sym leads.1.1 ∙ sym p.1 ∙ ap (λ (l : List ImageView). l ++ p.0) ends.1 ∙ append_assoc ends.0 (i ∷ []) p.0 in
    goes_then i k j (reached ends.0 cs p.0 i k (subst Along leads.1.1 h) at) leads.2

-- behind a list that begins with one that has an end, only what is led to may follow
pub follows_leads : (ls all : List ImageView) (i j : ImageView) → IsPrefix ls all → Ends ls i → MayFollow all j → LeadsTo all j
follows_leads ls all i j p ends (inl none) = absurd (omega (arith, ap length p.1, length-append ls p.0, ap length ends.1, length-append ends.0 (i ∷ []), ap length none))
follows_leads ls all i j p ends (inr leads) = leads

-- what may follow an image's beginning may follow it later
pub follows_later : (log : List ImageView) (i j : ImageView) → GoesOnIn i j → MayFollow log i → MayFollow log j
follows_later log i j g (inl none) = inl none
follows_later log i j g (inr leads) = inr (leads.0, leads.1, goes_then leads.0 i j leads.2 g)
