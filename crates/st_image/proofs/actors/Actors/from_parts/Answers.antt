use Rattle.std.proofs.Common.{arith, ◌≡◌, ◌++◌, ◌∷◌, [], ℕ, List, Some, length, length-append, refl, ap, ◌∙◌, slice_get}
use Rattle.std.specs.Prelude.{replicate}
use Rattle.std.proofs.lemmas.List.{map-append}
use Rattle.st_image.specs.declared.actor_part.ActorPart.{ActorPart}
use Rattle.st_image.specs.Parts.{actor_of}
use Rattle.st_image.specs.ActorViews.{ActorView, ActorsView, actor_view}
use Rattle.st_image.proofs.Bases.{kept_parts, none_more}

here : (before rest : List ActorPart) (p : ActorPart) → slice_get (before ++ p ∷ rest) (length before) ≡ Some p
here [] rest p = refl
here (q ∷ before) rest p = here before rest p

nothing_left : (l : List ActorPart) → length l ≡ 0 → l ≡ []
nothing_left [] h = refl
nothing_left (x ∷ xs) h = absurd (omega arith)

-- the actors of the parts so far, and of one more
abbrev made : List ActorPart → ActorsView
made ps = record { list = kept_parts ps; out = replicate (length ps) 0 }

one_more : (ps : List ActorPart) (p : ActorPart) → made (ps ++ p ∷ []) ≡ record { list = kept_parts ps ++ actor_view (actor_of p) ∷ []; out = replicate (length ps) 0 ++ 0 ∷ [] }
one_more ps p =
    ap (λ (ks : List ActorView). let w : ActorsView = record { list = ks; out = replicate (length (ps ++ p ∷ [])) 0 } in w) (map-append (λ (q : ActorPart). actor_view (actor_of q)) ps (p ∷ []))
    ∙ ap (λ (ns : List ℕ). let w : ActorsView = record { list = kept_parts ps ++ actor_view (actor_of p) ∷ []; out = ns } in w) (ap (λ (n : ℕ). replicate n 0) (length-append ps (p ∷ [])) ∙ none_more (length ps))
