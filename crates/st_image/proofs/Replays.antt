-- A history with one item more.
use Rattle.std.proofs.Common.{◌≡◌, ◌++◌, [], ◌∷◌, List, Option, Some, None, refl, ap, ◌∙◌, unwrap_or, option_and_then}
use Rattle.st_image.specs.declared.history.Item.{Item}
use Rattle.st_image.specs.Worlds.{Constants, World}
use Rattle.st_image.specs.Replay.{next, replay}
use Rattle.st_image.specs.Images.{world_of}

then_some : (o : Option World) → option_and_then (λ (v : World). Some v) o ≡ o
then_some None = refl
then_some (Some v) = refl

then_assoc : (o : Option World) (f g : World → Option World) → option_and_then (λ v. option_and_then g (f v)) o ≡ option_and_then g (option_and_then f o)
then_assoc None f g = refl
then_assoc (Some v) f g = refl

on_each : (o : Option World) (f g : World → Option World) → ((v : World) → f v ≡ g v) → option_and_then f o ≡ option_and_then g o
on_each None f g h = refl
on_each (Some v) f g h = h v

-- one item more at the end
pub replay_push : (c : Constants) (w : World) (is : List Item) (i : Item) → replay c w (is ++ i ∷ []) ≡ option_and_then (λ v. next c v i) (replay c w is)
replay_push c w [] i = then_some (next c w i)
replay_push c w (j ∷ is) i = on_each (next c w j) (λ v. replay c v (is ++ i ∷ [])) (λ v. option_and_then (λ u. next c u i) (replay c v is)) (λ v. replay_push c v is i) ∙ then_assoc (next c w j) (λ v. replay c v is) (λ v. next c v i)

-- one history after another
pub replay_append : (c : Constants) (w : World) (is js : List Item) → replay c w (is ++ js) ≡ option_and_then (λ v. replay c v js) (replay c w is)
replay_append c w [] js = refl
replay_append c w (i ∷ is) js = on_each (next c w i) (λ v. replay c v (is ++ js)) (λ v. option_and_then (λ u. replay c u js) (replay c v is)) (λ v. replay_append c v is js) ∙ then_assoc (next c w i) (λ v. replay c v is) (λ v. replay c v js)

-- a lawful history with one lawful item more
pub lawful_push : (c : Constants) (base : World) (h : List Item) (i : Item) (v : World) → replay c base h ≡ Some (world_of c base h) → next c (world_of c base h) i ≡ Some v → (replay c base (h ++ i ∷ []) ≡ Some v) × (world_of c base (h ++ i ∷ []) ≡ v)
unfolding world_of
lawful_push c base h i v l n =
    let r : replay c base (h ++ i ∷ []) ≡ Some v = replay_push c base h i ∙ ap (λ (o : Option World). option_and_then (λ w. next c w i) o) l ∙ n in
    (r, ap (λ (o : Option World). unwrap_or o base) r)
