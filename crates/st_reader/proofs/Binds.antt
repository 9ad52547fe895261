-- Optional values that are there.
use Rattle.std.proofs.Common.{◌≡◌, ◌⊎◌, inl, inr, Bool, true, false, cond, Option, Some, None, refl}
use Rattle.std.specs.Prelude.{option_map, option_and_then}

pub some_is : {A : Type 0} (x y : A) (o : Option A) → o ≡ Some x → o ≡ Some y → x ≡ y
some_is x y o d e = cc

pub bind_some : {A B : Type 0} (o : Option A) (f : A → Option B) (y : B) → option_and_then f o ≡ Some y → (x : A) × (o ≡ Some x) × (f x ≡ Some y)
bind_some None f y e = absurd cc
bind_some (Some x) f y e = (x, refl, e)

pub map_some : {A B : Type 0} (o : Option A) (f : A → B) (y : B) → option_map f o ≡ Some y → (x : A) × (o ≡ Some x) × (f x ≡ y)
map_some None f y e = absurd cc
map_some (Some x) f y e = (x, refl, some_is (f x) y (Some (f x)) refl e)

-- a test that has to hold
pub tested : {A : Type 0} (b : Bool) (o : Option A) (y : A) → cond b o None ≡ Some y → (b ≡ true) × (o ≡ Some y)
tested true o y e = (refl, e)
tested false o y e = absurd cc

-- a test that answers a value, or goes on
pub either : {A : Type 0} (b : Bool) (o p : Option A) (y : A) → cond b o p ≡ Some y → ((b ≡ true) × (o ≡ Some y)) ⊎ ((b ≡ false) × (p ≡ Some y))
either true o p y e = inl (refl, e)
either false o p y e = inr (refl, e)
