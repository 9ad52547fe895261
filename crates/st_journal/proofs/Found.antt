-- A text that is found is a name.
use Rattle.std.proofs.Common.{◌≡◌, ℕ, List, Bool, true, false, Option, Some, None, option_map, refl}
use Rattle.st_classes.specs.Names.{is_name}
use Rattle.std.specs.Option.{is_some}
use Rattle.st_classes.specs.declared.values.Selector.{Selector}
use Rattle.st_classes.specs.Kernel.{selector}
use Rattle.st_classes.specs.Selectors.{place_of}
use Rattle.st_classes.proofs.Naming.{absent, place_of-at}
use Rattle.st_image.proofs.LoadedNames.{not_found, place_found}

-- a text that is found is a name
pub found_known : (names : List (List ℕ)) (text : List ℕ) (o : Option Selector) → o ≡ option_map selector (place_of names text) → is_some o ≡ true → is_name names text ≡ true
found_known names text None is found = cc
found_known names text (Some s) is found = by (is_name names text) refl
  where
    by : (b : Bool) → is_name names text ≡ b → is_name names text ≡ true
    by true e = e
    by false e = absurd (absent names text s.0 e (place_of-at names text s.0 (place_found (place_of names text) s is)))

-- and one that is not found is none
pub not_found_new : (names : List (List ℕ)) (text : List ℕ) (o : Option Selector) → o ≡ option_map selector (place_of names text) → is_some o ≡ false → is_name names text ≡ false
not_found_new names text None is found = not_found names text is
not_found_new names text (Some s) is found = cc
