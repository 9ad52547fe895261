-- The names that the code of a method needs, and how they are interned.
use Rattle.std.specs.Prelude.{◌≡◌, ℕ, List, ◌∷◌, ◌++◌, length, nat_lt, fold}
use Rattle.std.specs.List.{flat_map}
use Rattle.st_classes.specs.declared.refusals.Refusal.{Refusal}
use Rattle.st_classes.specs.declared.refusals.Refusal.TheVariants.{TooMany}
use Rattle.st_classes.specs.declared.refusals.Limited.TheVariants.{Names}
use Rattle.st_classes.specs.Names.{interned}
use Rattle.st_classes.specs.Refusals.{Rule}
use Rattle.st_reader.specs.Syntax.{Method}
use Rattle.st_compile.specs.Equations.{method_code}
use Rattle.st_compile.specs.NameResolution.{word_texts}
use Rattle.st_compile.specs.Scopes.{pattern_selector}

-- the texts for which a method needs numbers: its selector, then the selectors and symbols of its code
abbrev pub needed_texts : Method → List (List ℕ)
needed_texts m = pattern_selector m.pattern ∷ flat_map (λ l. word_texts l.word) (method_code m)

-- the names after texts are interned in order
abbrev pub interned_all : List (List ℕ) → List (List ℕ) → List (List ℕ)
interned_all names texts = fold interned names texts

-- a prefix of the texts was interned, in order
abbrev pub InternsFirst : List (List ℕ) → List (List ℕ) → List (List ℕ) → Type 0
InternsFirst names texts after =
    (done : List (List ℕ))
    × (left : List (List ℕ))
    × (texts ≡ done ++ left)
    × (after ≡ interned_all names done)

-- if a call answers that there are too many names, the table is full
abbrev pub IsFull : List (List ℕ) → Refusal → Type 0
IsFull after e = e ≡ TooMany Names → length after ≡ 8192

-- interning the texts would make more than 8,192 names
abbrev pub names_rule : List (List ℕ) → List (List ℕ) → Rule
names_rule names texts = (nat_lt 8192 (length (interned_all names texts)), TooMany Names)
