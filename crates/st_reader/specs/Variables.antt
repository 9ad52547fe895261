-- The variables of a method: its arguments, then its temporaries.
use Rattle.std.specs.Prelude.{ℕ, ◌&&◌, List, [], ◌∷◌, ◌++◌, length, map, Bool, not, Option, Some, None, nat_le}
use Rattle.std.specs.List.{list_all}
use Rattle.st_classes.specs.Selectors.{is_slot_name}
use Rattle.st_classes.specs.EditRules.{has_twice}
use Rattle.st_reader.specs.declared.trees.Name.{Name}
use Rattle.st_reader.specs.declared.trees.Pattern.{Pattern}
use Rattle.st_reader.specs.declared.trees.Pattern.TheVariants.{Unary, Binary, Keyword}
use Rattle.st_reader.specs.declared.trees.Temporaries.{Temporaries}
use Rattle.st_reader.specs.Syntax.{Method}

-- the arguments of a pattern
abbrev pub arguments_of : Pattern → List Name
arguments_of (Unary n) = []
arguments_of (Binary n argument) = argument ∷ []
arguments_of (Keyword ps) = map (λ p. p.argument) ps

-- the temporaries between bars
abbrev pub temporaries_of : Option Temporaries → List Name
temporaries_of None = []
temporaries_of (Some t) = t.names

-- the arguments of a method, then its temporaries
abbrev pub locals_of : Method → List Name
locals_of m = arguments_of m.pattern ++ temporaries_of m.temporaries

-- the texts of names
abbrev pub texts : List Name → List (List ℕ)
texts names = map (λ n. n.text) names

-- the texts of the arguments of a pattern
abbrev pub argument_texts : Pattern → List (List ℕ)
argument_texts p = texts (arguments_of p)

-- each is an identifier that starts with a lower-case letter and is not reserved, all are different, and there are at
-- most 64
abbrev pub are_variables : List Name → Bool
are_variables names = list_all is_slot_name (texts names) && not (has_twice (texts names)) && nat_le (length names) 64
