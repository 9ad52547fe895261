-- What holds of a method that a text spells.
use Rattle.std.proofs.Common.{◌≡◌, ℕ, ◌+◌, ◌≤◌, true, not, leb, ◌&&◌, List, length}
use Rattle.std.specs.List.{list_all}
use Rattle.std.proofs.lemmas.Bool.{and_parts, leb-true}
use Rattle.std.proofs.lemmas.List.{length-append}
use Rattle.st_classes.specs.Selectors.{arity_of}
use Rattle.st_classes.specs.MethodSuits.{is_number}
use Rattle.st_reader.specs.Grammar.{method_toks, pattern_toks}
use Rattle.st_classes.specs.EditRules.{has_twice}
use Rattle.st_classes.specs.Selectors.{is_slot_name}
use Rattle.st_reader.specs.WellFormed.{body_allowed}
use Rattle.st_reader.specs.Spelling.{Spells}
use Rattle.st_reader.specs.Variables.{are_variables, argument_texts, arguments_of, locals_of, temporaries_of, texts}
use Rattle.st_reader.specs.Syntax.{Method}
use Rattle.st_compile.specs.Scopes.{pattern_selector}
use Rattle.st_compile.proofs.Arities.{number_few}
use Rattle.st_compile.proofs.Named.{AreNamed, cut_named, named_front, pattern_number}

-- the names of a spelled method
pub spelled_named : (m : Method) (text : List ℕ) → Spells m text → AreNamed (method_toks m)
spelled_named m text s = cut_named text (method_toks m) s.spelled.cut s.spelled.fits

pub spelled_pattern : (m : Method) (text : List ℕ) → Spells m text → is_number (arity_of (pattern_selector m.pattern)) (length (arguments_of m.pattern)) ≡ true
spelled_pattern m text s = pattern_number m.pattern s.spelled.grammar.pattern (named_front (pattern_toks m.pattern) _ (spelled_named m text s))

-- arguments and temporaries are the locals
pub locals_count : (m : Method) → length (locals_of m) ≡ length (arguments_of m.pattern) + length (temporaries_of m.temporaries)
locals_count m = length-append (arguments_of m.pattern) (temporaries_of m.temporaries)

-- a spelled method has no more than 64 arguments and temporaries
pub spelled_few : (m : Method) (text : List ℕ) → Spells m text → length (locals_of m) ≤ 64
spelled_few m text s =
    let names : List (List ℕ) = texts (locals_of m) in
    let variables = (and_parts (are_variables (locals_of m)) (body_allowed (argument_texts m.pattern) m.body) s.rules).0 in
    leb-true (length (locals_of m)) 64 (and_parts (list_all is_slot_name names && not (has_twice names)) (leb (length (locals_of m)) 64) variables).1

pub spelled_arguments : (m : Method) (text : List ℕ) → Spells m text → length (arguments_of m.pattern) ≤ 8
spelled_arguments m text s = number_few (pattern_selector m.pattern) (length (arguments_of m.pattern)) (spelled_pattern m text s)

pub spelled_locals : (m : Method) (text : List ℕ) → Spells m text → length (arguments_of m.pattern) + length (temporaries_of m.temporaries) ≤ 64
spelled_locals m text s = rw (← locals_count m) (spelled_few m text s)
