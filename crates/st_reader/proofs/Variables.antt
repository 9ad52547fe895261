-- Arguments and temporaries.
use Rattle.std.proofs.Common.{◌≡◌, ℕ, ◌+◌, List, [], ◌∷◌, ◌++◌, length, length-append, map, refl, ap, ◌∙◌}
use Rattle.std.specs.Prelude.{◌||◌, ◌&&◌}
use Rattle.std.specs.List.{list_any, list_all}
use Rattle.std.specs.Str.{bytes_eq}
use Rattle.std.proofs.lemmas.List.{map-append}
use Rattle.std.proofs.lemmas.List.Folds.{list_any-append, list_all-append, list_all-map}
use Rattle.st_classes.specs.Selectors.{is_slot_name}
use Rattle.st_reader.specs.declared.trees.Name.{Name}
use Rattle.st_reader.specs.declared.trees.Parameter.{Parameter}
use Rattle.st_reader.specs.Variables.{texts}

pub any_argument : (text : List ℕ) (ps : List Parameter) → list_any (bytes_eq text) (texts (map (λ p. p.argument) ps)) ≡ list_any (λ p. bytes_eq text p.argument.text) ps
any_argument text [] = refl
any_argument text (p ∷ ps) = ap (λ b. bytes_eq text p.argument.text || b) (any_argument text ps)

pub any_name : (text : List ℕ) (ns : List Name) → list_any (bytes_eq text) (texts ns) ≡ list_any (λ n. bytes_eq text n.text) ns
any_name text [] = refl
any_name text (n ∷ ns) = ap (λ b. bytes_eq text n.text || b) (any_name text ns)

texts_append : (xs ys : List Name) → texts (xs ++ ys) ≡ texts xs ++ texts ys
texts_append xs ys = map-append (λ n. n.text) xs ys

pub any_either : (text : List ℕ) (ps : List Parameter) (ns : List Name) → list_any (bytes_eq text) (texts (map (λ p. p.argument) ps ++ ns)) ≡ (list_any (λ p. bytes_eq text p.argument.text) ps || list_any (λ n. bytes_eq text n.text) ns)
any_either text ps ns =
    ap (list_any (bytes_eq text)) (texts_append (map (λ p. p.argument) ps) ns) ∙ list_any-append (bytes_eq text) (texts (map (λ p. p.argument) ps)) (texts ns) ∙ ap (λ b. b || list_any (bytes_eq text) (texts ns)) (any_argument text ps) ∙ ap (λ b. list_any (λ p. bytes_eq text p.argument.text) ps || b) (any_name text ns)

pub all_arguments : (ps : List Parameter) → list_all is_slot_name (texts (map (λ p. p.argument) ps)) ≡ list_all (λ p. is_slot_name p.argument.text) ps
all_arguments ps = list_all-map is_slot_name (λ n. n.text) (map (λ p. p.argument) ps) ∙ list_all-map (λ n. is_slot_name n.text) (λ p. p.argument) ps

pub all_names : (ns : List Name) → list_all is_slot_name (texts ns) ≡ list_all (λ n. is_slot_name n.text) ns
all_names ns = list_all-map is_slot_name (λ n. n.text) ns

pub all_slots : (xs ys : List Name) → list_all is_slot_name (texts (xs ++ ys)) ≡ (list_all is_slot_name (texts xs) && list_all is_slot_name (texts ys))
all_slots xs ys = ap (list_all is_slot_name) (texts_append xs ys) ∙ list_all-append is_slot_name (texts xs) (texts ys)

pub long : (xs ys : List Name) → length (xs ++ ys) ≡ length xs + length ys
long xs ys = length-append xs ys
