-- The least place, one name more.
use Rattle.std.proofs.Common.{◌≡◌, ℕ, suc, ltb, ◌+◌, ◌<◌, Bool, true, false, not, ◌&&◌, List, [], ◌∷◌, ◌++◌, length, map, filter, take, get_or, min, Option, Some, None, refl, sym, ap, ◌∙◌, arith}
use Rattle.std.specs.Prelude.{nat_le}
use Rattle.std.specs.List.{list_all, list_any}
use Rattle.std.specs.Borrow.{Bor}
use Rattle.std.specs.Str.{bytes_eq}
use Rattle.std.proofs.lemmas.Bool.Decides.{nat_tests}
use Rattle.std.proofs.lemmas.List.{length-map, map-append, take_more}
use Rattle.std.proofs.lemmas.List.Elements.{filter-append}
use Rattle.std.proofs.lemmas.List.Folds.{list_all-map}
use Rattle.st_classes.specs.declared.refusals.Refusal.{Refusal}
use Rattle.st_classes.specs.Refusals.{Rule, first_of}
use Rattle.st_reader.specs.declared.trees.Name.{Name}
use Rattle.st_compile.specs.declared.words.Line.{Line as DraftedLine}
use Rattle.st_compile.specs.DraftViews.{line_of}
use Rattle.st_compile.specs.CompileRules.{least_of, lesser, at_first_place, clashing, is_known, is_small, start_of, unknown}
use Rattle.st_compile.specs.Scopes.{named}
use Rattle.st_compile.specs.NameResolution.{Scope}

min-assoc : (a b c : ℕ) → min (min a b) c ≡ min a (min b c)
min-assoc a b c = omega arith

lesser-assoc : (a b c : Option ℕ) → lesser (lesser a b) c ≡ lesser a (lesser b c)
lesser-assoc None b c = refl
lesser-assoc (Some a) None c = refl
lesser-assoc (Some a) (Some b) None = refl
lesser-assoc (Some a) (Some b) (Some c) = ap Some (min-assoc a b c)

least-front : (n : ℕ) (ns : List ℕ) → least_of (n ∷ ns) ≡ lesser (Some n) (least_of ns)
least-front n [] = refl
least-front n (m ∷ ns) = refl

pub least-append : (xs ys : List ℕ) → least_of (xs ++ ys) ≡ lesser (least_of xs) (least_of ys)
least-append [] ys = refl
least-append (x ∷ xs) ys = least-front x (xs ++ ys) ∙ (ap (lesser (Some x)) (least-append xs ys) ∙ (sym (lesser-assoc (Some x) (least_of xs) (least_of ys)) ∙ ap (λ (o : Option ℕ). lesser o (least_of ys)) (sym (least-front x xs))))

-- the places of some, and of one more
module _ {X : Type 0} (p : X → Bool) (f : X → ℕ) where
  abbrev pub places : List X → List ℕ
  places xs = map f (filter p xs)

  places-append : (xs ys : List X) → places (xs ++ ys) ≡ places xs ++ places ys
  places-append xs ys = ap (map f) (filter-append p xs ys) ∙ map-append f (filter p xs) (filter p ys)

  pub least_more : {Y : Type 0} (g : Y → X) (ys : List Y) (k : ℕ) (d : Y) → k < length ys → least_of (places (map g (take (k + 1) ys))) ≡ lesser (least_of (places (map g (take k ys)))) (least_of (places (g (get_or ys k d) ∷ [])))
  least_more g ys k d l =
      let y = get_or ys k d in
      ap (λ zs. least_of (places (map g zs))) (take_more ys k d l) ∙ (ap (λ zs. least_of (places zs)) (map-append g (take k ys) (y ∷ [])) ∙ (ap least_of (places-append (map g (take k ys)) (g y ∷ [])) ∙ least-append (places (map g (take k ys))) (places (g y ∷ []))))

pub unknown_more : (scope : Scope) (ls : List DraftedLine) (k : ℕ) (d : DraftedLine) → k < length ls → least_of (unknown scope (map line_of (take (k + 1) ls))) ≡ lesser (least_of (unknown scope (map line_of (take k ls)))) (least_of (unknown scope (line_of (get_or ls k d) ∷ [])))
unknown_more scope ls k d l = least_more (λ x. not (is_known scope x.word)) (λ x. start_of x.word) line_of ls k d l

pub clash_more : (slots : List (List ℕ)) (ns : List (Bor Name)) (k : ℕ) (d : Bor Name) → k < length ns → least_of (clashing slots (named (take (k + 1) ns))) ≡ lesser (least_of (clashing slots (named (take k ns)))) (least_of (clashing slots ((get_or ns k d).now ∷ [])))
clash_more slots ns k d l = least_more (λ n. list_any (bytes_eq n.text) slots) (λ n. n.span.start) (λ n. n.now) ns k d l

-- the rule of a least place, by the place
abbrev pub said : (ℕ → Refusal) → Option ℕ → Option Refusal
said refusal None = None
said refusal (Some n) = Some (refusal n)

pub place_rule : (refusal : ℕ → Refusal) (ns : List ℕ) (o : Option ℕ) → o ≡ least_of ns → first_of (at_first_place refusal ns ∷ []) ≡ said refusal o
place_rule refusal [] o e = rw e refl
place_rule refusal (n ∷ ns) o e =
    let t : ltb 0 (suc (length ns)) ≡ true = grind (arith, nat_tests) in
    rw (e, t) refl

pub small_lines : (ls : List DraftedLine) → is_small (map line_of ls) ≡ (nat_le (length ls) 1024 && list_all (λ l. nat_le l.depth 64) ls)
small_lines ls = ap (λ n. nat_le n 1024 && list_all (λ l. nat_le l.depth 64) (map line_of ls)) (length-map ls line_of) ∙ ap (λ b. nat_le (length ls) 1024 && b) (list_all-map (λ l. nat_le l.depth 64) line_of ls)

pub first_rule : (r : Rule) (rs : List Rule) → first_of (r ∷ []) ≡ None → first_of (r ∷ rs) ≡ first_of rs
first_rule (true, e) rs h = cc
first_rule (false, e) rs h = refl
