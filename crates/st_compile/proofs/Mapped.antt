-- Drafts and their lines.
use Rattle.std.proofs.Common.{◌≡◌, ◌⊎◌, inl, inr, ℕ, zero, suc, ◌+◌, ◌<◌, ◌≤◌, Bool, true, List, [], ◌∷◌, ◌++◌, length, map, take, drop, get_or, Some, refl, sym, ap, ◌∙◌, arith}
use Rattle.std.specs.List.{list_all, flat_map}
use Rattle.std.proofs.lemmas.List.{map-append, take-append-drop, take_more, append-nil}
use Rattle.std.proofs.lemmas.Grind.{flat_map-append}
use Rattle.std.specs.Prelude.{nat_le}
use Rattle.std.proofs.lemmas.Bool.{and_parts, leb-true}
use Rattle.st_compile.specs.declared.words.Line.{Line as DraftedLine}
use Rattle.st_compile.specs.DraftViews.{line_of}
use Rattle.st_classes.specs.declared.instructions.Instruction.{Instruction}
use Rattle.st_classes.specs.declared.refusals.Refusal.{Refusal}
use Rattle.st_classes.specs.declared.refusals.Refusal.TheVariants.{NoMemory}
use Rattle.st_classes.specs.Refusals.{first_of}
use Rattle.st_compile.specs.NameResolution.{Scope, instruction_of, instructions_of, word_texts}
use Rattle.st_compile.specs.NeededNames.{InternsFirst, interned_all, names_rule}
use Rattle.st_compile.specs.DraftCode.{Line, Word}
use Rattle.st_compile.proofs.Resolving.{instructions-append, instructions-push}
use Rattle.st_compile.proofs.Interning.{interned_all-append, length-interned_all, grows-interned_all, refused-full, names-full}

-- what all words have, one of them has
pub all-at : {X : Type 0} (f : X → Line) (p : Word → Bool) (xs : List X) (k : ℕ) (d : X) → list_all (λ l. p l.word) (map f xs) ≡ true → k < length xs → p (f (get_or xs k d)).word ≡ true
all-at f p [] k d h l = absurd (omega arith)
all-at f p (y ∷ xs) zero d h l = (and_parts (p (f y).word) (list_all (λ l. p l.word) (map f xs)) h).0
all-at f p (y ∷ xs) (suc k) d h l = all-at f p xs k d (and_parts (p (f y).word) (list_all (λ l. p l.word) (map f xs)) h).1 (omega arith)

-- the texts that lines need
abbrev pub line_texts : Line → List (List ℕ)
line_texts l = word_texts l.word

module _ {X : Type 0} (f : X → Line) where
  -- what the lines of drafts need
  abbrev pub texts : List X → List (List ℕ)
  texts xs = flat_map line_texts (map f xs)

  texts-append : (xs ys : List X) → texts (xs ++ ys) ≡ texts xs ++ texts ys
  texts-append xs ys = ap (flat_map line_texts) (map-append f xs ys) ∙ flat_map-append line_texts (map f xs) (map f ys)

  pub names_more : (names : List (List ℕ)) (xs : List X) (x : X) → interned_all names (texts (xs ++ x ∷ [])) ≡ interned_all (interned_all names (texts xs)) (line_texts (f x))
  names_more names xs x = ap (interned_all names) (texts-append xs (x ∷ []) ∙ ap (λ (t : List (List ℕ)). texts xs ++ t) (append-nil (line_texts (f x)))) ∙ interned_all-append names (texts xs) (line_texts (f x))

  -- all need as many names as those so far
  pub names_taken : (names : List (List ℕ)) (xs : List X) (k : ℕ) → length (interned_all names (texts (take k xs))) ≤ length (interned_all names (texts xs))
  names_taken names xs k =
      let parts : texts xs ≡ texts (take k xs) ++ texts (drop k xs) = sym (ap texts (take-append-drop k xs)) ∙ texts-append (take k xs) (drop k xs) in
      let whole : interned_all names (texts xs) ≡ interned_all (interned_all names (texts (take k xs))) (texts (drop k xs)) = ap (interned_all names) parts ∙ interned_all-append names (texts (take k xs)) (texts (drop k xs)) in
      omega (arith, ap length whole, length-interned_all (interned_all names (texts (take k xs))) (texts (drop k xs)))

  -- one turn: the code and the names so far
  pub code_more : (scope : Scope) (names after : List (List ℕ)) (xs more : List X) (x : X) (i : Instruction) (code later : List Instruction) → more ≡ xs ++ x ∷ [] → instructions_of names scope (map f xs) ≡ Some code → after ≡ interned_all names (line_texts (f x)) → instruction_of after scope (f x).word ≡ Some i → later ≡ code ++ i ∷ [] → instructions_of after scope (map f more) ≡ Some later
  code_more scope names after xs more x i code later t h a q l =
      let g = grows-interned_all names (line_texts (f x)) in
      let e : after ≡ names ++ g.0 = a ∙ g.1 in
      let known : instructions_of after scope (map f xs) ≡ Some code = rw e (instructions-append names g.0 scope (map f xs) code h) in
      rw (t, l, map-append f xs (x ∷ [])) (instructions-push after scope (map f xs) code (f x) i known q)

  pub names_step : (old names after : List (List ℕ)) (xs more : List X) (x : X) → more ≡ xs ++ x ∷ [] → names ≡ interned_all old (texts xs) → after ≡ interned_all names (line_texts (f x)) → after ≡ interned_all old (texts more)
  names_step old names after xs more x t n a = a ∙ (ap (λ (m : List (List ℕ)). interned_all m (line_texts (f x))) n ∙ (sym (names_more old xs x) ∙ ap (λ (m : List X). interned_all old (texts m)) (sym t)))

  -- a refusal at one line is the refusal of all
  pub refused_at : (old names : List (List ℕ)) (xs : List X) (k : ℕ) (x : X) (e : Refusal) → take (k + 1) xs ≡ take k xs ++ x ∷ [] → names ≡ interned_all old (texts (take k xs)) → (e ≡ NoMemory) ⊎ (first_of (names_rule names (line_texts (f x)) ∷ []) ≡ Some e) → (e ≡ NoMemory) ⊎ (first_of (names_rule old (texts xs) ∷ []) ≡ Some e)
  refused_at old names xs k x e t n (inl h) = inl h
  refused_at old names xs k x e t n (inr h) =
      let full : 8192 < length (interned_all names (line_texts (f x))) = refused-full names (line_texts (f x)) e h in
      let step : interned_all names (line_texts (f x)) ≡ interned_all old (texts (take (k + 1) xs)) = names_step old names (interned_all names (line_texts (f x))) (take k xs) (take (k + 1) xs) x t n refl in
      let all : 8192 < length (interned_all old (texts xs)) = omega (arith, ap length step, names_taken old xs (k + 1)) in
      inr (names-full old (texts xs) all ∙ (sym (names-full names (line_texts (f x)) full) ∙ h))

  -- at each line, the texts of those before it are interned
  pub first-taken : (names after : List (List ℕ)) (xs : List X) (k : ℕ) → after ≡ interned_all names (texts (take k xs)) → InternsFirst names (texts xs) after
  first-taken names after xs k e = (texts (take k xs), texts (drop k xs), ap texts (sym (take-append-drop k xs)) ∙ texts-append (take k xs) (drop k xs), e)

-- a front and the item behind it
pub taken_more : {X : Type 0} (xs : List X) (k : ℕ) (x : X) → x ≡ get_or xs k x → k < length xs → take (k + 1) xs ≡ take k xs ++ x ∷ []
taken_more xs k x e l = take_more xs k x l ∙ ap (λ y. take k xs ++ y ∷ []) (sym e)

-- no line of shallow ones is deep
pub depth_at : (ls : List DraftedLine) (k : ℕ) (d : DraftedLine) → list_all (λ l. nat_le l.depth 64) (map line_of ls) ≡ true → k < length ls → (get_or ls k d).depth ≤ 64
depth_at [] k d h l = absurd (omega arith)
depth_at (y ∷ ls) zero d h l = leb-true y.depth 64 (and_parts (nat_le y.depth 64) (list_all (λ x. nat_le x.depth 64) (map line_of ls)) h).0
depth_at (y ∷ ls) (suc k) d h l = depth_at ls k d (and_parts (nat_le y.depth 64) (list_all (λ x. nat_le x.depth 64) (map line_of ls)) h).1 (omega arith)
