-- The parts of a text between its newlines.
use Rattle.std.proofs.Common.{◌≡◌, ◌≢◌, ℕ, ◌==◌, Bool, true, false, cond, List, [], ◌∷◌, All, refl}
use Rattle.std.specs.List.{onto_first}
use Rattle.std.proofs.lemmas.List.Elements.{All-nil, All-cons, All-head, All-tail}
use Rattle.std.proofs.lemmas.List.Splits.{join_with_byte-slice_split}
use Rattle.st_session.specs.Lines.{parts, CutsAtNewlines}

abbrev HasNone : List ℕ → Type 0
HasNone = All (λ b. b ≢ 10)

none_onto : (b : ℕ) (ps : List (List ℕ)) → b ≢ 10 → All HasNone ps → All HasNone (onto_first b ps)
none_onto b [] other h = All-cons HasNone (b ∷ []) [] (All-cons (λ c. c ≢ 10) b [] other (All-nil (λ c. c ≢ 10))) (All-nil HasNone)
none_onto b (p ∷ ps) other h = All-cons HasNone (b ∷ p) ps (All-cons (λ c. c ≢ 10) b p other (All-head HasNone p ps h)) (All-tail HasNone p ps h)

not_newline : (b : ℕ) → (b == 10) ≡ false → b ≢ 10
not_newline b e is = cc

none_next : (b : ℕ) (ps : List (List ℕ)) (t : Bool) → (b == 10) ≡ t → All HasNone ps → All HasNone (cond t ([] ∷ ps) (onto_first b ps))
none_next b ps true e h = All-cons HasNone [] ps (All-nil (λ c. c ≢ 10)) h
none_next b ps false e h = none_onto b ps (not_newline b e) h

none_in_parts : (text : List ℕ) → All HasNone (parts text)
none_in_parts [] = All-cons HasNone [] [] (All-nil (λ c. c ≢ 10)) (All-nil HasNone)
none_in_parts (b ∷ bs) = none_next b (parts bs) (b == 10) refl (none_in_parts bs)

pub cuts_at_newlines : CutsAtNewlines
cuts_at_newlines text = (none_in_parts text, join_with_byte-slice_split 10 text)
