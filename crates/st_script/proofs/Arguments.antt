-- Arguments that are resolved as far as some place, whoever holds the image.
use Rattle.std.proofs.Common.{◌≡◌, ℕ, ◌+◌, ◌<◌, ◌≤◌, List, [], ◌∷◌, ◌++◌, length, get_or, drop, Result, Ok, Err, refl, sym, ap, append_assoc, add-one, drop-cons}
use Rattle.std.proofs.lemmas.List.{append-nil, drop_all}
use Rattle.st_classes.specs.declared.values.Value.{Value}
use Rattle.st_classes.specs.declared.refusals.Refusal.{Refusal}
use Rattle.st_image.specs.Images.{ImageView}
use Rattle.st_calls.specs.declared.calls.Answer.{Answer}
use Rattle.st_calls.specs.declared.calls.Call.{Call}
use Rattle.st_wire.specs.declared.commands.Argument.{Argument}
use Rattle.st_script.specs.Posting.{Resolves, AllResolve}
use Rattle.st_script.specs.ArgumentValues.{with_first}

abbrev pub with_all : List Value → Result (List Value) Refusal → Result (List Value) Refusal
with_all vs (Ok more) = Ok (vs ++ more)
with_all vs (Err e) = Err e

-- however the arguments that are left resolve, all of them do with the values so far in front
pub record ResolvesOn {H N : Type 0} (image : H → ImageView) (Calls : H → N → Call → Result Answer Refusal → H → N → Type 0) (h : H) (n : N) (all : List Argument) (before : List Value) (i : H) (l : N) (left : List Argument) : Type 0 where
  pub whole : (rest : Result (List Value) Refusal) (k : H) (m : N) → AllResolve image Calls i l left rest k m → AllResolve image Calls h n all (with_all before rest) k m

with_one : (before : List Value) (v : Value) (rest : Result (List Value) Refusal) → with_all before (with_first v rest) ≡ with_all (before ++ v ∷ []) rest
with_one before v (Ok vs) = ap Ok (sym (append_assoc before (v ∷ []) vs))
with_one before v (Err e) = refl

first_left : (all : List Argument) (p : ℕ) (a : Argument) → p < length all → a ≡ get_or all p a → drop p all ≡ a ∷ drop (p + 1) all
first_left all p a h e = rw (add-one, drop-cons all p a, ← e)

pub resolves_more : {H N : Type 0} (image : H → ImageView) (Calls : H → N → Call → Result Answer Refusal → H → N → Type 0) (h i j : H) (n l o : N) (all : List Argument) (before : List Value) (p : ℕ) (a : Argument) (v : Value) → ResolvesOn image Calls h n all before i l (drop p all) → p < length all → a ≡ get_or all p a → Resolves image Calls i l a (Ok v) j o → ResolvesOn image Calls h n all (before ++ v ∷ []) j o (drop (p + 1) all)
resolves_more {H} {N} image Calls h i j n l o all before p a v on lt e first = record { whole = λ rest k m left. rw (← (with_one before v rest)) (on.whole (with_first v rest) k m (rw (first_left all p a lt e) (Ok v, j, o, first, (rest, left, refl)))) }

pub resolves_stops : {H N : Type 0} (image : H → ImageView) (Calls : H → N → Call → Result Answer Refusal → H → N → Type 0) (h i j : H) (n l o : N) (all : List Argument) (before : List Value) (p : ℕ) (a : Argument) (f : Refusal) → ResolvesOn image Calls h n all before i l (drop p all) → p < length all → a ≡ get_or all p a → Resolves image Calls i l a (Err f) j o → AllResolve image Calls h n all (Err f) j o
resolves_stops {H} {N} image Calls h i j n l o all before p a f on lt e first = on.whole (Err f) j o (rw (first_left all p a lt e) (Err f, j, o, first, (refl, (refl, refl))))

pub resolves_done : {H N : Type 0} (image : H → ImageView) (Calls : H → N → Call → Result Answer Refusal → H → N → Type 0) (h i : H) (n l : N) (all : List Argument) (before : List Value) (p : ℕ) → ResolvesOn image Calls h n all before i l (drop p all) → length all ≤ p → AllResolve image Calls h n all (Ok before) i l
resolves_done {H} {N} image Calls h i n l all before p on le = let none : before ++ [] ≡ before = append-nil before in rw (← none) (on.whole (Ok []) i l (rw (drop_all p all le) (refl, (refl, refl))))
