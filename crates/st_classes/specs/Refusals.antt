-- Which refusal a call answers.
use Rattle.std.specs.Prelude.{◌≡◌, ◌⊎◌, List, [], ◌∷◌, Bool, Option, Some, None, Result, Ok, Err, if◌then◌else◌}
use Rattle.st_classes.specs.declared.refusals.Refusal.{Refusal}
use Rattle.st_classes.specs.declared.refusals.Refusal.TheVariants.{NoMemory}

-- a refusal, and whether it applies
abbrev pub Rule : Type 0
Rule = Bool × Refusal

-- the first refusal in the list that applies
abbrev pub first_of : List Rule → Option Refusal
first_of [] = None
first_of (rule ∷ rules) = if rule.0 then Some rule.1 else first_of rules

-- the answer of a call whose errors say why it is refused: a value only if no refusal applies; a refusal only if it
-- is the first that applies, or if memory ran out, which may replace any answer
abbrev pub AnswersBy : {T E : Type 0} → (E → Refusal) → Option Refusal → Result T E → (T → Type 0) → Type 0
AnswersBy why first (Ok value) P = (first ≡ None) × P value
AnswersBy why first (Err e) P = (why e ≡ NoMemory) ⊎ (first ≡ Some (why e))

-- the answer of a call whose errors are refusals
abbrev pub Answers : {T : Type 0} → Option Refusal → Result T Refusal → (T → Type 0) → Type 0
Answers first result P = AnswersBy (λ e. e) first result P
