-- Names of a method, and keywords of its pattern, one after another.
use Rattle.std.proofs.Common.{◌≡◌, ◌≢◌, ℕ, zero, suc, List, [], ◌∷◌, ◌++◌, Some, None, refl, sym, ap, ◌∙◌}
use Rattle.std.specs.Prelude.{option_and_then}
use Rattle.st_reader.specs.declared.trees.Span.{Span}
use Rattle.st_reader.specs.declared.trees.Name.{Name}
use Rattle.st_reader.specs.declared.trees.Parameter.{Parameter}
use Rattle.st_reader.specs.declared.tokens.Kind.{Kind}
use Rattle.st_reader.specs.declared.tokens.Kind.TheVariants.{Identifier, Keyword, Assign, Binary, Number, Symbol, Mark as Marked}
use Rattle.st_reader.specs.declared.tokens.Lexeme.{Lexeme}
use Rattle.st_reader.specs.Tokens.{Token}
use Rattle.st_reader.specs.Lexemes.{token_at, tokens_of, name_at, Lacks}
use Rattle.st_reader.specs.Parser.{Read, in_front, names_of, parameter_of, parameters_of}
use Rattle.st_reader.proofs.Loops.{token_is}
use Rattle.st_reader.proofs.Rows.{ahead, ahead_more, ahead_none, in_front_more, in_front_none}

-- ---- names

names_more : (s : List ℕ) (l : Lexeme) (ls : List Lexeme) → l.kind ≡ Identifier → names_of (tokens_of s (l ∷ ls)) ≡ ahead (name_at s l.span ∷ []) (names_of (tokens_of s ls))
unfolding names_of
names_more s l ls k = ap (λ (t : Token). names_of (t ∷ tokens_of s ls)) (token_is s Identifier l k)

names_stop : (s : List ℕ) (k : Kind) (place : Span) (ts : List Token) → (k ≢ Identifier) → names_of (token_at s k place ∷ ts) ≡ ([], token_at s k place ∷ ts)
unfolding names_of
names_stop s Identifier place ts other = absurd (other refl)
names_stop s Keyword place ts other = refl
names_stop s Assign place ts other = refl
names_stop s Binary place ts other = refl
names_stop s Number place ts other = refl
names_stop s Symbol place ts other = refl
names_stop s (Marked m) place ts other = refl

names_end : (s : List ℕ) (ls : List Lexeme) → Lacks Identifier ls → names_of (tokens_of s ls) ≡ ([], tokens_of s ls)
unfolding names_of
names_end s [] other = refl
names_end s (l ∷ ls) other = names_stop s l.kind l.span (tokens_of s ls) other

pub names_step : (s : List ℕ) (all : List Name × List Token) (xs now : List Name) (rest : List Lexeme) (l : Lexeme) (ls : List Lexeme) (n : Name) → rest ≡ l ∷ ls → l.kind ≡ Identifier → n ≡ name_at s l.span → now ≡ xs ++ n ∷ [] → all ≡ ahead xs (names_of (tokens_of s rest)) → all ≡ ahead now (names_of (tokens_of s ls))
names_step s all xs now rest l ls n at k same pushed inv =
    let left : List Name × List Token = names_of (tokens_of s ls) in
    inv ∙ ap (λ (x : List Lexeme). ahead xs (names_of (tokens_of s x))) at ∙ ap (ahead xs) (names_more s l ls k) ∙ ahead_more xs (name_at s l.span) left ∙ ap (λ (x : Name). ahead (xs ++ x ∷ []) left) (sym same) ∙ ap (λ (x : List Name). ahead x left) (sym pushed)

pub names_done : (s : List ℕ) (all : List Name × List Token) (xs : List Name) (rest : List Lexeme) → Lacks Identifier rest → all ≡ ahead xs (names_of (tokens_of s rest)) → all ≡ (xs, tokens_of s rest)
names_done s all xs rest other inv = inv ∙ ap (ahead xs) (names_end s rest other) ∙ ahead_none xs (tokens_of s rest)

-- ---- keywords of a pattern

abbrev pub parameter_at : Name → Name → Parameter
parameter_at keyword argument = record { keyword = keyword; argument = argument }

-- the parameters behind one
abbrev pub behind_parameter : ℕ → Name → Name × List Token → Read (List Parameter)
behind_parameter n keyword r = in_front (parameter_at keyword r.0 ∷ []) (parameters_of n r.1)

parameters_more : (s : List ℕ) (n : ℕ) (l : Lexeme) (ls : List Lexeme) → l.kind ≡ Keyword → parameters_of (suc n) (tokens_of s (l ∷ ls)) ≡ option_and_then (behind_parameter n (name_at s l.span)) (parameter_of (tokens_of s ls))
unfolding parameters_of
parameters_more s n l ls k = ap (λ (t : Token). parameters_of (suc n) (t ∷ tokens_of s ls)) (token_is s Keyword l k)

parameters_many : (s : List ℕ) (l : Lexeme) (ls : List Lexeme) → l.kind ≡ Keyword → parameters_of zero (tokens_of s (l ∷ ls)) ≡ None
unfolding parameters_of
parameters_many s l ls k = ap (λ (t : Token). parameters_of zero (t ∷ tokens_of s ls)) (token_is s Keyword l k)

parameters_stop : (s : List ℕ) (n : ℕ) (k : Kind) (place : Span) (ts : List Token) → (k ≢ Keyword) → parameters_of n (token_at s k place ∷ ts) ≡ Some ([], token_at s k place ∷ ts)
unfolding parameters_of
parameters_stop s zero Identifier place ts other = refl
parameters_stop s zero Keyword place ts other = absurd (other refl)
parameters_stop s zero Assign place ts other = refl
parameters_stop s zero Binary place ts other = refl
parameters_stop s zero Number place ts other = refl
parameters_stop s zero Symbol place ts other = refl
parameters_stop s zero (Marked m) place ts other = refl
parameters_stop s (suc n) Identifier place ts other = refl
parameters_stop s (suc n) Keyword place ts other = absurd (other refl)
parameters_stop s (suc n) Assign place ts other = refl
parameters_stop s (suc n) Binary place ts other = refl
parameters_stop s (suc n) Number place ts other = refl
parameters_stop s (suc n) Symbol place ts other = refl
parameters_stop s (suc n) (Marked m) place ts other = refl

parameters_end : (s : List ℕ) (n : ℕ) (ls : List Lexeme) → Lacks Keyword ls → parameters_of n (tokens_of s ls) ≡ Some ([], tokens_of s ls)
unfolding parameters_of
parameters_end s zero [] other = refl
parameters_end s (suc n) [] other = refl
parameters_end s n (l ∷ ls) other = parameters_stop s n l.kind l.span (tokens_of s ls) other

-- what was read so far, and what is left
abbrev pub ParametersAre : List ℕ → Read (List Parameter) → List Parameter → ℕ → List Lexeme → Type 0
ParametersAre s all xs n rest = all ≡ in_front xs (parameters_of n (tokens_of s rest))

parameters_at : (s : List ℕ) (all : Read (List Parameter)) (xs : List Parameter) (n m : ℕ) (rest : List Lexeme) (l : Lexeme) (ls : List Lexeme) → n ≡ suc m → rest ≡ l ∷ ls → l.kind ≡ Keyword → ParametersAre s all xs n rest → all ≡ in_front xs (option_and_then (behind_parameter m (name_at s l.span)) (parameter_of (tokens_of s ls)))
parameters_at s all xs n m rest l ls one at k inv =
    inv ∙ ap (λ (x : ℕ). in_front xs (parameters_of x (tokens_of s rest))) one ∙ ap (λ (x : List Lexeme). in_front xs (parameters_of (suc m) (tokens_of s x))) at ∙ ap (in_front xs) (parameters_more s m l ls k)

pub parameters_step : (s : List ℕ) (all : Read (List Parameter)) (xs now : List Parameter) (n m : ℕ) (rest : List Lexeme) (l : Lexeme) (ls : List Lexeme) (keyword argument : Name) (behind : List Lexeme) → n ≡ suc m → rest ≡ l ∷ ls → l.kind ≡ Keyword → parameter_of (tokens_of s ls) ≡ Some (argument, tokens_of s behind) → keyword ≡ name_at s l.span → now ≡ xs ++ parameter_at keyword argument ∷ [] → ParametersAre s all xs n rest → ParametersAre s all now m behind
parameters_step s all xs now n m rest l ls keyword argument behind one at k found same pushed inv =
    let left : Read (List Parameter) = parameters_of m (tokens_of s behind) in
    parameters_at s all xs n m rest l ls one at k inv ∙ ap (λ (o : Read Name). in_front xs (option_and_then (behind_parameter m (name_at s l.span)) o)) found ∙ in_front_more xs (parameter_at (name_at s l.span) argument) left ∙ ap (λ (x : Name). in_front (xs ++ parameter_at x argument ∷ []) left) (sym same) ∙ ap (λ (x : List Parameter). in_front x left) (sym pushed)

pub parameters_fail : (s : List ℕ) (all : Read (List Parameter)) (xs : List Parameter) (n m : ℕ) (rest : List Lexeme) (l : Lexeme) (ls : List Lexeme) → n ≡ suc m → rest ≡ l ∷ ls → l.kind ≡ Keyword → ParametersAre s all xs n rest → parameter_of (tokens_of s ls) ≡ None → all ≡ None
parameters_fail s all xs n m rest l ls one at k inv none =
    parameters_at s all xs n m rest l ls one at k inv ∙ ap (λ (o : Read Name). in_front xs (option_and_then (behind_parameter m (name_at s l.span)) o)) none

pub parameters_full : (s : List ℕ) (all : Read (List Parameter)) (xs : List Parameter) (n : ℕ) (rest : List Lexeme) (l : Lexeme) (ls : List Lexeme) → n ≡ zero → rest ≡ l ∷ ls → l.kind ≡ Keyword → ParametersAre s all xs n rest → all ≡ None
parameters_full s all xs n rest l ls none at k inv =
    inv ∙ ap (λ (x : ℕ). in_front xs (parameters_of x (tokens_of s rest))) none ∙ ap (λ (x : List Lexeme). in_front xs (parameters_of zero (tokens_of s x))) at ∙ ap (in_front xs) (parameters_many s l ls k)

pub parameters_done : (s : List ℕ) (all : Read (List Parameter)) (xs : List Parameter) (n : ℕ) (rest : List Lexeme) → Lacks Keyword rest → ParametersAre s all xs n rest → all ≡ Some (xs, tokens_of s rest)
parameters_done s all xs n rest other inv = inv ∙ ap (in_front xs) (parameters_end s n rest other) ∙ in_front_none xs (tokens_of s rest)
