use Rattle.std.proofs.Common.{◌≡◌, arith, true, false, List, ℕ, Option, Some, None}
use Rattle.std.specs.Prelude.{MatchOption}
use Rattle.std.specs.List.{list_all}
use Rattle.st_reader.specs.declared.tokens.Lexeme.{Lexeme}
use Rattle.st_reader.specs.Tokens.{Token, IsCut, token_fits, is_character}
use Rattle.st_reader.specs.Lexemes.{tokens_of}
use Rattle.st_reader.specs.Parser.{method_of}
use Rattle.st_reader.specs.TreeViews.{method_view}
use Rattle.st_reader.proofs.Exact.{one_way}
use Rattle.st_reader.proofs.Spelled.{spelled, one_method, no_method, no_fit, no_cut, said}
use Rattle.st_reader.proofs.reader.read_syntax.Goals as goal

-- what a cut says, by where it stops
CutAt : List ℕ → List Lexeme → Option ℕ → Type 0
CutAt text ls o = MatchOption o (IsCut text (tokens_of text ls)) (λ at. (ts : List Token) → IsCut text ts → ⊥)

whole : (text : List ℕ) (ls : List Lexeme) (o : Option ℕ) → o ≡ None → CutAt text ls o → IsCut text (tokens_of text ls)
unfolding CutAt
whole text ls None e h = h
whole text ls (Some n) e h = absurd cc

stopped : (text : List ℕ) (ls : List Lexeme) (o : Option ℕ) (n : ℕ) → o ≡ Some n → CutAt text ls o → (ts : List Token) → IsCut text ts → ⊥
unfolding CutAt
stopped text ls None n e h = absurd cc
stopped text ls (Some m) n e h = h

pub returns-in-Some-clause-refused : goal.returns-in-Some-clause-refused
unfolding CutAt
returns-in-Some-clause-refused c =
    let s = c.args.source.now in
    said c.source_fault-in-Some.result c.source_fault-in-Some.ensures.source (no_cut s (stopped s c.in_ok-lexemes.field-0.lexemes.items c.in_ok-lexemes.field-0.stop c.in-Some.field-0 c.in-Some.is c.in_ok-lexemes.ensures.ok))

pub returns-then-not-fit-clause-refused : goal.returns-then-not-fit-clause-refused
unfolding CutAt
returns-then-not-fit-clause-refused c =
    let s = c.args.source.now in
    let cut = whole s c.in_ok-lexemes.field-0.lexemes.items c.in_ok-lexemes.field-0.stop c.in_default.is c.in_ok-lexemes.ensures.ok in
    let over : list_all token_fits (tokens_of s c.in_ok-lexemes.field-0.lexemes.items) ≡ false = grind arith in
    said c.source_fault-then-not-fit.result c.source_fault-then-not-fit.ensures.source (no_fit one_way s (tokens_of s c.in_ok-lexemes.field-0.lexemes.items) cut over)

pub returns-in-Ok-clause-ok : goal.returns-in-Ok-clause-ok
unfolding CutAt
returns-in-Ok-clause-ok c =
    let s = c.args.source.now in
    let ts = tokens_of s c.in_ok-lexemes.field-0.lexemes.items in
    let cut = whole s c.in_ok-lexemes.field-0.lexemes.items c.in_ok-lexemes.field-0.stop c.in_default.is c.in_ok-lexemes.ensures.ok in
    let fits : list_all token_fits ts ≡ true = grind arith in
    let plain : list_all is_character s ≡ true = grind arith in
    let read : method_of ts ≡ Some (method_view c.in-Ok.syntax) = grind arith in
    spelled s ts (method_view c.in-Ok.syntax) (omega arith) plain cut fits read

pub returns-in-Ok-clause-only : goal.returns-in-Ok-clause-only
unfolding CutAt
returns-in-Ok-clause-only c =
    let s = c.args.source.now in
    let ts = tokens_of s c.in_ok-lexemes.field-0.lexemes.items in
    let cut = whole s c.in_ok-lexemes.field-0.lexemes.items c.in_ok-lexemes.field-0.stop c.in_default.is c.in_ok-lexemes.ensures.ok in
    let read : method_of ts ≡ Some (method_view c.in-Ok.syntax) = grind arith in
    λ other. one_method one_way s ts (method_view c.in-Ok.syntax) other cut read

pub returns-in-Err-NoTree-clause-refused : goal.returns-in-Err-NoTree-clause-refused
unfolding CutAt
returns-in-Err-NoTree-clause-refused c =
    let s = c.args.source.now in
    let ts = tokens_of s c.in_ok-lexemes.field-0.lexemes.items in
    let cut = whole s c.in_ok-lexemes.field-0.lexemes.items c.in_ok-lexemes.field-0.stop c.in_default.is c.in_ok-lexemes.ensures.ok in
    let none : method_of ts ≡ None = grind arith in
    said c.source_fault-in-Err-NoTree.result c.source_fault-in-Err-NoTree.ensures.source (no_method one_way s ts cut none)
