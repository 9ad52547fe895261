use Rattle.std.proofs.Common.{◌≡◌, ℕ, false, List, [], ◌∷◌, length, Some, None, refl, ap, ◌∙◌}
use Rattle.std.specs.Prelude.{◌==◌, option_map, option_and_then}
use Rattle.st_reader.specs.declared.tokens.Lexeme.{Lexeme}
use Rattle.st_reader.specs.Syntax.{Statements}
use Rattle.st_reader.specs.TreeViews.{statements_view}
use Rattle.st_reader.specs.Lexemes.{tokens_of}
use Rattle.st_reader.specs.Parser.{Read, whole, statements_with, expression_of, body_of}
use Rattle.st_reader.proofs.parser.body.Goals as goal

not_whole : (s : List ℕ) (ss : Statements) (rest : List Lexeme) → false ≡ (length rest == 0) → whole (ss, tokens_of s rest) ≡ None
not_whole s ss [] some = absurd cc
not_whole s ss (l ∷ ls) some = refl

-- tokens are left behind the statements
more_behind : (s : List ℕ) (ls rest : List Lexeme) (ss : Statements) → false ≡ (length ls == 0) → false ≡ (length rest == 0) → statements_with (expression_of 64) (length (tokens_of s ls)) (tokens_of s ls) ≡ Some (ss, tokens_of s rest) → body_of (tokens_of s ls) ≡ None
unfolding body_of
more_behind s [] rest ss some more e = absurd cc
more_behind s (l ∷ ls) rest ss some more e =
    ap (λ (o : Read Statements). option_map (λ x. Some x) (option_and_then whole o)) e ∙ ap (option_map (λ x. Some x)) (not_whole s ss rest more)

pub returns-else-is_empty-2 : goal.returns-else-is_empty-2
returns-else-is_empty-2 c = rw c.let_go.ensures (more_behind c.args.source.now c.args.lexemes.now c.in_ok-statements.rest.now (statements_view c.in_ok-statements.statements) c.if-is_empty.ensures c.if-is_empty-2.ensures c.in_ok-statements.ensures)
