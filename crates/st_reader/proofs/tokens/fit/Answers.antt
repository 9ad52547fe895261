use Rattle.std.proofs.Common.{◌≡◌, ◌∙◌, ℕ, List, map, sym, rules, tests}
use Rattle.std.specs.List.{list_all}
use Rattle.std.proofs.lemmas.Iterator.{YieldsList-from_slice}
use Rattle.std.proofs.lemmas.Iterator.Search.{all_from_yields_List}
use Rattle.std.proofs.lemmas.List.Folds.{list_all-map}
use Rattle.st_reader.specs.declared.tokens.Lexeme.{Lexeme}
use Rattle.st_reader.specs.Tokens.{token_fits}
use Rattle.st_reader.specs.Lexemes.{token_of, lexeme_fits}
use Rattle.st_reader.proofs.tokens.fit.Goals as goal

by_tokens : (text : List ℕ) (ls : List Lexeme) → list_all (lexeme_fits text) ls ≡ list_all token_fits (map (token_of text) ls)
unfolding lexeme_fits
by_tokens text ls = sym (list_all-map token_fits (token_of text) ls)

pub returns : goal.returns
returns c =
    all_from_yields_List (lexeme_fits c.args.source.now) _ _ c.all.result c.all.ensures.ran (YieldsList-from_slice c.args.lexemes.now cc) (λ x b q k. search (rules, tests)) ∙ by_tokens c.args.source.now c.args.lexemes.now
