-- The texts that spell a method.
use Rattle.std.specs.Prelude.{◌≡◌, ℕ, ◌≤◌, List, length, true}
use Rattle.std.specs.List.{list_all}
use Rattle.st_reader.specs.Tokens.{IsCut, is_character, token_fits}
use Rattle.st_reader.specs.Syntax.{Method}
use Rattle.st_reader.specs.Grammar.{method_toks, IsMethod}
use Rattle.st_reader.specs.WellFormed.{keeps_rules}

-- a text spells a method of the grammar: it has at most 4,096 bytes, all of which may be in a source, it is cut into
-- the tokens of the method, each within its limits, and the method follows the grammar
pub record SpellsGrammar (method : Method) (text : List ℕ) : Type 0 where
  pub short : length text ≤ 4096
  pub characters : list_all is_character text ≡ true
  pub cut : IsCut text (method_toks method)
  pub fits : list_all token_fits (method_toks method) ≡ true
  pub grammar : IsMethod method

-- a text spells a method: it spells it by the grammar, and the method keeps the rules
pub record Spells (method : Method) (text : List ℕ) : Type 0 where
  pub spelled : SpellsGrammar method text
  pub rules : keeps_rules method ≡ true

-- no text spells two methods
abbrev pub OneReading : Type 0
OneReading = (text : List ℕ) (a b : Method) → Spells a text → Spells b text → a ≡ b
