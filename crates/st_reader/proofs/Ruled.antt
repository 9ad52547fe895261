-- What a text spells by the grammar and the rules.
use Rattle.std.proofs.Common.{◌≡◌, true, false, ℕ, List, sym, ap, ◌∙◌}
use Rattle.st_reader.specs.Syntax.{Method}
use Rattle.st_reader.specs.WellFormed.{keeps_rules}
use Rattle.st_reader.specs.Spelling.{Spells, SpellsGrammar}

-- a text spells no method where the one that it spells by the grammar breaks a rule
pub breaks : (text : List ℕ) (m : Method) → ((other : Method) → SpellsGrammar other text → other ≡ m) → keeps_rules m ≡ false → (other : Method) → Spells other text → ⊥
breaks text m only broken other spells =
    let e : false ≡ true = sym broken ∙ ap keeps_rules (sym (only other spells.spelled)) ∙ spells.rules in
    cc
