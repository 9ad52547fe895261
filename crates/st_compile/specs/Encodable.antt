-- Words that an instruction can hold, and the instructions that have a site.
use Rattle.std.specs.Prelude.{◌≡◌, pos, negsuc, List, [], Bool, true, false, nat_le, nat_lt}
use Rattle.std.specs.List.{list_all}
use Rattle.st_classes.specs.declared.instructions.Instruction.{Instruction}
use Rattle.st_classes.specs.declared.instructions.Instruction.TheVariants.{Send, SuperSend}
use Rattle.st_classes.specs.Selectors.{is_selector, arity_of}
use Rattle.st_classes.specs.MethodSuits.{is_number, literal_suits}
use Rattle.st_compile.specs.CompileRules.{is_known}
use Rattle.st_compile.specs.NameResolution.{Scope}
use Rattle.st_compile.specs.DraftCode.{Word, Line, literal, symbol, message, super_message, jump, jump_false, jump_true}

-- a literal suits every class table, a symbol is a selector, and a message has as many arguments as its selector
abbrev pub word_fits : Word → Bool
word_fits (literal v) = literal_suits [] 0 v
word_fits (symbol text) = is_selector text
word_fits (message text n) = is_number (arity_of text) n
word_fits (super_message text n) = is_number (arity_of text) n
word_fits _ = true

-- a jump passes at most 1,024 instructions
abbrev pub is_near : Word → Bool
is_near (jump (pos d)) = nat_le d 1024
is_near (jump (negsuc d)) = nat_lt d 1024
is_near (jump_false d) = nat_le d 1024
is_near (jump_true d) = nat_le d 1024
is_near _ = true

-- each word of a code has an instruction in the scope once its texts have numbers: its name means something, and an
-- instruction can hold it
pub record IsReady (scope : Scope) (ls : List Line) : Type 0 where
  pub known : list_all (λ l. is_known scope l.word) ls ≡ true
  pub fits : list_all (λ l. word_fits l.word) ls ≡ true
  pub near : list_all (λ l. is_near l.word) ls ≡ true

-- sends and super sends have sites
abbrev pub is_send : Instruction → Bool
is_send (Send s n) = true
is_send (SuperSend s n) = true
is_send _ = false
