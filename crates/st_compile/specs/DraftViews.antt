-- Drafts of code, seen as lists of lines.
use Rattle.std.specs.Prelude.{ℕ, zero, suc, pos, negsuc, List, length}
use Rattle.std.specs.List.{flat_map}
use Rattle.st_compile.specs.declared.words.Sent.{Sent}
use Rattle.st_compile.specs.declared.words.Sent.TheVariants.{One, Keywords}
use Rattle.st_compile.specs.declared.words.Word.{Word as Drafted}
use Rattle.st_compile.specs.declared.words.Word.TheVariants.{Literal, Symbol, Receiver, Variable, Store, Drop, Repeat, Message, SuperMessage, Jump, Back, JumpFalse, JumpTrue, Return}
use Rattle.st_compile.specs.declared.words.Line.{Line as DraftedLine}
use Rattle.st_compile.specs.DraftCode.{Word, Line, line, literal, symbol, receiver, variable, store, drop, repeat, message, super_message, jump, jump_false, jump_true, return}

-- the text of a selector
abbrev pub sent_text : Sent → List ℕ
sent_text (One n arguments) = n.now.text
sent_text (Keywords parts) = flat_map (λ p. p.0.text) parts.now

-- its number of arguments
abbrev pub sent_arguments : Sent → ℕ
sent_arguments (One n arguments) = arguments
sent_arguments (Keywords parts) = length parts.now

-- a jump back by a number of instructions; a jump by 0 does nothing
abbrev pub back : ℕ → Word
back zero = jump (pos 0)
back (suc n) = jump (negsuc n)

-- the word that a draft's word stands for
abbrev pub word_of : Drafted → Word
word_of (Literal v) = literal v
word_of (Symbol n) = symbol n.now.text
word_of Receiver = receiver
word_of (Variable n) = variable n.now
word_of (Store n) = store n.now
word_of Drop = drop
word_of Repeat = repeat
word_of (Message sent) = message (sent_text sent) (sent_arguments sent)
word_of (SuperMessage sent) = super_message (sent_text sent) (sent_arguments sent)
word_of (Jump distance) = jump (pos distance)
word_of (Back distance) = back distance
word_of (JumpFalse distance) = jump_false distance
word_of (JumpTrue distance) = jump_true distance
word_of Return = return

-- the line that a draft's line stands for
abbrev pub line_of : DraftedLine → Line
line_of l = line l.depth (word_of l.word)
