use Rattle.std.proofs.Common.{◌≡◌, ℕ, ◌+◌, ◌-◌, ◌*◌, ◌≤◌, length}
use Rattle.std.specs.Prelude.{option_map}
use Rattle.st_reader.specs.Lexemes.{tokens_of}
use Rattle.st_reader.specs.TreeViews.{chain_view, seen_parts, seen_further, seen_sentences, behind_sentences}
use Rattle.st_reader.specs.Parser.{in_front, operations_of, binary_of, keyword_parts_of, further_messages_of, statements_with, expression_of, group_of, block_of}
use Rattle.st_reader.proofs.parser.expressions.+read.Given as goal

abbrev pub decreases-group : goal.decreases-group
decreases-group l = 12 * l.nesting + 1

abbrev pub decreases-block : goal.decreases-block
decreases-block l = 12 * l.nesting + 1

abbrev pub decreases-operand : goal.decreases-operand
decreases-operand l = 12 * l.nesting + 2

abbrev pub decreases-term : goal.decreases-term
decreases-term l = 12 * l.nesting + 3

abbrev pub decreases-binary : goal.decreases-binary
decreases-binary l = 12 * l.nesting + 4

abbrev pub decreases-parts : goal.decreases-parts
decreases-parts l = 12 * l.nesting + 5

abbrev pub decreases-message : goal.decreases-message
decreases-message l = 12 * l.nesting + 6

abbrev pub decreases-further : goal.decreases-further
decreases-further l = 12 * l.nesting + 7

abbrev pub decreases-expression : goal.decreases-expression
decreases-expression l = 12 * l.nesting + 8

abbrev pub decreases-statements : goal.decreases-statements
decreases-statements l = 12 * l.nesting + 9

abbrev pub decreases-filled_block : goal.decreases-filled_block
decreases-filled_block l = 12 * l.nesting + 10

abbrev pub invariant-binary-loop-operator : goal.invariant-binary-loop-operator
invariant-binary-loop-operator l =
    (n : ℕ) × (length (tokens_of l.source l.rest) ≤ n) × (binary_of (group_of l.nesting) (block_of l.nesting) (tokens_of l.source l.lexemes) ≡ operations_of (group_of l.nesting) (block_of l.nesting) n (chain_view l.chain) (tokens_of l.source l.rest))

abbrev pub decreases-binary-loop-operator : goal.decreases-binary-loop-operator
decreases-binary-loop-operator l = length l.rest

abbrev pub invariant-parts-loop-keyword : goal.invariant-parts-loop-keyword
invariant-parts-loop-keyword l =
    (length l.parts.items ≤ 8) × (keyword_parts_of (group_of l.nesting) (block_of l.nesting) 8 (tokens_of l.source l.lexemes) ≡ in_front (seen_parts l.parts.items) (keyword_parts_of (group_of l.nesting) (block_of l.nesting) (8 - length l.parts.items) (tokens_of l.source l.rest)))

abbrev pub decreases-parts-loop-keyword : goal.decreases-parts-loop-keyword
decreases-parts-loop-keyword l = length l.rest

abbrev pub invariant-further-loop-semicolon : goal.invariant-further-loop-semicolon
invariant-further-loop-semicolon l =
    (n : ℕ) × (length (tokens_of l.source l.rest) ≤ n) × (further_messages_of (group_of l.nesting) (block_of l.nesting) (length (tokens_of l.source l.lexemes)) (tokens_of l.source l.lexemes) ≡ in_front (seen_further l.further.items) (further_messages_of (group_of l.nesting) (block_of l.nesting) n (tokens_of l.source l.rest)))

abbrev pub decreases-further-loop-semicolon : goal.decreases-further-loop-semicolon
decreases-further-loop-semicolon l = length l.rest

abbrev pub invariant-statements-loop-caret : goal.invariant-statements-loop-caret
invariant-statements-loop-caret l =
    (n : ℕ) × (length (tokens_of l.source l.rest) ≤ n) × (statements_with (expression_of l.nesting) (length (tokens_of l.source l.lexemes)) (tokens_of l.source l.lexemes) ≡ option_map (behind_sentences (seen_sentences l.before.items)) (statements_with (expression_of l.nesting) n (tokens_of l.source l.rest)))

abbrev pub decreases-statements-loop-caret : goal.decreases-statements-loop-caret
decreases-statements-loop-caret l = length l.rest
