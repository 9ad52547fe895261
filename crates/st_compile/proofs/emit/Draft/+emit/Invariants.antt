use Rattle.std.specs.Prelude.{max}
use Rattle.std.proofs.Common.{◌≡◌, ℕ, ◌+◌, ◌*◌, ◌<◌, ◌≤◌, ◌++◌, ◌∷◌, [], length, map, drop}
use Rattle.st_reader.specs.TreeViews.{chain_view, parts_of, seen_parts, further_of, seen_further, seen_sentences}
use Rattle.st_compile.specs.DraftViews.{line_of}
use Rattle.st_compile.specs.Equations.{arguments, further_sent}
use Rattle.st_compile.specs.DraftGrowth.{dropped}
use Rattle.st_compile.proofs.EmittingChains.{ChainAt}
use Rattle.st_compile.specs.declared.words.Arm.{Arm}
use Rattle.st_compile.specs.declared.words.Arm.TheVariants.{Block, Plain}
use Rattle.st_reader.specs.declared.trees.Chain.{size-Chain}
use Rattle.st_compile.proofs.emit.Draft.+emit.Given as goal

abbrev arm_size : Arm → ℕ
arm_size (Block c) = size-Chain c.now
arm_size (Plain v) = 0

abbrev pub decreases-chain : goal.decreases-chain
decreases-chain l = 4 * goal.size-chain l

abbrev pub decreases-operand : goal.decreases-operand
decreases-operand l = 4 * goal.size-operand l

abbrev pub decreases-value : goal.decreases-value
decreases-value l = 4 * goal.size-value l

abbrev pub decreases-expression : goal.decreases-expression
decreases-expression l = 4 * goal.size-expression l + 1

abbrev pub decreases-statements : goal.decreases-statements
decreases-statements l = 4 * goal.size-statements l

abbrev pub decreases-sent : goal.decreases-sent
decreases-sent l = 4 * goal.size-sent l + 1

abbrev pub decreases-inlined : goal.decreases-inlined
decreases-inlined l = 4 * goal.size-inlined l + 1

abbrev pub decreases-one_block : goal.decreases-one_block
decreases-one_block l = 4 * goal.size-one_block l + 3

abbrev pub decreases-arguments : goal.decreases-arguments
decreases-arguments l = 4 * goal.size-arguments l + 1

abbrev pub decreases-dropped : goal.decreases-dropped
decreases-dropped l = 4 * goal.size-dropped l + 2

abbrev pub decreases-repeated : goal.decreases-repeated
decreases-repeated l = 4 * goal.size-repeated l + 1

abbrev pub decreases-arm : goal.decreases-arm
decreases-arm l = 4 * arm_size l.arm + 1

abbrev pub decreases-either : goal.decreases-either
decreases-either l = 4 * max (arm_size l.first) (arm_size l.other) + 2

abbrev pub decreases-message : goal.decreases-message
decreases-message l = 4 * goal.size-message l + 2

abbrev pub decreases-kept : goal.decreases-kept
decreases-kept l = 4 * goal.size-kept l + 2

abbrev pub decreases-further : goal.decreases-further
decreases-further l = 4 * goal.size-further l + 3

abbrev pub invariant-chain-loop-message : goal.invariant-chain-loop-message
invariant-chain-loop-message l = record {
  code : ChainAt l.fn.depth (chain_view l.fn.chain) (map line_of l.fn.self.lines.items) (map line_of l.self.lines.items) l.receiver (drop l.message-index l.messages);
  longer : length l.fn.self.lines.items < length l.self.lines.items;
}

abbrev pub invariant-arguments-loop-part : goal.invariant-arguments-loop-part
invariant-arguments-loop-part l = record {
  deep : l.depth ≡ l.fn.depth + l.part-index;
  code : map line_of l.self.lines.items ++ arguments l.depth (parts_of (seen_parts (drop l.part-index l.fn.parts))) ≡ map line_of l.fn.self.lines.items ++ arguments l.fn.depth (parts_of (seen_parts l.fn.parts));
  longer : length l.fn.self.lines.items + l.part-index ≤ length l.self.lines.items;
}

abbrev pub invariant-further-loop-message : goal.invariant-further-loop-message
invariant-further-loop-message l = record {
  code : map line_of l.self.lines.items ++ further_sent l.fn.depth (further_of (seen_further (drop l.message-index l.before ++ l.last ∷ []))) ≡ map line_of l.fn.self.lines.items ++ further_sent l.fn.depth (further_of (seen_further l.fn.messages));
  longer : length l.fn.self.lines.items ≤ length l.self.lines.items;
}

abbrev pub invariant-dropped-loop-sentence : goal.invariant-dropped-loop-sentence
invariant-dropped-loop-sentence l = record {
  code : map line_of l.self.lines.items ++ dropped l.fn.depth (seen_sentences (drop l.sentence-index l.fn.sentences)) ≡ map line_of l.fn.self.lines.items ++ dropped l.fn.depth (seen_sentences l.fn.sentences);
  longer : length l.fn.self.lines.items ≤ length l.self.lines.items;
}
