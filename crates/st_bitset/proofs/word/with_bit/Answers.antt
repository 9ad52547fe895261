use Rattle.std.proofs.Common.{ap, sym, ◌∙◌, ◌==◌, ℕ, w64}
use Rattle.std.proofs.lemmas.Nat.Bits.{bit_at_clear_other, bit_at_clear_same, bit_at_set_other, bit_at_set_same}
use Rattle.st_bitset.proofs.word.with_bit.Goals as goal

pub returns-then-raised-clause-here : goal.returns-then-raised-clause-here
returns-then-raised-clause-here c = ap (λ (b : ℕ). b == 1) (bit_at_set_same w64 c.args.word c.args.place c.requires) ∙ sym c.if-raised.true

pub returns-then-raised-clause-others : goal.returns-then-raised-clause-others
returns-then-raised-clause-others c = λ i within differ. bit_at_set_other w64 c.args.word c.args.place c.requires i differ

pub returns-else-raised-clause-here : goal.returns-else-raised-clause-here
returns-else-raised-clause-here c = ap (λ (b : ℕ). b == 1) (bit_at_clear_same w64 c.args.word c.args.place c.requires) ∙ sym c.if-raised.false

pub returns-else-raised-clause-others : goal.returns-else-raised-clause-others
returns-else-raised-clause-others c = λ i within differ. bit_at_clear_other w64 c.args.word c.args.place c.requires i within differ
