use Rattle.std.proofs.Common.{◌≡◌, ◌-◌, ◌+◌, ℕ, min, length, length-append, length-drop, take, drop, ap, ◌∙◌, arith}
use Rattle.st_wire.proofs.Parts.{part_copied, none_left}
use Rattle.st_wire.proofs.streams.memory.MemoryInputInput.read.Goals as goal

pub returns-clause-gives : goal.returns-clause-gives
returns-clause-gives c =
    let m = c.args.self.now in
    let n = c.min-count.result in
    let same = ap (λ bytes. take (m.place + n - m.place) (drop m.place bytes)) c.deref.ensures.value in
    let least : n ≡ min (length m.bytes.items - m.place) (length c.args.buffer.now) = omega arith in
    let part = part_copied m.bytes.items _ _ m.place n _ (omega arith) (omega arith) (c.copy_from_slice.ensures.after ∙ same) in
    (part, λ none room. none_left m.bytes.items m.place n (length c.args.buffer.now) least none (omega (arith, length-append {A = ℕ}, length-drop {A = ℕ})))
