use Rattle.std.proofs.Common.{sym, ◌∙◌, ◌-◌, take}
use Rattle.st_turn.proofs.LaidFrames.{length-frames_in}
use Rattle.st_turn.proofs.stack.Stack.waiting.Goals as goal

pub returns : goal.returns
returns c =
    let s = c.self.inside in
    rw (← c.self.view_is) (c.len.ensures ∙ sym (length-frames_in s.callers (s.at.base - 1) (take (s.at.base - 1) s.values.items)))
