use Rattle.std.proofs.Common.{◌+◌, ◌≤◌, length}
use Rattle.st_image.specs.Images.{world}
use Rattle.st_image.specs.KeptEdits.{KeepsBeginning}
use Rattle.st_journal.proofs.SaidLines.{HasRead}
use Rattle.st_journal.proofs.redoing.lines.redo_text.Given as goal

abbrev pub invariant-loop-rest : goal.invariant-loop-rest
invariant-loop-rest g l = record {
  read : HasRead l.fn.image l.fn.text l.place l.rest l.image;
  kept : KeepsBeginning (world l.image).edits l.worker;
  within : l.place + length l.rest ≤ length l.fn.text;
}

abbrev pub decreases-loop-rest : goal.decreases-loop-rest
decreases-loop-rest g l = length l.rest
