use Rattle.std.proofs.Common.{◌≡◌, ◌++◌, take}
use Rattle.st_classes.proofs.class_rows.append_texts.Given as goal

abbrev pub invariant-loop-text : goal.invariant-loop-text
invariant-loop-text l = l.copies.items ≡ l.initial.copies.items ++ take l.text-index l.texts
