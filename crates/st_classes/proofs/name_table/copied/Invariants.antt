use Rattle.std.proofs.Common.{◌≡◌, take}
use Rattle.st_classes.specs.Names.{texts_of}
use Rattle.st_classes.proofs.name_table.copied.Given as goal

abbrev pub invariant-loop-text : goal.invariant-loop-text
invariant-loop-text l = texts_of l.copy.keys ≡ take l.text-index (texts_of l.texts.keys)
