use Rattle.std.proofs.Common.{◌≡◌, map, take}
use Rattle.st_classes.specs.Names.{texts_of}
use Rattle.st_classes.proofs.name_table.set_of.Given as goal

abbrev pub invariant-loop-text : goal.invariant-loop-text
invariant-loop-text l = texts_of l.set.keys ≡ take l.text-index (map (λ t. t.now) l.texts)
