use Rattle.std.proofs.Common.{◌≡◌, take}
use Rattle.st_turn.specs.StackLayout.{places_of, spread_all}
use Rattle.st_turn.proofs.stack.copying.lay_all.Given as goal

abbrev pub invariant-loop-frame : goal.invariant-loop-frame
invariant-loop-frame l =
    (l.places.items ≡ places_of 0 (take l.frame-index l.frames)) × (l.values.items ≡ spread_all (take l.frame-index l.frames))
