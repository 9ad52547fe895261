use Rattle.std.proofs.Common.{◌≡◌, map, drop}
use Rattle.serde_json.specs.View.{view}
use Rattle.st_wire.specs.Keys.{has_all}
use Rattle.st_wire.proofs.keys.has_all.Given as goal

abbrev pub invariant-loop-key : goal.invariant-loop-key
invariant-loop-key l = has_all (map (λ key. key.now) l.keys) (view l.object) ≡ has_all (map (λ key. key.now) (drop l.key-index l.keys)) (view l.object)
