use Rattle.std.proofs.Common.{◌≡◌, drop}
use Rattle.serde_json.specs.View.{items_view}
use Rattle.st_wire.specs.Fields as spec
use Rattle.st_wire.proofs.Lists.{after}
use Rattle.st_wire.proofs.fields.each.Given as goal

abbrev pub invariant-loop-value : goal.invariant-loop-value
invariant-loop-value g l = spec.each_of g.T.Readable.form (items_view l.values.items) ≡ after l.found.items (spec.each_of g.T.Readable.form (items_view (drop l.value-index l.values.items)))
