use Rattle.std.proofs.Common.{arith, ◌≡◌, ◌+◌, ◌≤◌, List, length, ap, ◌∙◌}
use Rattle.st_classes.specs.declared.edits.Edit.{Edit}
use Rattle.st_image.specs.Worlds.{World}
use Rattle.st_image.specs.Counts.{edits_of, weigh}
use Rattle.st_image.specs.Images.{edits_made, world_of}
use Rattle.st_image.specs.ActResults.{constants_of}
use Rattle.st_image.proofs.Renewal.{edits_bounded}
use Rattle.st_image.proofs.image.Image.edits_made.Goals as goal

pub overflow_add-result : goal.overflow_add-result
overflow_add-result g c =
    let i = c.self.inside in
    let w : World = world_of (constants_of i.names i.settings.capacity) i.base i.history.items in
    let few : i.earlier.edits + weigh edits_of i.history.items ≤ length w.edits = edits_bounded (constants_of i.names i.settings.capacity) i.base w i.history.items i.earlier.edits c.self.invariant.before.edits c.self.invariant.image.lawful in
    let table : length c.shown.result.now ≡ length w.edits = ap (λ (es : List Edit). length es) (c.shown.ensures ∙ c.self.invariant.image.shows.edits_are) in
    omega (arith, few, table, c.known.ensures.few, c.self.invariant.image.counted, c.edits.ensures)

pub returns : goal.returns
returns g c =
    let i = c.self.inside in
    let made : i.earlier.edits + weigh edits_of i.history.items ≡ edits_made c.args.self.now = ap edits_made c.self.view_is in
    omega (arith, made, c.edits.ensures, c.self.invariant.image.counted)
