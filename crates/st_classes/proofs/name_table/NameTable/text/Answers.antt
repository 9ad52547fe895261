use Rattle.std.proofs.Common.{◌≡◌, ◌<◌, ℕ, length, get_or, ap, ◌∙◌, arith}
use Rattle.std.specs.Global.{Vec}
use Rattle.std.proofs.lemmas.List.{length-map}
use Rattle.st_classes.specs.Selectors.{is_selector}
use Rattle.st_classes.proofs.Naming.{texts-at}
use Rattle.st_classes.proofs.name_table.NameTable.text.Goals as goal

pub returns-clause-selector : goal.returns-clause-selector
returns-clause-selector c =
    let keys = c.self.inside.texts.keys in
    let vector = c.index-as_slice-from.result in
    let within : c.args.name.0 < length keys = omega (arith, ap length c.self.view_is, length-map keys (λ (w : Vec ℕ). w.items)) in
    let read : vector ≡ get_or keys c.args.name.0 vector = cc in
    ap is_selector c.as_slice-2.ensures.value ∙ c.self.invariant.selectors c.args.name.0 vector.items (texts-at keys c.args.name.0 vector within read)
