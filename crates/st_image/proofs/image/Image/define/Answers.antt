use Rattle.std.proofs.Common.{rules, ◌≡◌, ℕ, List, ◌++◌, inr, subst}
use Rattle.st_classes.specs.declared.edits.Edit.TheVariants.{Define}
use Rattle.st_classes.specs.EditRules.{edit_rules}
use Rattle.st_image.specs.Images.{run_rules, world}
use Rattle.st_image.specs.Calls.{Edits}
use Rattle.st_image.proofs.image.Image.define.Goals as goal

pub returns : goal.returns
returns g c =
    let e : c.from_vec.result ≡ c.args.name.now = search rules in
    let P : List ℕ → Type 0 = λ name. Edits (edit_rules (world c.args.self.now).edits (Define name c.args.parent c.args.slots) ++ run_rules c.args.self.now) (Define name c.args.parent c.args.slots) c.args.self.now c.edit.result c.edit.new.self in
    inr (subst P e c.edit.ensures)
