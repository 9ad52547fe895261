use Rattle.std.proofs.Common.{◌≡◌, List, Some, None, sym, subst, ◌∙◌}
use Rattle.st_classes.specs.declared.edits.Edit.{Edit}
use Rattle.st_classes.specs.Refusals.{first_of}
use Rattle.st_classes.specs.EditRules.{edit_rules}
use Rattle.st_image.specs.Images.{run_rules, world}
use Rattle.st_image.proofs.Lists.{first_here, first_later}
use Rattle.st_image.proofs.image.Image.edit_refusal.Goals as goal

pub returns-in-Some : goal.returns-in-Some
returns-in-Some g c =
    let here : first_of (edit_rules (world c.args.self.now).edits c.args.edit.now) ≡ Some c.in-Some.refusal = subst (λ (es : List Edit). first_of (edit_rules es c.args.edit.now) ≡ Some c.in-Some.refusal) c.version.ensures (sym c.in-Some.ensures) in
    sym (first_here (edit_rules (world c.args.self.now).edits c.args.edit.now) (run_rules c.args.self.now) c.in-Some.refusal here)

pub returns-in-None : goal.returns-in-None
returns-in-None g c =
    let none : first_of (edit_rules (world c.args.self.now).edits c.args.edit.now) ≡ None = subst (λ (es : List Edit). first_of (edit_rules es c.args.edit.now) ≡ None) c.version.ensures (sym c.in-None.ensures) in
    c.run_refusal.ensures ∙ sym (first_later (edit_rules (world c.args.self.now).edits c.args.edit.now) (run_rules c.args.self.now) none)
