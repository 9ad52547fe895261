use Rattle.std.proofs.Common.{List, subst}
use Rattle.st_classes.specs.declared.edits.Edit.{Edit}
use Rattle.st_image.specs.CompiledEdits.{AllCompiled}
use Rattle.st_image.specs.Images.{ImageView, world}
use Rattle.st_image.proofs.image.Image.all_compiled.Goals as goal

pub returns : goal.returns
returns g c =
    let i = c.self.inside in
    subst (λ (v : ImageView). AllCompiled v.names (world v).edits) c.self.view_is (subst (λ (es : List Edit). AllCompiled i.names es) c.self.invariant.image.shows.edits_are c.self.invariant.compiled)
