use Rattle.std.proofs.Common.{ap, sym, ◌∙◌}
use Rattle.std.specs.Prelude.{is_some}
use Rattle.st_image.proofs.Installing.{kernel_found}
use Rattle.st_image.proofs.image.Image.has_kernel_method.Goals as goal

pub returns-in-Some : goal.returns-in-Some
returns-in-Some g c = c.is_some.ensures ∙ ap is_some c.kernel_at.ensures ∙ kernel_found c.self.inside.names c.self.invariant.image.world.constants.kernel c.args.class c.args.selector.now c.in-Some.selector (sym c.find.ensures ∙ c.in-Some.is)
