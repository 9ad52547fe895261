use Rattle.std.proofs.Common.{◌≡◌, ap, sym, ◌∙◌, subst, true}
use Rattle.st_classes.specs.MethodSuits.{suits}
use Rattle.st_compile.specs.Scopes.{pattern_selector}
use Rattle.st_image.specs.CompiledEdits.{IsCompiledFrom}
use Rattle.st_image.specs.Installs.{is_kernel_text}
use Rattle.st_image.specs.Images.{world}
use Rattle.st_image.specs.Worlds.{World}
use Rattle.st_image.proofs.CompiledEdits.{read_compiled}
use Rattle.st_image.proofs.Installing.{exact_answers, tree_refused, tree_installed, tree_left, edit_left}
use Rattle.st_image.proofs.image.Image.install_tree.Goals as goal

pub returns-in-Err-clause-answers : goal.returns-in-Err-clause-answers
returns-in-Err-clause-answers g c = tree_refused c.args.self.now c.args.class c.args.tree.now.syntax c.in-Err.refusal c.requires (ap (λ p. is_kernel_text c.args.class (pattern_selector p)) (sym c.pattern.ensures) ∙ sym c.in_ok-is_kernels.ensures.ok ∙ c.if-is_kernels.false) c.in-Err.ensures.answers

pub edit-requires-clause-suits : goal.edit-requires-clause-suits
edit-requires-clause-suits g c = subst (λ (v : World). suits c.compiled.new.self.names v.edits c.args.class c.in-Ok.method ≡ true) (sym c.compiled.ensures.world) c.in-Ok.ensures.answers.1.fitting

pub edit-requires-clause-compiled : goal.edit-requires-clause-compiled
edit-requires-clause-compiled g c = subst (λ (v : World). IsCompiledFrom c.compiled.new.self.names v.edits c.args.class c.in-Ok.method) (sym c.compiled.ensures.world) (read_compiled c.args.self.now.names c.compiled.new.self.names (world c.args.self.now).edits c.args.class c.args.tree.now.syntax c.args.tree.now.source c.in-Ok.method c.known.ensures c.in-Ok.ensures.answers.0 c.in-Ok.ensures.answers.1)

pub returns-clause-answers : goal.returns-clause-answers
returns-clause-answers g c = tree_installed c.args.self.now c.compiled.new.self c.edit.new.self c.args.class c.args.tree.now.syntax c.args.tree.now.source c.in-Ok.method c.edit.result c.requires (ap (λ p. is_kernel_text c.args.class (pattern_selector p)) (sym c.pattern.ensures) ∙ sym c.in_ok-is_kernels.ensures.ok ∙ c.if-is_kernels.false) c.in-Ok.ensures.answers.0 c.in-Ok.ensures.names c.compiled.ensures.world c.known-2.ensures.lawful c.known-2.ensures.standing.constants.kernel c.in-Ok.ensures.answers.1 (exact_answers _ c.edit.result _ c.edit.ensures.0)

pub returns-in-Err-clause-refused : goal.returns-in-Err-clause-refused
returns-in-Err-clause-refused g c = tree_left c.args.self.now c.compiled.new.self c.args.class c.args.tree.now.syntax c.args.tree.now.source c.in-Err.refusal c.known.ensures c.requires (ap (λ p. is_kernel_text c.args.class (pattern_selector p)) (sym c.pattern.ensures) ∙ sym c.in_ok-is_kernels.ensures.ok ∙ c.if-is_kernels.false) c.compiled.ensures.some c.compiled.ensures.only c.compiled.ensures.untouched c.in-Err.ensures.full c.in-Err.ensures.answers

pub returns-clause-refused : goal.returns-clause-refused
returns-clause-refused g c = edit_left c.edit.result _ c.args.self.now c.compiled.new.self c.edit.new.self c.args.class c.args.tree.now.syntax c.args.tree.now.source c.in-Ok.method c.known.ensures c.requires (ap (λ p. is_kernel_text c.args.class (pattern_selector p)) (sym c.pattern.ensures) ∙ sym c.in_ok-is_kernels.ensures.ok ∙ c.if-is_kernels.false) c.in-Ok.ensures.answers.0 c.in-Ok.ensures.names c.compiled.ensures.world c.known-2.ensures.standing.constants.kernel c.in-Ok.ensures.answers.1.selector c.edit.ensures.1 (exact_answers _ c.edit.result _ c.edit.ensures.0)
