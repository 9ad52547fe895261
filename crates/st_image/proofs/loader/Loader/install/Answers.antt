use Rattle.std.proofs.Common.{sym, ap, ◌∙◌}
use Rattle.st_classes.specs.Classes.{class_named}
use Rattle.st_image.specs.Loading.{LoaderView}
use Rattle.st_image.proofs.LoadedNames.{from_tree}
use Rattle.st_image.proofs.loader.Loader.install.Goals as goal

pub returns-clause-answers : goal.returns-clause-answers
returns-clause-answers c = rw c.let_go.ensures (from_tree c.args.self.now c.install_tree-installed.new.self c.args.class.now c.args.source.now c.in-Ok.tree.source c.in-Some.class c.in-Ok.tree.syntax c.install_tree-installed.result (ap (λ (v : LoaderView). class_named v.edits c.args.class.now) (sym c.self.view_is) ∙ sym c.in-Some.ensures) c.in-Ok.ensures.ok c.in-Ok.ensures.spelled c.in-Ok.ensures.only c.install_tree-installed.ensures.answers)
