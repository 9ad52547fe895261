use Rattle.std.proofs.Common.{List, ℕ, subst, IfErr}
use Rattle.st_classes.specs.Refusals.{first_of, Answers}
use Rattle.st_image.specs.Installs.{Installs, LeavesNames, image_install_rules}
use Rattle.st_image.proofs.Installing.{install_answered}
use Rattle.st_image.proofs.image.Image.install.Goals as goal

pub returns-clause-answers : goal.returns-clause-answers
returns-clause-answers g c =
    rw c.let_go.ensures (install_answered c.args.self.now c.install_tree-installed.new.self c.args.class c.in_ok-tree.tree.syntax c.args.source.now c.install_tree-installed.result c.in_ok-tree.ensures.spelled
    (subst (λ (text : List ℕ). Answers (first_of (image_install_rules c.args.self.now c.args.class c.in_ok-tree.tree.syntax)) c.install_tree-installed.result (λ n. Installs c.args.self.now c.args.class c.in_ok-tree.tree.syntax text c.install_tree-installed.new.self n)) c.in_ok-tree.ensures.ok c.install_tree-installed.ensures.answers))

pub returns-clause-refused : goal.returns-clause-refused
returns-clause-refused g c = rw c.let_go.ensures (subst (λ (text : List ℕ). IfErr c.install_tree-installed.result (λ e. LeavesNames c.args.self.now c.args.class text e c.install_tree-installed.new.self)) c.in_ok-tree.ensures.ok c.install_tree-installed.ensures.refused)
