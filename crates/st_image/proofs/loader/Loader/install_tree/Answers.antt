use Rattle.std.proofs.Common.{List, ap, subst, sym}
use Rattle.st_classes.specs.declared.edits.Edit.{Edit}
use Rattle.st_classes.specs.declared.refusals.Refusal.{Refusal}
use Rattle.st_image.specs.CompiledEdits.{IsCompiledFrom}
use Rattle.st_image.specs.Loading.{LeavesInstall, LoaderView, edits_refusal}
use Rattle.st_image.proofs.CompiledEdits.{read_compiled}
use Rattle.st_image.proofs.Leaving.{place_left, tree_left}
use Rattle.st_image.proofs.LoadedNames.{tree_installed, fits_there}
use Rattle.st_image.proofs.loader.Loader.install_tree.Goals as goal

pub accept-requires-clause-suits : goal.accept-requires-clause-suits
accept-requires-clause-suits c = fits_there c.args.self.now c.compiled.new.self c.args.class c.args.tree.now.syntax c.args.tree.now.source c.in-Ok.method (ap (λ (v : LoaderView). v.edits) c.compiled.ensures.only) c.in-Ok.ensures.answers.1

pub accept-requires-clause-compiled : goal.accept-requires-clause-compiled
accept-requires-clause-compiled c = subst (λ (es : List Edit). IsCompiledFrom c.compiled.new.self.names es c.args.class c.in-Ok.method) (sym (ap (λ (v : LoaderView). v.edits) c.compiled.ensures.only)) (read_compiled c.args.self.now.names c.compiled.new.self.names c.args.self.now.edits c.args.class c.args.tree.now.syntax c.args.tree.now.source c.in-Ok.method c.known.ensures c.in-Ok.ensures.answers.0 c.in-Ok.ensures.answers.1)

pub returns-in-Ok-accept-clause-answers : goal.returns-in-Ok-accept-clause-answers
returns-in-Ok-accept-clause-answers c = tree_installed c.args.self.now c.compiled.new.self c.accept.new.self c.args.class c.args.tree.now.syntax c.args.tree.now.source c.in-Ok.method c.in-Ok.ensures.answers.0 c.in-Ok.ensures.names (ap (λ (v : LoaderView). v.edits) c.compiled.ensures.only) c.in-Ok.ensures.answers.1 c.in-Ok-accept.ensures.answers.0 c.in-Ok-accept.ensures.answers.1

pub returns-in-Err-clause-refused : goal.returns-in-Err-clause-refused
returns-in-Err-clause-refused c = λ name named.
    subst (λ (r : Refusal). LeavesInstall c.args.self.now name c.args.tree.now.source r c.compiled.new.self) (sym c.refused.ensures)
    (tree_left c.args.self.now c.compiled.new.self name c.args.tree.now.source c.args.class c.args.tree.now.syntax c.in-Err.refusal named c.known.ensures c.compiled.ensures.some c.compiled.ensures.only c.compiled.ensures.untouched c.in-Err.ensures.full c.in-Err.ensures.answers)

pub returns-in-Err-accept-clause-refused : goal.returns-in-Err-accept-clause-refused
returns-in-Err-accept-clause-refused c = λ name named.
    subst (λ (r : Refusal). LeavesInstall c.args.self.now name c.args.tree.now.source r c.accept.new.self) (sym c.refused-in-Err-accept.ensures)
    (subst (λ (v : LoaderView). LeavesInstall c.args.self.now name c.args.tree.now.source (edits_refusal c.in-Err-accept.refusal) v) (sym c.in-Err-accept.ensures.refused)
    (place_left c.args.self.now c.compiled.new.self name c.args.tree.now.source c.args.class c.args.tree.now.syntax c.in-Err-accept.refusal named c.known.ensures c.in-Ok.ensures.names c.compiled.ensures.only c.in-Ok.ensures.answers.0))
