use Rattle.std.proofs.Common.{◌++◌, [], ◌∷◌, List, ap, ◌∙◌}
use Rattle.st_classes.specs.declared.edits.Edit.{Edit}
use Rattle.st_image.specs.Images.{world}
use Rattle.st_image.proofs.image.Image.with_edit.Goals as goal

pub with_accepted-requires-clause-accepted : goal.with_accepted-requires-clause-accepted
with_accepted-requires-clause-accepted g c = rw (c.version.ensures, c.in_ok-shared.ensures) c.requires.accepted

pub with_accepted-requires-clause-suits : goal.with_accepted-requires-clause-suits
with_accepted-requires-clause-suits g c = (c.args.self.now.names, rw (c.version.ensures, c.in_ok-shared.ensures) c.requires.suits)

pub returns-clause-token : goal.returns-clause-token
returns-clause-token g c = c.in_ok-token.ensures ∙ c.in_ok-version.ensures ∙ ap (λ (es : List Edit). es ++ c.in_ok-shared.shared ∷ []) c.version.ensures ∙ ap (λ (x : Edit). (world c.args.self.now).edits ++ x ∷ []) c.in_ok-shared.ensures

pub returns-clause-item : goal.returns-clause-item
returns-clause-item g c = c.in_ok-item.ensures ∙ c.in_ok-shared.ensures
