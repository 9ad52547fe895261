use Rattle.std.proofs.Common.{sym, ap, ◌∙◌}
use Rattle.st_classes.specs.Classes.{class_named}
use Rattle.st_image.specs.Loading.{LoaderView}
use Rattle.st_image.proofs.loader.Loader.reparent.Goals as goal

pub returns-in-Ok-clause-answers : goal.returns-in-Ok-clause-answers
returns-in-Ok-clause-answers c = record {
  moved = c.in-Some.class;
  above = c.in-Some-class_named.parent;
  named = ap (λ (v : LoaderView). class_named v.edits c.args.class.now) (sym c.self.view_is) ∙ sym c.in-Some.ensures;
  named_above = ap (λ (v : LoaderView). class_named v.edits c.args.parent.now) (sym c.self.view_is) ∙ sym c.in-Some-class_named.ensures;
  accepts = record { allowed = c.in-Ok.ensures.answers.0; added = ap (λ (v : LoaderView). v.edits) c.in-Ok.ensures.answers.1 };
  names = ap (λ (v : LoaderView). v.names) c.in-Ok.ensures.answers.1;
}
