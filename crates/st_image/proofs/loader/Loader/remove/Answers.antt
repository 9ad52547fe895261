use Rattle.std.proofs.Common.{sym, ap, ◌∙◌}
use Rattle.st_classes.specs.Classes.{class_named}
use Rattle.st_classes.specs.Selectors.{place_of}
use Rattle.st_image.specs.Loading.{LoaderView}
use Rattle.st_image.proofs.LoadedNames.{place_found}
use Rattle.st_image.proofs.loader.Loader.remove.Goals as goal

pub returns-in-Ok-clause-answers : goal.returns-in-Ok-clause-answers
returns-in-Ok-clause-answers c = record {
  holder = c.in-Some.class;
  number = c.in-Some-find.selector.0;
  named = ap (λ (v : LoaderView). class_named v.edits c.args.class.now) (sym c.self.view_is) ∙ sym c.in-Some.ensures;
  there = ap (λ (v : LoaderView). place_of v.names c.args.selector.now) (sym c.self.view_is) ∙ place_found (place_of c.self.inside.names c.args.selector.now) c.in-Some-find.selector c.in-Some-find.ensures;
  accepts = record { allowed = c.in-Ok.ensures.answers.0; added = ap (λ (v : LoaderView). v.edits) c.in-Ok.ensures.answers.1 };
  names = ap (λ (v : LoaderView). v.names) c.in-Ok.ensures.answers.1;
}
