use Rattle.std.proofs.Common.{◌∙◌, sym}
use Rattle.st_journal.proofs.Found.{found_known, not_found_new}
use Rattle.st_journal.proofs.redoing.names.name.Goals as goal

pub returns-then-is_some-clause-err : goal.returns-then-is_some-clause-err
returns-then-is_some-clause-err g c = found_known c.args.image.now.names c.args.text.now c.find.result (rw (← c.names.ensures) c.find.ensures) (sym c.is_some.ensures ∙ c.if-is_some.true)

pub returns-in-Ok-clause-ok : goal.returns-in-Ok-clause-ok
returns-in-Ok-clause-ok g c = record {
  new = not_found_new c.args.image.now.names c.args.text.now c.find.result (rw (← c.names.ensures) c.find.ensures) (sym c.is_some.ensures ∙ c.if-is_some.false);
  image = c.in-Ok.ensures.names;
  world = c.in-Ok.ensures.world;
}
