use Rattle.std.proofs.Common.{◌∙◌, ap}
use Rattle.st_classes.specs.Names.{interned, texts_of}
use Rattle.st_classes.proofs.Naming.{texts-insert_key}
use Rattle.st_classes.proofs.name_table.add.Goals as goal

pub returns-clause-ok : goal.returns-clause-ok
returns-clause-ok c = ap texts_of c.in_ok-insert.ensures.keys ∙ texts-insert_key c.args.texts.now.keys c.in_ok-copy.copy ∙ ap (interned (texts_of c.args.texts.now.keys)) c.in_ok-copy.ensures.items
