use Rattle.std.proofs.Common.{◌≡◌, true, rules, sym}
use Rattle.st_classes.specs.Names.{is_name, texts_of}
use Rattle.st_classes.proofs.Naming.{known_name}
use Rattle.st_classes.proofs.name_table.NameTable.find.Goals as goal

pub returns-clause-accepted : goal.returns-clause-accepted
returns-clause-accepted c =
    let there : is_name (texts_of c.self.inside.texts.keys) c.args.text.now ≡ true = search rules in
    rw (← c.self.view_is) (known_name _ _ c.in_ok-place.place c.self.invariant (sym c.in_ok-place.ensures.place) there)
