-- The edits that a worker's caches keep, beside those of a class table.
use Rattle.std.specs.Prelude.{List}
use Rattle.std.specs.Option.{IfSome}
use Rattle.st_classes.specs.declared.edits.Edit.{Edit}
use Rattle.st_classes.specs.EditLists.{Begins}
use Rattle.st_guard.specs.Moves.{CachesView}

-- if the caches keep a list of edits, it is a prefix of this one
abbrev pub KeepsBeginning : {G : Type 0} → List Edit → CachesView G → Type 0
KeepsBeginning edits v = IfSome v.kept (λ k. Begins k edits)
