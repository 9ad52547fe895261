use Rattle.std.proofs.Common.{subst}
use Rattle.st_classes.specs.EditLists.{AllSuit}
use Rattle.st_image.specs.CompiledEdits.{AllCompiled}
use Rattle.st_image.specs.Loading.{LoaderView}
use Rattle.st_image.proofs.loader.Loader.known.Goals as goal

pub returns-clause-sound : goal.returns-clause-sound
returns-clause-sound c = rw (← c.self.view_is) c.known-2.ensures.sound

pub returns-clause-suited : goal.returns-clause-suited
returns-clause-suited c = subst (λ (v : LoaderView). AllSuit v.names v.edits) c.self.view_is c.self.invariant.suited

pub returns-clause-compiled : goal.returns-clause-compiled
returns-clause-compiled c = subst (λ (v : LoaderView). AllCompiled v.names v.edits) c.self.view_is c.self.invariant.compiled
