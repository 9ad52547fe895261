use Rattle.st_classes.proofs.version.Version.methods_known.Goals as goal

pub returns : goal.returns
returns c = rw (← c.self.view_is) c.self.invariant.sound
