use Rattle.st_file.proofs.resolving.bodies.PhaseTextResolvePhase.resolve.Goals as goal

pub returns-in-Start : goal.returns-in-Start
returns-in-Start c = rw c.in-Start.is c.start_of.ensures
