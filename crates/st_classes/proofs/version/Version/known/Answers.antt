use Rattle.st_classes.proofs.FewSlots.{few_slots}
use Rattle.st_classes.proofs.LawChains.{forest}
use Rattle.st_classes.proofs.version.Version.known.Goals as goal

pub returns-clause-forest : goal.returns-clause-forest
returns-clause-forest c = forest c.args.self.now c.kept.ensures.lawful

pub returns-clause-few_slots : goal.returns-clause-few_slots
returns-clause-few_slots c = few_slots c.args.self.now c.kept.ensures.lawful
