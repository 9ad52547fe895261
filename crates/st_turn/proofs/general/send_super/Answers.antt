use Rattle.std.proofs.Common.{rules}
use Rattle.st_turn.specs.Objects.{class_in}
use Rattle.st_turn.proofs.Targets.{found_above_installed}
use Rattle.st_turn.proofs.general.send_super.Goals as goal

pub arrive-requires-clause-target : goal.arrive-requires-clause-target
arrive-requires-clause-target g c = found_above_installed c.args.version.now c.args.method.now.holder (class_in c.args.objects.now c.args.frames.now.running.receiver) c.args.selector _ (search rules)
