use Rattle.std.proofs.Common.{List, subst}
use Rattle.std.specs.List.{AllZip}
use Rattle.st_classes.specs.declared.edits.Edit.{Edit}
use Rattle.st_system.specs.SystemWorkers.{JoinsSystem}
use Rattle.st_system.proofs.SystemWorkers.{all_joined}
use Rattle.st_system.proofs.system.System.new.Goals as goal

pub invariant_of-result : goal.invariant_of-result
invariant_of-result g c =
    let joined = subst (λ (edits : List Edit). AllZip (JoinsSystem {G = g.row.G.Denot} edits) c.args.workers.items c.in_ok-joined.joined.items) c.version.ensures c.in_ok-joined.ensures in
    all_joined c.args.image c.args.workers.items c.in_ok-joined.joined.items joined
