use Rattle.std.proofs.Common.{subst}
use Rattle.st_pool.specs.Done.{Done, Finds, PoolView}
use Rattle.st_wire.specs.declared.commands.Command.TheVariants as command
use Rattle.st_server.specs.PoolReplies.{ServesInHold}
use Rattle.st_script.proofs.Keeping.{copied_saves}
use Rattle.st_server.proofs.attending.PoolHandler.save.Goals as goal

pub returns : goal.returns
returns g c =
    let h = c.copy-snapshot.ensures in
    (h.0, h.1, h.2, (copied_saves h.0.image c.copy-snapshot.result.0 c.written-reply.result c.replace-reply.result h.3.0 h.3.1 c.written-reply.ensures c.replace-reply.ensures, h.3.2, h.3.3))
