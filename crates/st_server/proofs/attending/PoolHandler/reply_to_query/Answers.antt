use Rattle.std.proofs.Common.{subst}
use Rattle.st_pool.specs.Done.{Done, Finds, PoolView}
use Rattle.st_wire.specs.declared.commands.Command.TheVariants as command
use Rattle.st_server.specs.PoolReplies.{AsksInHold}
use Rattle.st_server.proofs.AskingHolds.{seen_asks}
use Rattle.st_server.proofs.attending.PoolHandler.reply_to_query.Goals as goal

pub returns : goal.returns
returns g c =
    let h = c.hold-seen.ensures in
    subst (λ (d : Done). (o : PoolView) × (p : PoolView) × Finds g.K.Naming.start g.K.Naming.first d o × AsksInHold o d (command.Query c.args.query) c.tell_seen.result p c.hold-seen.new.self) c.self.view_is
    (h.0, h.1, h.2, seen_asks c.at.result h.0 h.1 c.self.inside.caller c.hold-seen.new.self c.args.query c.hold-seen.result.0 c.tell_seen.result h.3 c.tell_seen.ensures)
