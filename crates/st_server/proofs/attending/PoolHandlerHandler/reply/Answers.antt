use Rattle.std.proofs.Common.{refl}
use Rattle.st_server.proofs.Holding.{asks_attends}
use Rattle.st_server.proofs.attending.PoolHandlerHandler.reply.Goals as goal

pub returns-in_default : goal.returns-in_default
returns-in_default g c = asks_attends g.K.Naming.start g.K.Naming.first c.args.self.now c.ask.new.self c.args.command c.args.command c.ask.result refl c.in_default.not-Save c.ask.ensures
