use Rattle.st_server.proofs.AskingHolds.{asks_hold}
use Rattle.st_server.proofs.attending.AskingJobMailbox.run.Goals as goal

pub returns : goal.returns
returns g c = record {
  host = c.at-host.result;
  asks = c.ask.ensures.asks;
  hold = asks_hold c.at-host.result c.args.pool.now c.ask.new.holder c.args.mine.now c.ask.new.mine c.args.self.command c.ask.result c.ask.ensures.asks;
}
