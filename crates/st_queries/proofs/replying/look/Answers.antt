use Rattle.st_queries.proofs.Saying.{looked}
use Rattle.st_queries.proofs.replying.look.Goals as goal

pub returns : goal.returns
returns g c = looked c.args.image.now c.args.host c.args.query c.see-seen.result c.tell_seen.result c.see-seen.ensures c.tell_seen.ensures
