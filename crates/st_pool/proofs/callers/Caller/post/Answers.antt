use Rattle.std.proofs.Common.{subst}
use Rattle.st_image.specs.PostRules.{from_client}
use Rattle.st_pool.specs.Calling.{PostsOnce, position_in}
use Rattle.st_pool.specs.Done.{Done}
use Rattle.st_pool.proofs.Calling.{posts_once}
use Rattle.st_pool.proofs.callers.Caller.post.Goals as goal

pub returns : goal.returns
returns g c =
    rw c.position.ensures (subst (λ (d : Done). PostsOnce g.K.Naming.start g.K.Naming.first d c.args.actor (from_client c.args.sender c.args.seq c.args.selector c.args.args) (position_in c.call-answer.result) c.call-answer.new.self) c.make_room.ensures (posts_once g.K.Naming.start g.K.Naming.first c.make_room.new.self c.call-answer.new.self c.args.sender c.args.seq c.args.actor c.args.selector c.args.args c.call-answer.result c.call-answer.ensures))
