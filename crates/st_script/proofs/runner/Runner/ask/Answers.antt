use Rattle.std.proofs.Common.{subst}
use Rattle.st_image.proofs.Following.{kept_later}
use Rattle.st_image.specs.Images.{world}
use Rattle.st_script.specs.CommandReplies.{AsksImage}
use Rattle.st_script.specs.Runners.{RunnerView}
use Rattle.st_script.proofs.runner.Runner.ask.Goals as goal

pub invariant_of-self : goal.invariant_of-self
invariant_of-self c = kept_later c.self.inside.worker (world c.self.inside.image).edits (world c.ask-reply.new.holder).edits c.ask-reply.ensures.later.edits c.self.invariant

pub returns-clause-asks : goal.returns-clause-asks
returns-clause-asks c =
    subst (λ (i : RunnerView). AsksImage i.image c.args.command c.ask-reply.result c.ask-reply.new.holder) c.self.view_is (record { host = c.self.inside.host; asks = c.ask-reply.ensures.asks })
