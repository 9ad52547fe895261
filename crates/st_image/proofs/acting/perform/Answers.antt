use Rattle.std.proofs.Common.{Result}
use Rattle.st_classes.specs.declared.values.Value.{Value}
use Rattle.st_classes.specs.declared.faults.Fault.{Fault}
use Rattle.st_image.specs.Worlds.{World}
use Rattle.st_image.specs.Replay.{create_result}
use Rattle.st_image.specs.ActResults.{Does, IsShown, constants_of}
use Rattle.st_image.proofs.Outer.{if_ok}
use Rattle.st_image.proofs.acting.perform.Goals as goal

pub returns-in-Close-clause-ok : goal.returns-in-Close-clause-ok
returns-in-Close-clause-ok g c = λ w i. rw c.in-Close.is (c.close.ensures.does c.args.names.now c.args.capacity w i)

pub returns-clause-ok : goal.returns-clause-ok
returns-clause-ok g c = rw c.in-Create.is (if_ok _ (λ (answer : Result Value Fault). (w : World) → IsShown c.args.names.now c.args.capacity c.args.version.now c.args.actors.now.list w → Does c.args.version.now c.create.new.actors.list (create_result (constants_of c.args.names.now c.args.capacity) c.in-Create.class w) answer) c.create.result (λ answer h. h c.args.names.now) c.create.ensures.ok)
