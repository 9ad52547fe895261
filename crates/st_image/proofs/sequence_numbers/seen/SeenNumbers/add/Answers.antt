use Rattle.st_image.proofs.SenderNumbers.{actor_added, client_added}
use Rattle.st_image.proofs.sequence_numbers.seen.SeenNumbers.add.Goals as goal

pub returns-in_ok-insert-in-Client : goal.returns-in_ok-insert-in-Client
returns-in_ok-insert-in-Client c = client_added c.args.self.now.of_clients c.insert.new.self c.args.self.now.of_actors c.args.sender c.in-Client.client c.args.number c.in-Client.is c.in_ok-insert-in-Client.ensures.updates

pub returns-in_ok-insert-in-Actor : goal.returns-in_ok-insert-in-Actor
returns-in_ok-insert-in-Actor c = actor_added c.args.self.now.of_actors c.insert-in-Actor.new.self c.args.self.now.of_clients c.args.sender c.in-Actor.actor c.args.number c.in-Actor.is c.in_ok-insert-in-Actor.ensures.updates
