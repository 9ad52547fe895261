use denote.Param.Send.{sendable}
use Rattle.st_server.proofs.sockets.fn.run_workers.scope.Goals as goal

pub start_recorder-is_recorded-requires-send-K : goal.start_recorder-is_recorded-requires-send-K
start_recorder-is_recorded-requires-send-K g c κs within = search (sendable, c.requires.1.1.1.1.0)

pub start-handles-requires-send-K : goal.start-handles-requires-send-K
start-handles-requires-send-K g c κs within = search (sendable, c.requires.1.1.1.1.0)

pub accept_all-are_accepted-requires-send-K : goal.accept_all-are_accepted-requires-send-K
accept_all-are_accepted-requires-send-K g c κs within = search (sendable, c.requires.0, c.requires.1.0, c.requires.1.1.0, c.requires.1.1.1.0, c.requires.1.1.1.1.0, c.requires.1.1.1.1.1)
