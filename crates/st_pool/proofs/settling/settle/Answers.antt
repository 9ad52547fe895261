use Rattle.st_pool.proofs.settling.settle.Goals as goal

pub returns-clause-history : goal.returns-clause-history
returns-clause-history g c = (c.in_ok-image.image, c.known.ensures, c.in_ok-image.ensures.later, c.in_ok-image.ensures.history.0, c.in_ok-image.ensures.history.1)
