use Rattle.st_image.proofs.loader.Loader.check_base.Goals as goal

pub returns-clause-ok : goal.returns-clause-ok
returns-clause-ok c = rw (← c.self.view_is) (c.are_base_actors.ensures.0 c.if-not-are_base_actors.false, (c.in_ok-is_in_order.ensures c.self.inside.version).0 c.if-not-is_in_order.false)
