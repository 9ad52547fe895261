use Rattle.st_classes.proofs.method_map.MethodMap.put.Goals as goal

pub returns : goal.returns
returns c = λ s. rw (← c.self.view_is) (c.in_ok-insert.ensures.updates.0 s)
