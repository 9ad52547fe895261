use Rattle.st_classes.proofs.method_map.MethodMap.take.Goals as goal

pub returns : goal.returns
returns c = λ s. rw (← c.self.view_is) (c.remove.ensures.updates.0 s)
