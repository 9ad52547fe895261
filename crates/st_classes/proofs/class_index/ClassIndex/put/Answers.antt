use Rattle.st_classes.proofs.Indexing.{named_put}
use Rattle.st_classes.proofs.class_index.ClassIndex.put.Goals as goal

pub returns : goal.returns
returns c = λ q. rw (← c.self.view_is, ← c.in_ok-key.ensures.items) (named_put c.self.inside.classes c.insert.new.self c.in_ok-key.key.items _ c.in_ok-insert.ensures.updates q)
