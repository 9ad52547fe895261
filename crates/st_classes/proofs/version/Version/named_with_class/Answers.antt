use Rattle.std.specs.Arc.{arc_value}
use Rattle.st_classes.proofs.Accepted.{naming_define}
use Rattle.st_classes.proofs.version.Version.named_with_class.Goals as goal

pub returns : goal.returns
returns c = rw c.in_ok-named.ensures.ok (naming_define c.args.self.now c.args.name.now c.args.parent c.args.added.now (arc_value c.self.inside.named) c.in_ok-index.index c.classes.result c.requires (rw (← c.self.view_is) c.self.invariant.named) c.classes.ensures (λ q. rw (← c.deref.ensures) (c.in_ok-index.ensures q)))
