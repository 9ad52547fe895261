use Rattle.std.proofs.Common.{arith, ◌<◌, length}
use Rattle.std.specs.Arc.{arc_value}
use Rattle.st_classes.specs.Classes.{chain}
use Rattle.st_classes.proofs.Defining.{has_room}
use Rattle.st_classes.proofs.Deepening.{depths_define}
use Rattle.st_classes.proofs.version.Version.depths_with_class.Goals as goal

pub overflow_add-depth : goal.overflow_add-depth
overflow_add-depth c =
    let shallow : length (chain c.args.self.now c.args.parent) < 64 = (has_room c.args.self.now c.args.name.now c.args.parent c.args.added.now c.requires).shallow in
    omega (arith, c.depth-depth.ensures, shallow)

pub returns : goal.returns
returns c = rw (c.in_ok-depths.ensures.ok, c.in_ok-counts.ensures, c.deref.ensures) (depths_define c.args.self.now c.args.name.now c.args.parent c.args.added.now (arc_value c.self.inside.depths) c.depth-depth.result c.kept.ensures c.requires (rw (← c.self.view_is) c.self.invariant.deep) c.depth-depth.ensures)
