use Rattle.std.proofs.Common.{arith, ◌≡◌, ◌≤◌, subst}
use Rattle.st_classes.specs.Kernel.{class}
use Rattle.st_classes.specs.Classes.{class_count, classes, reparented}
use Rattle.st_classes.proofs.LawChains.{may_move}
use Rattle.st_classes.proofs.Reparenting.{reparented_long}
use Rattle.st_classes.proofs.WholeChains.{deep_few}
use Rattle.st_classes.proofs.Deepening.{DepthsTo, depths_moved, depths_next}
use Rattle.st_classes.proofs.version.Version.depths_with_parent.Goals as goal

pub depth_after-requires-clause-apart : goal.depth_after-requires-clause-apart
depth_after-requires-clause-apart c = (may_move c.args.self.now c.args.class c.args.parent c.requires).apart

pub overflow_cast-depth_after : goal.overflow_cast-depth_after
overflow_cast-depth_after c =
    let few : c.depth_after.result ≤ 64 = deep_few (reparented (classes c.args.self.now) c.args.class.0 c.args.parent) (class c.loop-number.number) c.depth_after.result (may_move c.args.self.now c.args.class c.args.parent c.requires).shallow (omega (arith, c.loop-number-test.true, c.classes-number-end.ensures, reparented_long (classes c.args.self.now) c.args.class.0 c.args.parent)) c.depth_after.ensures in
    omega (arith, few)

pub loop-number-preserved : goal.loop-number-preserved
loop-number-preserved c = rw c.in_ok-push.ensures.items (depths_next (reparented (classes c.args.self.now) c.args.class.0 c.args.parent) c.loop-number.number c.loop-number.counts.items c.depth_after.result c.loop-number.invariant c.depth_after.ensures)

pub returns : goal.returns
returns c =
    let all : c.loop-number.number ≡ class_count c.args.self.now = omega (arith, c.loop-number-test.false, c.loop-number.auto.number-end, c.classes-number-end.ensures) in
    rw (c.in_ok-depths.ensures.ok, c.from_vec.ensures) (depths_moved c.args.self.now c.args.class c.args.parent c.loop-number.counts.items c.kept.ensures c.requires (subst (λ n. DepthsTo (reparented (classes c.args.self.now) c.args.class.0 c.args.parent) n c.loop-number.counts.items) all c.loop-number.invariant))
