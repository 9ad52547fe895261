use Rattle.std.proofs.Common.{arith, ltb-true, sym}
use Rattle.st_classes.specs.Kernel.{class}
use Rattle.st_classes.specs.Classes.{class_count, classes, reparented}
use Rattle.st_classes.proofs.LawChains.{forest}
use Rattle.st_classes.proofs.Reparenting.{reparented_long}
use Rattle.st_classes.proofs.WholeChains.{none_deep, none_deeper, not_deep_more, one_too_deep}
use Rattle.st_classes.proofs.version.Version.is_too_deep.Goals as goal

pub returns-then-depth : goal.returns-then-depth
returns-then-depth c = sym (none_deeper (classes c.args.self.now) c.args.class c.args.parent (forest c.args.self.now c.kept.ensures.lawful) (ltb-true c.args.class.0 (class_count c.args.self.now) c.requires.class) c.requires.apart (omega (arith, c.if-depth.true, c.depth.ensures, c.depth-2.ensures)))

pub returns-then-depth_after-gt-CHAIN : goal.returns-then-depth_after-gt-CHAIN
returns-then-depth_after-gt-CHAIN c = sym (one_too_deep (reparented (classes c.args.self.now) c.args.class.0 c.args.parent) (class c.loop-number.number) c.depth_after.result (omega (arith, c.loop-number-test.true, c.classes-number-end.ensures, reparented_long (classes c.args.self.now) c.args.class.0 c.args.parent)) c.depth_after.ensures c.if-depth_after-gt-CHAIN.true)

pub loop-number-preserved : goal.loop-number-preserved
loop-number-preserved c = not_deep_more (reparented (classes c.args.self.now) c.args.class.0 c.args.parent) c.loop-number.number c.depth_after.result c.loop-number.invariant c.depth_after.ensures c.if-depth_after-gt-CHAIN.false

pub returns : goal.returns
returns c = sym (none_deep (reparented (classes c.args.self.now) c.args.class.0 c.args.parent) (λ k l. c.loop-number.invariant k (omega (arith, l, c.loop-number-test.false, c.classes-number-end.ensures, reparented_long (classes c.args.self.now) c.args.class.0 c.args.parent))))
