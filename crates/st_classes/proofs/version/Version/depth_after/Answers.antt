use Rattle.std.proofs.Common.{arith, sym, ◌≡◌, ◌∙◌, ◌≤◌, length, subst, ltb-true, true}
use Rattle.st_classes.specs.Classes.{IsForest, chain, class_count, classes, reparented}
use Rattle.st_classes.specs.Depths.{IsDeep}
use Rattle.st_classes.specs.EditRules.{is_among}
use Rattle.st_classes.proofs.LawChains.{forest}
use Rattle.st_classes.proofs.WholeChains.{deep_apart, deep_below, forest_shorter, shallow_apart}
use Rattle.st_classes.proofs.version.Version.depth_after.Goals as goal

pub returns-then-not-is_above : goal.returns-then-not-is_above
returns-then-not-is_above c = subst (IsDeep (reparented (classes c.args.self.now) c.args.class.0 c.args.parent) c.args.at) (sym (c.from-depth.ensures ∙ c.depth.ensures)) (deep_apart (classes c.args.self.now) c.args.class c.args.parent c.args.at (forest c.args.self.now c.kept.ensures.lawful) (sym c.if-not-is_above.ensures))

pub returns-then-depth-moved : goal.returns-then-depth-moved
returns-then-depth-moved c =
    let f : IsForest (classes c.args.self.now) = forest c.args.self.now c.kept.ensures.lawful in
    subst (IsDeep (reparented (classes c.args.self.now) c.args.class.0 c.args.parent) c.args.at) (sym (c.from-depth.ensures ∙ c.depth.ensures)) (deep_apart (classes c.args.self.now) c.args.class c.args.parent c.args.at f (shallow_apart (classes c.args.self.now) c.args.class c.args.at f (omega (arith, c.if-depth-moved.true, c.from-moved.ensures, c.depth-2.ensures, c.from-depth.ensures, c.depth.ensures))))

pub overflow_sub-result : goal.overflow_sub-result
overflow_sub-result c =
    let shorter : length (chain c.args.self.now c.args.class) ≤ length (chain c.args.self.now c.args.at) = forest_shorter (classes c.args.self.now) c.args.class c.args.at (forest c.args.self.now c.kept.ensures.lawful) (sym c.if-not-is_above.ensures) in
    omega (arith, shorter, c.from-moved.ensures, c.depth-2.ensures, c.from-depth.ensures, c.depth.ensures)

pub returns : goal.returns
returns c =
    let f : IsForest (classes c.args.self.now) = forest c.args.self.now c.kept.ensures.lawful in
    let below : is_among (chain c.args.self.now c.args.at) c.args.class ≡ true = sym c.if-not-is_above.ensures in
    let shorter : length (chain c.args.self.now c.args.class) ≤ length (chain c.args.self.now c.args.at) = forest_shorter (classes c.args.self.now) c.args.class c.args.at f below in
    deep_below (classes c.args.self.now) c.args.class c.args.parent c.args.at _ f (ltb-true c.args.class.0 (class_count c.args.self.now) c.requires.class) c.requires.apart below (omega (arith, shorter, c.from-moved.ensures, c.depth-2.ensures, c.from-depth.ensures, c.depth.ensures, c.from.ensures, c.depth-3.ensures))
