use Rattle.std.proofs.Common.{rules}
use Rattle.std.proofs.lemmas.Slice.Eq.{slice_eq-Decides}
use Rattle.st_classes.specs.declared.values.Value.{Value}
use Rattle.st_pool.proofs.settling.same_values.Goals as goal

pub returns : goal.returns
returns c = let d = slice_eq-Decides (λ (a b : Value). search rules) c.args.a.now c.args.b.now c.eq.result c.eq.ensures in (λ t. d.0 (search rules), λ e. search rules)
