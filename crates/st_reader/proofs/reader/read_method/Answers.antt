use Rattle.std.proofs.Common.{sym, ◌∙◌}
use Rattle.st_reader.specs.TreeViews.{method_view}
use Rattle.st_reader.proofs.Spelled.{said}
use Rattle.st_reader.proofs.Ruled.{breaks}
use Rattle.st_reader.proofs.reader.read_method.Goals as goal

pub returns-then-not-keeps_rules-clause-refused : goal.returns-then-not-keeps_rules-clause-refused
returns-then-not-keeps_rules-clause-refused c =
    rw c.let_go.ensures (said c.source_fault.result c.source_fault.ensures.source (breaks c.args.source.now (method_view c.in_ok-syntax.syntax) c.in_ok-syntax.ensures.only (sym c.keeps_rules.ensures ∙ c.if-not-keeps_rules.true)))
