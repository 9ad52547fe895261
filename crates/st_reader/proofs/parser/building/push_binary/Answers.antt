use Rattle.std.proofs.Common.{◌≡◌, ap, subst, ◌∙◌}
use Rattle.std.specs.Prelude.{MatchResult}
use Rattle.st_reader.specs.declared.parser.Wrong.{Wrong}
use Rattle.st_reader.specs.declared.parser.Wrong.TheVariants.{NoMemory}
use Rattle.st_reader.specs.declared.trees.Name.{Name}
use Rattle.st_reader.specs.declared.trees.Chain.{Chain}
use Rattle.st_reader.specs.Syntax.{Message, send}
use Rattle.st_reader.specs.TreeViews.{chain_view}
use Rattle.st_reader.proofs.Seen.{binary_is}
use Rattle.st_reader.proofs.parser.building.push_binary.Goals as goal

pub returns-in-Ok : goal.returns-in-Ok
returns-in-Ok c =
    let same = binary_is c.in-Ok.selector c.args.argument ∙ ap (λ (n : Name). Message.binary n (chain_view c.args.argument)) c.in-Ok.ensures in
    subst (λ (m : Message). MatchResult c.push.result (λ (x : Chain). chain_view x ≡ send (chain_view c.args.chain) m) (λ (e : Wrong). e ≡ NoMemory)) same c.push.ensures
