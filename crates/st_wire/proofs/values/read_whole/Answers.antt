use Rattle.std.proofs.Common.{◌≡◌, ◌∷◌, arith}
use Rattle.json.specs.Token.{Token}
use Rattle.serde_json.specs.Data.{unsigned}
use Rattle.st_wire.proofs.Fronts.{number_first}
use Rattle.st_wire.proofs.values.read_whole.Goals as goal

pub returns-in-Some-clause-read : goal.returns-in-Some-clause-read
returns-in-Some-clause-read c depth =
    let first : c.args.reader.now ≡ Token.number c.in-Some-Number.text.now ∷ c.next.new.self = grind arith in
    number_first depth _ _ c.in-Some-Number.text.now (unsigned c.in-Some.number) first c.in-Some.ensures
