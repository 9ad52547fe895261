use Rattle.std.proofs.Common.{◌≡◌, ◌∷◌, arith}
use Rattle.std.proofs.lemmas.Result.{IfOk-weaker}
use Rattle.json.specs.Token.{Token}
use Rattle.st_wire.proofs.Fronts.{array_first}
use Rattle.st_wire.proofs.tokens.read_arguments.Goals as goal

pub returns-clause-read : goal.returns-clause-read
returns-clause-read c =
    let first : c.args.reader.now ≡ Token.begin_array ∷ c.next.new.self = grind arith in
    IfOk-weaker c.read_items.result _ _ (λ args h. (h.0, array_first 126 _ _ _ h.0 (omega arith) first h.1, h.2)) c.read_items.ensures.read
