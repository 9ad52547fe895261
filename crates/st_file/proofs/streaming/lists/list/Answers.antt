use Rattle.std.proofs.Common.{◌≡◌, ◌∷◌, arith}
use Rattle.std.proofs.lemmas.Result.{IfOk-weaker}
use Rattle.json.specs.Token.{Token}
use Rattle.st_wire.proofs.Fronts.{array_first}
use Rattle.st_file.proofs.streaming.lists.list.Goals as goal

pub returns-clause-read : goal.returns-clause-read
returns-clause-read g c =
    let first : c.args.reader.now ≡ Token.begin_array ∷ c.next.new.self = grind arith in
    IfOk-weaker c.items.result _ _ (λ xs h. (h.0, array_first 126 _ _ _ h.0 (omega arith) first h.1, h.2)) c.items.ensures.read
