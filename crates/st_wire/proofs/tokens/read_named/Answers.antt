use Rattle.std.proofs.Common.{◌≡◌, Some, None, arith}
use Rattle.json.specs.Json.{read_key}
use Rattle.serde_json.specs.Data.{no_members, member}
use Rattle.st_wire.proofs.Fronts.{one_member}
use Rattle.st_wire.proofs.tokens.read_named.Goals as goal

pub returns-clause-read : goal.returns-clause-read
returns-clause-read c =
    let key = c.in-Some.key.now in
    let named = c.in_ok-named.ensures.read in
    let first : read_key c.args.reader.now ≡ Some (Some key, c.next_key.new.self) = grind arith in
    let last : read_key c.read_name.new.reader ≡ Some (None, c.next_key-2.new.self) = grind arith in
    (member key named.0 no_members, one_member 124 _ _ _ _ key named.0 first named.1 c.in_ok-named.ensures.shorter last, named.2)
