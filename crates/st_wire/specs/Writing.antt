-- What a reply adds to a JSON writer.
use Rattle.std.specs.Prelude.{◌≡◌, List, ◌++◌, Result, OnOk}
use Rattle.json.specs.Token.{Token}
use Rattle.json.specs.Tree as tree
use Rattle.json.specs.Written.{Written}
use Rattle.serde_json.specs.Data.{Data, Items, Members}
use Rattle.serde_json.specs.Written.{outline, items_outline, members_outline}

-- the tokens of a value
abbrev pub data_tokens : Data → List Token
data_tokens d = tree.json_tokens (outline d)

-- the tokens of the items of an array, with the closing bracket
abbrev pub items_tokens : Items → List Token
items_tokens ds = tree.items_tokens (items_outline ds)

-- the tokens of the members of an object, with the closing brace
abbrev pub members_tokens : Members → List Token
members_tokens ms = tree.members_tokens (members_outline ms)

-- these tokens were appended to those already written
pub record Added (old new : Written) (more : List Token) : Type 0 where
  pub before : new.before ≡ old.before
  pub tokens : new.tokens ≡ old.tokens ++ more

-- they are appended, unless memory runs out
abbrev pub Adds : {T E : Type 0} → Result T E → Written → Written → List Token → Type 0
Adds r old new more = OnOk r (Added old new more)
