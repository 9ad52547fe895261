use Rattle.std.proofs.Common.{◌≡◌, ◌∷◌, Some, option_map, w64, to_z, of_z, refl, sym, ap, ◌∙◌, arith, rules}
use Rattle.std.proofs.lemmas.Option.{option_and_then_some}
use Rattle.std.proofs.lemmas.Result.{IfOk-weaker}
use Rattle.json.specs.Token.{Token}
use Rattle.serde_json.specs.Data.{null, boolean, number, object}
use Rattle.serde_json.specs.Read.{number_of}
use Rattle.serde_json.specs.Find.{as_i64}
use Rattle.st_wire.specs.declared.commands.Argument.TheVariants.{Int}
use Rattle.st_wire.proofs.Fronts.{number_first, boolean_first, null_first, object_first}
use Rattle.st_wire.proofs.tokens.read_argument.Goals as goal

pub returns-in-Some-clause-read : goal.returns-in-Some-clause-read
returns-in-Some-clause-read c =
    let text = c.in-Some-Number.text.now in
    let first : c.args.reader.now ≡ Token.number text ∷ c.next.new.self = grind arith in
    let same : to_z w64 (of_z w64 c.in-Some.number) ≡ c.in-Some.number = search rules in
    option_and_then_some as_i64 (number_of text) _ c.in-Some.ensures (λ n is fits. (number n, number_first 125 _ _ text n first is, ap (option_map Int) fits ∙ ap (λ z. Some (Int z)) (sym same)))

pub returns-in-Some-Bool-clause-read : goal.returns-in-Some-Bool-clause-read
returns-in-Some-Bool-clause-read c =
    let truth = c.in-Some-Bool.truth in
    let first : c.args.reader.now ≡ Token.boolean truth ∷ c.next.new.self = grind arith in
    (boolean truth, boolean_first 125 _ _ truth first, refl)

pub returns-in-Some-Null-clause-read : goal.returns-in-Some-Null-clause-read
returns-in-Some-Null-clause-read c =
    let first : c.args.reader.now ≡ Token.null ∷ c.next.new.self = grind arith in
    (null, null_first 125 _ _ first, refl)

pub returns-in-Some-BeginObject-clause-read : goal.returns-in-Some-BeginObject-clause-read
returns-in-Some-BeginObject-clause-read c =
    let first : c.args.reader.now ≡ Token.begin_object ∷ c.next.new.self = grind arith in
    IfOk-weaker c.read_named.result _ _ (λ arg h. (object h.0, object_first 125 _ _ _ h.0 (omega arith) first h.1, h.2)) c.read_named.ensures.read
