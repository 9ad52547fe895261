use Rattle.std.proofs.Common.{◌≡◌, [], ◌∷◌, Some, option_and_then, ap, subst, ◌∙◌, arith, rules}
use Rattle.std.proofs.lemmas.Result.{IfOk-weaker}
use Rattle.json.specs.Token.{Token}
use Rattle.json.specs.Lex.{tokens}
use Rattle.serde_json.specs.Data.{object}
use Rattle.serde_json.specs.Read.{read}
use Rattle.st_wire.specs.Commands.{command_in}
use Rattle.st_wire.specs.Tokens.{BeginsWithMembers}
use Rattle.st_wire.proofs.Fronts.{object_read}
use Rattle.st_wire.proofs.Lines.{value-line}
use Rattle.st_wire.proofs.line_readers.read_tokens.Goals as goal

pub returns : goal.returns
returns c =
    let line = c.args.line.now in
    let text = c.in-Ok.ensures.cases in
    let inner = c.next.new.self in
    let found = c.in_ok-read_all.ensures in
    let first : tokens c.in-Ok.text.now ≡ Token.begin_object ∷ inner = grind arith in
    let last : c.read_all.new.reader ≡ [] = search rules in
    let inside : BeginsWithMembers 126 inner found.0 [] = subst (BeginsWithMembers 126 inner found.0) last found.1 in
    let is : read line ≡ Some (object found.0) = subst (λ t. read t ≡ Some (object found.0)) text.0 (object_read c.in-Ok.text.now inner found.0 first inside) in
    IfOk-weaker c.command_of.result _ _ (λ command means. ap (option_and_then command_in) (value-line line (object found.0) (text.1, is)) ∙ means found.0 found.2) c.command_of.ensures
