use Rattle.std.proofs.Common.{◌≡◌, Some, subst}
use Rattle.std.proofs.lemmas.Result.{IfOk-weaker}
use Rattle.serde_json.specs.Read.{read}
use Rattle.st_wire.proofs.Lines.{value-line}
use Rattle.st_file.proofs.streaming.stream.Goals as goal

pub returns-in-Ok : goal.returns-in-Ok
returns-in-Ok g c =
    let text = c.in-Ok.ensures.cases in
    IfOk-weaker c.load_text.result _ _ (λ i h. (h.0, value-line c.args.text.now h.0 (text.1, subst (λ t. read t ≡ Some h.0) text.0 h.1), h.2)) c.load_text.ensures
