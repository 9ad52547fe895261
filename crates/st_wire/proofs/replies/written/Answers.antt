use Rattle.std.proofs.Common.{ap, ◌∙◌, ◌++◌}
use Rattle.json.specs.Print.{print}
use Rattle.serde_json.proofs.Texts.{print-outline}
use Rattle.st_wire.specs.Replies.{reply_data}
use Rattle.st_wire.specs.Writing.{data_tokens}
use Rattle.st_wire.proofs.replies.written.Goals as goal

pub returns : goal.returns
returns c =
    let d = reply_data c.args.reply.now in
    let written = c.in_ok-write.ensures in
    let before = written.before ∙ c.new-writer.ensures.before ∙ c.in_ok-with_capacity.ensures.items in
    let tokens = written.tokens ∙ ap (λ ts. ts ++ data_tokens d) c.new-writer.ensures.tokens in
    c.into_inner.ensures.items ∙ ap (λ b. b ++ print c.write.new.writer.tokens) before ∙ ap print tokens ∙ print-outline d
