use Rattle.std.proofs.Common.{◌∙◌, sym}
use Rattle.st_queries.proofs.Found.{holds_above, parent_is_class}
use Rattle.st_queries.proofs.sources.holder.Goals as goal

pub up-preserved : goal.up-preserved
up-preserved c =
    let edits = c.args.version.now in
    let up = sym c.in-Some-parent.ensures in
    (parent_is_class edits c.up.at c.in-Some-parent.up c.known.ensures.forest up, sym (holds_above edits c.up.at c.in-Some-parent.up c.args.selector c.known.ensures.forest (sym c.in_default.ensures) up) ∙ c.up.invariant.1)
