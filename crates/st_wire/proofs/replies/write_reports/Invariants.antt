use Rattle.std.proofs.Common.{◌≡◌, ◌++◌, drop}
use Rattle.st_wire.specs.Replies.{site_items}
use Rattle.st_wire.specs.Writing.{items_tokens}
use Rattle.st_wire.proofs.replies.write_reports.Given as goal

abbrev pub invariant-loop-site : goal.invariant-loop-site
invariant-loop-site l = (l.writer.before ≡ l.initial.writer.before) × (l.writer.tokens ++ items_tokens (site_items (drop l.site-index l.sites)) ≡ l.initial.writer.tokens ++ items_tokens (site_items l.sites))
