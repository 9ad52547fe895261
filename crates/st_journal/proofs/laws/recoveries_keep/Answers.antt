use Rattle.std.proofs.Common.{inl, inr, ◌∙◌}
use Rattle.st_journal.proofs.laws.recoveries_keep.Goals as goal

pub returns : goal.returns
returns g c text (inl same) = (c.requires.read.0, c.requires.read.1, same ∙ c.requires.read.2)
returns g c text (inr past) =
    let h = c.requires.left past.0 past.1 in
    (h.0, h.1, past.2 ∙ h.2)
