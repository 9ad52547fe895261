use Rattle.std.proofs.Common.{◌≤◌, ap, subst, length, List}
use mathlib.Core.List.{IsPrefix}
use Rattle.st_image.specs.Images.{ImageView}
use Rattle.st_pool.proofs.KnownPrefixes.{prefix_shorter}
use Rattle.st_pool.proofs.known_prefix.KnownPrefix.compare.Goals as goal

pub returns-clause-prefix : goal.returns-clause-prefix
returns-clause-prefix g c =
    let both = c.learn.new.self.log in
    let this : IsPrefix c.self.inside.seen.log both = subst (λ (l : List ImageView). IsPrefix l both) (ap (λ s. s.log) c.again-both.ensures) c.learn.ensures.2 in
    let less : length c.self.inside.seen.log ≤ length c.other.inside.seen.log = rw (c.self.view_is, c.other.view_is) c.requires in
    rw (← c.self.view_is, ← c.other.view_is) (prefix_shorter c.self.inside.seen.log c.other.inside.seen.log both this c.learn.ensures.3 less)
