use Rattle.st_classes.specs.Refusals.{first_of}
use Rattle.st_image.specs.Images.{world}
use Rattle.st_image.specs.Stats.{installed_own, stats_rules}
use Rattle.st_image.proofs.Stating.{told_few}
use Rattle.st_image.proofs.image.Image.stats.Goals as goal

pub returns-clause-few : goal.returns-clause-few
returns-clause-few g c =
    let i = c.args.self.now in
    told_few (λ v. v.items) i (installed_own (world i).edits c.args.class c.args.selector) (first_of (stats_rules i c.args.class c.args.selector)) c.told.result c.known.ensures c.sends_counted.ensures c.told.ensures
