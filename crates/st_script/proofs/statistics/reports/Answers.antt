use Rattle.std.proofs.Common.{arith, false}
use Rattle.std.proofs.lemmas.Grind.{common_steps}
use Rattle.st_sites.specs.declared.site.SiteState.TheVariants.{Empty}
use Rattle.st_image.specs.declared.tallies.SiteStats.{SiteStats}
use Rattle.st_script.proofs.Reports.{reported_more}
use Rattle.st_script.proofs.statistics.reports.Goals as goal

pub sites-preserved : goal.sites-preserved
sites-preserved c =
    let none : SiteStats = record { selector = record { 0 = 0 }; is_super = false; tally = record { by_site = 0; by_global = 0; by_walk = 0; state = Empty } } in
    reported_more c.args.image.now.names c.args.list.now c.sites.stats-index none _ _ _ c.sites.invariant c.sites-test.true c.in_ok-one.ensures (grind (arith, common_steps))
