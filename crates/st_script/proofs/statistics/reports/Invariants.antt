use Rattle.std.proofs.Common.{◌≡◌, map, take}
use Rattle.st_script.specs.SiteReports.{site_report}
use Rattle.st_script.proofs.statistics.reports.Given as goal

abbrev pub invariant-sites : goal.invariant-sites
invariant-sites l = l.told.items ≡ map (site_report l.image.names) (take l.stats-index l.list)
