use Rattle.std.proofs.Common.{◌≡◌, take}
use Rattle.std.specs.List.{filter_map}
use Rattle.st_image.specs.Stats.{site_stats}
use Rattle.st_image.proofs.image.Image.method_sites.Given as goal

abbrev pub invariant-sites : goal.invariant-sites
invariant-sites g l = l.list.items ≡ filter_map (site_stats l.self.standing.tallies l.id l.method.code) (take l.place-index l.place-items)
