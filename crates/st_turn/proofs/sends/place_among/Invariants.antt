use Rattle.std.proofs.Common.{◌≡◌, ◌≤◌, false, length}
use Rattle.std.specs.List.{AllWithin}
use Rattle.st_guard.specs.SiteTables.{is_site}
use Rattle.st_turn.specs.declared.sums.SiteSum.{SiteSum}
use Rattle.st_turn.proofs.sends.place_among.Given as goal

-- no sum from the place on is of the site
abbrev pub invariant-search : goal.invariant-search
invariant-search l = record {
  within : l.place ≤ length l.sums;
  none : AllWithin (λ (m : SiteSum). is_site l.site m.site ≡ false) l.sums l.place (length l.sums);
}

abbrev pub decreases-search : goal.decreases-search
decreases-search l = l.place
