use Rattle.std.proofs.Common.{◌≡◌, take, true}
use Rattle.std.specs.Prelude.{All}
use Rattle.st_turn.specs.declared.sums.SiteSum.{SiteSum}
use Rattle.st_image.specs.Tallies.{SameTallies, has_place}
use Rattle.st_image.proofs.tallies.Tallies.make_places.Given as goal

abbrev pub invariant-sums : goal.invariant-sums
invariant-sums l = record {
  same : SameTallies l.fn.self l.self;
  placed : All (λ (m : SiteSum). has_place l.self m.site ≡ true) (take l.place l.sums);
}
