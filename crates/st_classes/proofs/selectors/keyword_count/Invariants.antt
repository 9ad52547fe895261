use Rattle.std.proofs.Common.{◌≡◌, ◌+◌, ◌≤◌, length}
use Rattle.std.specs.Option.{option_map}
use Rattle.st_classes.specs.Selectors.{parts, keywords}
use Rattle.st_classes.proofs.selectors.keyword_count.Given as goal

abbrev pub invariant-loop-end : goal.invariant-loop-end
invariant-loop-end l = (keywords (parts l.text) ≡ option_map (λ n. n + l.count) (keywords (parts l.rest))) × (l.count + length l.rest ≤ length l.text)

abbrev pub decreases-loop-end : goal.decreases-loop-end
decreases-loop-end l = length l.rest
