-- The reports of a method's call sites.
use Rattle.std.specs.Prelude.{◌≡◌, ℕ, List, [], map, Result, Err, MatchResult, unwrap_or, slice_get}
use Rattle.st_classes.specs.declared.values.ClassId.{ClassId}
use Rattle.st_classes.specs.declared.values.Selector.{Selector}
use Rattle.st_classes.specs.declared.refusals.Refusal.{Refusal}
use Rattle.st_classes.specs.Refusals.{first_of}
use Rattle.st_sites.specs.declared.site.SiteState.{SiteState}
use Rattle.st_sites.specs.declared.site.SiteState.TheVariants.{Empty, Mono, Poly, Mega}
use Rattle.st_image.specs.declared.tallies.SiteStats.{SiteStats}
use Rattle.st_image.specs.Images.{ImageView, world}
use Rattle.st_image.specs.Calls.{AnswersExactly}
use Rattle.st_turn.specs.Tallies.{sends_of}
use Rattle.st_image.specs.Stats.{installed_own, method_stats, stats_rules}
use Rattle.st_wire.specs.declared.replies.SiteReport.{SiteReport}
use Rattle.st_wire.specs.declared.replies.SiteState.{SiteState as Shown}
use Rattle.st_wire.specs.declared.replies.SiteState.TheVariants as shown
use Rattle.st_script.specs.ArgumentValues.{found_selector}

-- the state of a site, as a reply names it
abbrev pub state_shown : SiteState → Shown
state_shown Empty = shown.Empty
state_shown Mono = shown.Mono
state_shown Poly = shown.Poly
state_shown Mega = shown.Mega

-- the report of a site, with its selector's text
abbrev pub site_report : List (List ℕ) → SiteStats → SiteReport
site_report names s = record {
  global = s.tally.by_global;
  selector = unwrap_or (slice_get names s.selector.0) [];
  sends = sends_of s.tally;
  site = s.tally.by_site;
  state = state_shown s.tally.state;
  is_super = s.is_super;
  walk = s.tally.by_walk;
}

-- the reports of the sites of a class's own method for a selector, in the order of its code
abbrev pub StatesOf : ImageView → ClassId → Selector → Result (List SiteReport) Refusal → Type 0
StatesOf i c s result = AnswersExactly (first_of (stats_rules i c s)) result
    (λ reports. reports ≡ map (site_report i.names) (method_stats i (installed_own (world i).edits c s)))

-- the same, for the selector that a text names
abbrev pub StatesNamed : ImageView → List ℕ → ClassId → Result (List SiteReport) Refusal → Type 0
StatesNamed i text c result = MatchResult (found_selector i.names text)
    (λ s. StatesOf i c s result)
    (λ e. result ≡ Err e)
