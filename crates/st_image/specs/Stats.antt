-- The statistics of a method's call sites.
use Rattle.std.specs.Prelude.{ℕ, ◌^◌, ◌<◌, List, [], ◌∷◌, true, false, not, Option, Some, None, is_none, slice_get}
use Rattle.std.specs.List.{filter_map}
use Rattle.st_classes.specs.declared.values.ClassId.{ClassId}
use Rattle.st_classes.specs.declared.values.Selector.{Selector}
use Rattle.st_classes.specs.declared.values.MethodId.{MethodId}
use Rattle.st_classes.specs.declared.instructions.Instruction.{Instruction}
use Rattle.st_classes.specs.declared.instructions.Instruction.TheVariants.{Send, SuperSend}
use Rattle.st_classes.specs.declared.methods.MethodParts.{MethodParts}
use Rattle.st_classes.specs.declared.edits.Edit.{Edit}
use Rattle.st_classes.specs.declared.refusals.Refusal.TheVariants.{UnknownClass, NoSuchMethod}
use Rattle.st_classes.specs.Refusals.{Rule}
use Rattle.st_classes.specs.Classes.{is_class}
use Rattle.st_classes.specs.EditLists.{method_at}
use Rattle.st_classes.specs.Walks.{own, user_method}
use Rattle.st_turn.specs.declared.tally.Tally.{Tally}
use Rattle.st_image.specs.declared.tallies.SiteStats.{SiteStats}
use Rattle.st_image.specs.Images.{ImageView, constants, world}
use Rattle.st_turn.specs.Tallies.{sends_of}
use Rattle.st_image.specs.Tallies.{CountsSends, tally_at}

-- the user's method of a class for a selector
abbrev pub installed_own : List Edit → ClassId → Selector → Option MethodId
installed_own edits c s = user_method (own edits c s)

-- the statistics of a send with a tally
abbrev pub stats_with : Tally → Option Instruction → Option SiteStats
stats_with t (Some (Send s n)) = Some (record { selector = s; is_super = false; tally = t })
stats_with t (Some (SuperSend s n)) = Some (record { selector = s; is_super = true; tally = t })
stats_with t _ = None

-- the statistics of the send at a place of a method's code
abbrev pub site_stats : List (List Tally) → MethodId → List Instruction → ℕ → Option SiteStats
site_stats rows m code place = stats_with (tally_at rows (record { method = m; place = place })) (slice_get code place)

-- the statistics of a method's sites, in the order of its code
abbrev pub sites_stats : List (List Tally) → MethodId → Option MethodParts → List SiteStats
sites_stats rows m None = []
sites_stats rows m (Some parts) = filter_map (site_stats rows m parts.code) parts.sites

-- the same of a method, if there is one
abbrev pub method_stats : ImageView → Option MethodId → List SiteStats
method_stats i None = []
method_stats i (Some m) = sites_stats i.standing.tallies m (method_at (world i).edits m)

-- the refusals of a question for statistics, in their order
abbrev pub stats_rules : ImageView → ClassId → Selector → List Rule
stats_rules i c s =
    (not (is_class (world i).edits c), UnknownClass)
    ∷ (is_none (installed_own (world i).edits c s), NoSuchMethod)
    ∷ []

-- the number of a site's sends fits in a machine word
abbrev pub HasFewSends : SiteStats → Type 0
HasFewSends s = sends_of s.tally < 2 ^ 64

-- the tallies of an image count the sends of its history
abbrev pub HasCounted : ImageView → Type 0
HasCounted i = CountsSends (constants i) i.base i.history i.standing.tallies
