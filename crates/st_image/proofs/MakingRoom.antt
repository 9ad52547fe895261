-- Room that a commit makes before anything changes.
use Rattle.std.proofs.Common.{arith, ◌≡◌, ℕ, ◌+◌, ◌*◌, ◌^◌, ◌<◌, ◌≤◌, List, length, ap, sym, ◌∙◌, subst}
use Rattle.std.specs.Prelude.{All}
use Rattle.std.proofs.lemmas.List.Elements.{All-weaker}
use Rattle.st_classes.specs.declared.edits.Edit.{Edit}
use Rattle.st_turn.specs.declared.tally.Tally.{Tally}
use Rattle.st_turn.specs.Tallies.{sends_of}
use Rattle.st_image.specs.declared.counts.Counts.{Counts}
use Rattle.st_image.specs.declared.history.Item.{Item}
use Rattle.st_image.specs.declared.settings.Settings.{Settings}
use Rattle.st_image.specs.Changes.{change_count}
use Rattle.st_image.specs.EarlierCounts.{EarlierCounts}
use Rattle.st_image.specs.Failures.{KeptFailures}
use Rattle.st_image.specs.Worlds.{Constants, World}
use Rattle.st_image.specs.ActorViews.{ActorView}
use Rattle.st_image.specs.ActResults.{FewAccepted}
use Rattle.st_image.specs.ImageInvariant.{HoldsImage}
use Rattle.st_image.specs.Tallies.{CountsSends, SameTallies}
use Rattle.st_image.proofs.CountingChanges.{counts_same}

sends_same : (c : Constants) (base : World) (h : List Item) (rows rows' : List (List Tally)) → SameTallies rows rows' → CountsSends c base h rows → CountsSends c base h rows'
sends_same c base h rows rows' same k = record {
  sends = λ id. ap (λ (t : Tally). sends_of t) (same id) ∙ k.sends id;
  few = λ id. subst (λ (t : Tally). sends_of t ≤ length h * 2 ^ 32) (sym (same id)) (k.few id);
}

-- more room changes nothing that holds of an image
pub with_room : (base : World) (names : List (List ℕ)) (edits : List Edit) (actors : List ActorView) (h : List Item) (made : ℕ) (s : Settings) (clients : List ℕ) (rows rows' : List (List Tally)) (changes changes' : List ℕ) (counted : Counts) (earlier : EarlierCounts) (failed : KeptFailures)
    → HoldsImage base names edits actors h made s clients rows changes counted earlier failed → ((a : ℕ) → change_count changes' a ≡ change_count changes a) → SameTallies rows rows'
    → HoldsImage base names edits actors h made s clients rows' changes' counted earlier failed
with_room base names edits actors h made s clients rows rows' changes changes' counted earlier failed v same tallies = record {
  image = v.image;
  numbers_of_clients = v.numbers_of_clients;
  sends = sends_same _ base h rows rows' tallies v.sends;
  counts = counts_same changes changes' h same v.counts;
  totals = v.totals;
  compiled = v.compiled;
  before = v.before;
  failures = v.failures;
}

-- no mailbox has accepted too many messages for their count
pub few_accepted_by : (actors : List ActorView) (n : ℕ) → n ≤ 1000000 → All (λ (k : ActorView). k.accepted ≤ n + 1024) actors → FewAccepted actors
few_accepted_by actors n small h = All-weaker (λ (k : ActorView). k.accepted ≤ n + 1024) (λ (k : ActorView). k.accepted < 2 ^ 63) (λ k few. omega (arith, few, small)) actors h
