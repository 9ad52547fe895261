-- The statistics of a method tell of few enough sends.
use Rattle.std.proofs.Common.{arith, ◌≡◌, ℕ, ◌^◌, ◌<◌, List, [], ◌∷◌, Option, Some, None, refl, subst, sym}
use Rattle.std.specs.Prelude.{All, IfOk, Ok, Err, Result, slice_get}
use Rattle.std.specs.List.{filter_map}
use Rattle.std.specs.Option.{IfSome}
use Rattle.std.proofs.lemmas.List.Elements.{All-nil, All-cons}
use Rattle.st_classes.specs.declared.keys.SiteId.{SiteId}
use Rattle.st_classes.specs.declared.values.MethodId.{MethodId}
use Rattle.st_classes.specs.declared.instructions.Instruction.{Instruction}
use Rattle.st_classes.specs.declared.instructions.Instruction.TheVariants.{Send, SuperSend}
use Rattle.st_classes.specs.declared.methods.MethodParts.{MethodParts}
use Rattle.st_classes.specs.EditLists.{method_at}
use Rattle.st_turn.specs.declared.tally.Tally.{Tally}
use Rattle.st_image.specs.declared.tallies.SiteStats.{SiteStats}
use Rattle.st_classes.specs.declared.refusals.Refusal.{Refusal}
use Rattle.st_image.specs.Images.{ImageView, world}
use Rattle.st_image.specs.WorldInvariant.{IsLawful}
use Rattle.st_image.specs.Calls.{AnswersExactly}
use Rattle.st_turn.specs.Tallies.{sends_of}
use Rattle.st_image.specs.Tallies.{tally_at}
use Rattle.st_image.specs.Stats.{HasCounted, HasFewSends, method_stats, site_stats, sites_stats, stats_with}

-- what is told of an instruction
one_few : (t : Tally) (o : Option Instruction) → sends_of t < 2 ^ 64 → IfSome (stats_with t o) HasFewSends
one_few t None h = tt
one_few t (Some (Send s n)) h = h
one_few t (Some (SuperSend s n)) h = h
one_few t (Some i) h = tt

few_cons : (f : ℕ → Option SiteStats) (x : ℕ) (xs : List ℕ) (o : Option SiteStats) → f x ≡ o → IfSome o HasFewSends → All HasFewSends (filter_map f xs) → All HasFewSends (filter_map f (x ∷ xs))
few_cons f x xs None e h rest = rw e rest
few_cons f x xs (Some s) e h rest = rw e (All-cons HasFewSends s (filter_map f xs) h rest)

-- what is told at places
places_few : (rows : List (List Tally)) (m : MethodId) (code : List Instruction) (places : List ℕ) → ((id : SiteId) → sends_of (tally_at rows id) < 2 ^ 64) → All HasFewSends (filter_map (site_stats rows m code) places)
places_few rows m code [] h = All-nil HasFewSends
places_few rows m code (p ∷ ps) h =
    few_cons (site_stats rows m code) p ps (site_stats rows m code p) refl (one_few (tally_at rows (record { method = m; place = p })) (slice_get code p) (h (record { method = m; place = p }))) (places_few rows m code ps h)

sites_few : (rows : List (List Tally)) (m : MethodId) (o : Option MethodParts) → ((id : SiteId) → sends_of (tally_at rows id) < 2 ^ 64) → All HasFewSends (sites_stats rows m o)
sites_few rows m None h = All-nil HasFewSends
sites_few rows m (Some parts) h = places_few rows m parts.code parts.sites h

-- what is told of a method
pub stats_few : (i : ImageView) (o : Option MethodId) → IsLawful i → HasCounted i → All HasFewSends (method_stats i o)
stats_few i None k n = All-nil HasFewSends
stats_few i (Some m) k n = sites_few i.standing.tallies m (method_at (world i).edits m) (λ id. omega (arith, n.few id, k.few_items, k.numbers.few_items))

-- an answer that tells of a method
pub told_few : {V : Type 0} (items : V → List SiteStats) (i : ImageView) (m : Option MethodId) (first : Option Refusal) (r : Result V Refusal) → IsLawful i → HasCounted i → AnswersExactly first r (λ v. items v ≡ method_stats i m) → IfOk r (λ v. All HasFewSends (items v))
told_few items i m first (Ok v) k n h = subst (All HasFewSends) (sym h.1) (stats_few i m k n)
told_few items i m first (Err e) k n h = tt
