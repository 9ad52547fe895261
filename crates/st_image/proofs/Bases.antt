-- Images at a base: nothing has happened yet, and what is kept is the base's.
use Rattle.std.proofs.Common.{arith, ◌≡◌, ℕ, zero, suc, ◌+◌, ◌≤◌, ◌++◌, [], ◌∷◌, List, length, map, drop, Option, Some, None, refl, ap, sym, ◌∙◌, subst, slice_get}
use Rattle.std.specs.Prelude.{All, option_map, replicate}
use Rattle.std.proofs.lemmas.List.{length-map, replicate-append-replicate, take-append-drop}
use Rattle.std.proofs.lemmas.List.Elements.{All-map, All-nil, All-weaker}
use Rattle.std.proofs.lemmas.Option.{slice_get-map}
use Rattle.st_classes.specs.declared.edits.Edit.{Edit}
use Rattle.st_classes.specs.Names.{AreNames}
use Rattle.st_classes.specs.EditLists.{AreLawful, AllSuit, AllSound}
use Rattle.st_turn.specs.declared.body.Phase.{Phase}
use Rattle.st_turn.specs.declared.body.Phase.TheVariants.{Fresh, Start, Frames, Done}
use Rattle.st_image.specs.declared.actor_part.ActorPart.{ActorPart}
use Rattle.st_image.specs.declared.settings.Settings.{Settings}
use Rattle.st_image.specs.Worlds.{World, WorldActor}
use Rattle.st_image.specs.WorldInvariant.{BeginsWithKernel, HasTurns, HaveTurns, IsSoundItem, IsWorld, IsWorldActor, first_turn}
use Rattle.st_image.specs.Images.{world_of}
use Rattle.st_image.specs.Starts.{StartsLast}
use Rattle.st_image.specs.ActorViews.{ActorView, actor_view}
use Rattle.st_image.specs.ActResults.{constants_of}
use Rattle.st_image.specs.ImageInvariant.{IsImage}
use Rattle.st_image.specs.Parts.{FitsMailbox, actor_of, result_of, world_of_parts}
use Rattle.st_image.specs.ClaimsOut.{put_first, trimmed}
use Rattle.st_image.specs.EarlierCounts.{EarlierCounts, counted_earlier}
use Rattle.st_image.specs.declared.counts.Counts.{Counts}
use Rattle.st_image.specs.declared.history.Item.{Item}
use Rattle.st_turn.specs.declared.tally.Tally.{Tally}
use Rattle.st_image.specs.Loaded.{AreBaseActors, AreBaseSenders, loaded_image}
use Rattle.st_image.proofs.Posting.{seen, standing_of}
use Rattle.st_image.proofs.Starting.{starts_self}

-- the numbers that are set by default
abbrev pub default : Settings
default = record { capacity = 64; history = 1000000 }

kernel_first : (names : List (List ℕ)) → AreNames names → BeginsWithKernel names
kernel_first names k = (drop 22 names, sym (take-append-drop 22 names) ∙ ap (λ (first : List (List ℕ)). first ++ drop 22 names) k.kernel)

base_actors : (names : List (List ℕ)) (edits : List Edit) (parts : List ActorPart) → AreBaseActors names edits parts → All (IsWorldActor names edits (length (map actor_of parts))) (map actor_of parts)
base_actors names edits parts h = subst (λ (n : ℕ). All (IsWorldActor names edits n) (map actor_of parts)) (sym (length-map parts actor_of)) (All-map (IsWorldActor names edits (length parts)) actor_of parts h.each)

base_world : (names : List (List ℕ)) (edits : List Edit) (parts : List ActorPart) (clients : List (ℕ × ℕ)) → AreNames names → AreLawful edits → AllSuit names edits → AllSound edits → AreBaseActors names edits parts → AreBaseSenders edits parts clients → IsWorld (constants_of names 64) (world_of_parts edits parts clients)
base_world names edits parts clients named lawful suited sound h s = record {
  constants = record { kernel = kernel_first names named; some_capacity = omega arith; few_messages = omega arith };
  lawful = lawful;
  suited = suited;
  sound = sound;
  actors = base_actors names edits parts h;
  clients = s.0;
}

-- ---- turns

phase_turns : (b : WorldActor) (p : Phase) → b.body.phase ≡ p → b.results ≡ result_of p → b.begun ≡ [] → HasTurns (first_turn (Some b)) b
phase_turns b Fresh e r n = rw (e, r, n) refl
phase_turns b (Start s args) e r n = rw (e, r, n) refl
phase_turns b (Frames fs) e r n = rw (e, r, n) refl
phase_turns b (Done o) e r n = rw (e, r, n) refl

some_part : (o : Option ActorPart) (b : WorldActor) → option_map actor_of o ≡ Some b → (p : ActorPart) × (b ≡ actor_of p)
some_part None b e = cc
some_part (Some p) b e = (p, cc)

part_at : (parts : List ActorPart) (a : ℕ) (b : WorldActor) → slice_get (map actor_of parts) a ≡ Some b → (p : ActorPart) × (b ≡ actor_of p)
part_at parts a b e = some_part (slice_get parts a) b (sym (slice_get-map actor_of parts a) ∙ e)

pub base_turns : (edits : List Edit) (parts : List ActorPart) (clients : List (ℕ × ℕ)) → HaveTurns (world_of_parts edits parts clients) (world_of_parts edits parts clients)
base_turns edits parts clients = record {
  long = omega arith;
  each = λ a b e.
      let p = part_at parts a b e in
      let turns : HasTurns (first_turn (Some b)) b = subst (λ (x : WorldActor). HasTurns (first_turn (Some x)) x) (sym p.1) (phase_turns (actor_of p.0) p.0.body.phase refl refl refl) in
      subst (λ (o : Option WorldActor). HasTurns (first_turn o) b) (sym e) turns;
  starts = λ a b e. subst (λ (o : Option WorldActor). StartsLast o b) (sym e) (starts_self b);
}

-- ---- what is kept

-- what is kept of the actors of parts
abbrev pub kept_parts : List ActorPart → List ActorView
kept_parts parts = map (λ (p : ActorPart). actor_view (actor_of p)) parts

kept_actors : (parts : List ActorPart) → kept_parts parts ≡ map actor_view (map actor_of parts)
kept_actors [] = refl
kept_actors (p ∷ ps) = ap (λ (ks : List ActorView). actor_view (actor_of p) ∷ ks) (kept_actors ps)

few_messages : (names : List (List ℕ)) (edits : List Edit) (n : ℕ) (p : ActorPart) → IsWorldActor names edits n (actor_of p) → (actor_view (actor_of p)).accepted ≤ 0 + 1024
few_messages names edits n p h = omega (arith, h.within, h.few_messages)

few_kept : (names : List (List ℕ)) (edits : List Edit) (parts : List ActorPart) → AreBaseActors names edits parts → All (λ (k : ActorView). k.accepted ≤ 0 + 1024) (kept_parts parts)
few_kept names edits parts h = All-map (λ (k : ActorView). k.accepted ≤ 0 + 1024) (λ (p : ActorPart). actor_view (actor_of p)) parts (All-weaker (λ (p : ActorPart). IsWorldActor names edits (length parts) (actor_of p)) (λ (p : ActorPart). (actor_view (actor_of p)).accepted ≤ 0 + 1024) (few_messages names edits (length parts)) parts h.each)

-- one actor more of whom no claim is out
pub none_more : (n : ℕ) → replicate {A = ℕ} (n + 1) 0 ≡ replicate n 0 ++ 0 ∷ []
none_more n = sym (replicate-append-replicate {A = ℕ} n 1 0)

-- the mailboxes of parts hold what is pending
fits_mailbox : (names : List (List ℕ)) (edits : List Edit) (n : ℕ) (p : ActorPart) → IsWorldActor names edits n (actor_of p) → FitsMailbox p
fits_mailbox names edits n p h = record { some = h.some_capacity; few = h.few_messages; within = h.within }

pub fit_mailboxes : (names : List (List ℕ)) (edits : List Edit) (parts : List ActorPart) → AreBaseActors names edits parts → All FitsMailbox parts
fit_mailboxes names edits parts h = All-weaker (λ (p : ActorPart). IsWorldActor names edits (length parts) (actor_of p)) FitsMailbox (fits_mailbox names edits (length parts)) parts h.each

-- an image with no history is what its base says
pub at_base_is : (names : List (List ℕ)) (edits : List Edit) (parts : List ActorPart) (clients : List (ℕ × ℕ)) → AreNames names → AreLawful edits → AllSuit names edits → AllSound edits → AreBaseActors names edits parts → AreBaseSenders edits parts clients → IsImage (world_of_parts edits parts clients) names edits (kept_parts parts) [] 0 default
unfolding world_of
at_base_is names edits parts clients named lawful suited sound h s = record {
  base_is = base_world names edits parts clients named lawful suited sound h s;
  senders = s.1;
  sound = All-nil IsSoundItem;
  lawful = refl;
  shows = record { edits_are = refl; actors_are = kept_actors parts };
  world = base_world names edits parts clients named lawful suited sound h s;
  turns = base_turns edits parts clients;
  counted = refl;
  numbers = record { some_capacity = omega arith; few_messages = omega arith; some_history = omega arith; few_items = omega arith };
  few_items = omega arith;
  few_accepted = few_kept names edits parts h;
}

-- ---- claims

-- none is out
pub none_out : (n : ℕ) → trimmed (replicate n 0) ≡ []
none_out zero = refl
none_out (suc n) = ap (put_first 0) (none_out n)

-- ---- what callers see

pub loaded_by : (names : List (List ℕ)) (edits : List Edit) (parts : List ActorPart) (clients : List (ℕ × ℕ)) (base : World) (h : List Item) (out : List ℕ) (rows : List (List Tally)) (earlier : EarlierCounts) (counts : Counts) → base ≡ world_of_parts edits parts clients → h ≡ [] → trimmed out ≡ [] → rows ≡ [] → earlier ≡ counted_earlier counts → seen base names h default (standing_of earlier 0 out rows) ≡ loaded_image names edits parts clients counts
loaded_by names edits parts clients base h out rows earlier counts b e o r f = rw (b, e, o, r, f) refl
