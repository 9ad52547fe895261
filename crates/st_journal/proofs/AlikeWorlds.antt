-- Worlds that show the same parts.
use Rattle.std.proofs.Common.{◌≡◌, ◌≤◌, ℕ, List, [], ◌∷◌, ◌++◌, Bool, true, false, Option, Some, None, option_map, option_and_then, length, map, slice_get, refl, sym, ap, ◌∙◌, arith}
use Rattle.std.specs.Prelude.{All}
use Rattle.std.proofs.lemmas.List.{length-map, map-append}
use Rattle.std.proofs.lemmas.List.Elements.{All-map, All-push, All-weaker}
use Rattle.std.proofs.lemmas.Option.{slice_get-map}
use Rattle.st_classes.specs.declared.values.ActorId.{ActorId}
use Rattle.st_image.specs.declared.actor_part.ActorPart.{ActorPart}
use Rattle.st_image.specs.Parts.{part_of, rebase, rebased, world_of_parts}
use Rattle.st_image.specs.Replay.{only_if}
use Rattle.st_image.specs.Worlds.{World, WorldActor, change, change_at}
use Rattle.st_image.proofs.Changing.{All-change, map-change}
use Rattle.st_image.proofs.Places.{at_all}
use Rattle.st_image.proofs.Rebasing.{rebase_is}
use Rattle.st_journal.specs.Alike.{AreAlike, BeginsFew, BothAlike}

-- an actor has begun no more than it accepted
abbrev pub Few : WorldActor → Type 0
Few b = length b.begun ≤ length b.accepted

pub record Alike (v w : World) : Type 0 where
  pub edits : v.edits ≡ w.edits
  pub parts : map part_of v.actors ≡ map part_of w.actors
  pub clients : v.clients ≡ w.clients
  pub few : All Few v.actors
  pub few_there : All Few w.actors

abbrev pub Alikes : Option World → Option World → Type 0
Alikes None None = Unit {0}
Alikes None (Some w) = ⊥
Alikes (Some v) None = ⊥
Alikes (Some v) (Some w) = Alike v w

-- ---- as bases

parts_rebased : (bs : List WorldActor) → map part_of (map rebased bs) ≡ map part_of bs
parts_rebased [] = refl
parts_rebased (b ∷ bs) = ap (λ (ps : List ActorPart). part_of b ∷ ps) (parts_rebased bs)

pub alike_from : (v w : World) → BeginsFew v → BeginsFew w → AreAlike v w → Alike v w
alike_from v w few few_there same = record {
  edits = ap (λ (u : World). u.edits) same;
  parts = sym (parts_rebased v.actors) ∙ ap (λ (u : World). map part_of u.actors) same ∙ parts_rebased w.actors;
  clients = ap (λ (u : World). u.clients) same;
  few = few;
  few_there = few_there;
}

pub rebased_same : (v w : World) → Alike v w → rebase v ≡ rebase w
rebased_same v w al =
    rebase_is v
    ∙ ap (λ es. world_of_parts es (map part_of v.actors) v.clients) al.edits
    ∙ ap (λ ps. world_of_parts w.edits ps v.clients) al.parts
    ∙ ap (λ cs. world_of_parts w.edits (map part_of w.actors) cs) al.clients
    ∙ sym (rebase_is w)

few_rebased : (bs : List WorldActor) → All Few bs → All Few (map rebased bs)
few_rebased bs h = All-map Few rebased bs (All-weaker Few (λ (b : WorldActor). Few (rebased b)) (λ b l. omega arith) bs h)

pub rebased_alike : (v w : World) → Alike v w → Alike (rebase v) (rebase w)
rebased_alike v w al = record {
  edits = al.edits;
  parts = parts_rebased v.actors ∙ al.parts ∙ sym (parts_rebased w.actors);
  clients = al.clients;
  few = few_rebased v.actors al.few;
  few_there = few_rebased w.actors al.few_there;
}

pub both_alike : (o p : Option World) → Alikes o p → BothAlike o p
both_alike None None h = refl
both_alike None (Some w) h = absurd h
both_alike (Some v) None h = absurd h
both_alike (Some v) (Some w) h = ap Some (rebased_same v w h)

-- ---- options

pub if_alike : (s t : Bool) (v w : World) → s ≡ t → Alike v w → Alikes (only_if s v) (only_if t w)
if_alike true true v w e h = h
if_alike true false v w e h = absurd (cc e)
if_alike false true v w e h = absurd (cc e)
if_alike false false v w e h = tt

pub then_alike : (o p : Option World) (f g : World → Option World) → Alikes o p → ((v w : World) → Alike v w → Alikes (f v) (g w)) → Alikes (option_and_then f o) (option_and_then g p)
then_alike None None f g h k = tt
then_alike None (Some w) f g h k = absurd h
then_alike (Some v) None f g h k = absurd h
then_alike (Some v) (Some w) f g h k = k v w h

-- ---- actors

pub at_parts : (v w : World) (a : ℕ) → Alike v w → option_map part_of (slice_get v.actors a) ≡ option_map part_of (slice_get w.actors a)
at_parts v w a al = sym (slice_get-map part_of v.actors a) ∙ ap (λ (ps : List ActorPart). slice_get ps a) al.parts ∙ slice_get-map part_of w.actors a

pub as_many : (v w : World) → Alike v w → length v.actors ≡ length w.actors
as_many v w al = sym (length-map v.actors part_of) ∙ ap (λ (ps : List ActorPart). length ps) al.parts ∙ length-map w.actors part_of

-- a change of an actor, seen at its part
pub record Changes (w : World) (a : ActorId) (f : WorldActor → WorldActor) (h : ActorPart → ActorPart) : Type 0 where
  pub part : (b : WorldActor) → slice_get w.actors a.0 ≡ Some b → Few b → part_of (f b) ≡ h (part_of b)
  pub few : (b : WorldActor) → slice_get w.actors a.0 ≡ Some b → Few b → Few (f b)

parts_changed : (w : World) (a : ActorId) (f : WorldActor → WorldActor) (h : ActorPart → ActorPart) → All Few w.actors → Changes w a f h → map part_of (change_at f a.0 w.actors) ≡ change_at h a.0 (map part_of w.actors)
parts_changed w a f h few k = map-change part_of f h a.0 w.actors (λ b at. k.part b at (at_all Few w.actors a.0 b few at))

pub change_alike : (v w : World) (a : ActorId) (f g : WorldActor → WorldActor) (h : ActorPart → ActorPart) → Alike v w → Changes v a f h → Changes w a g h → Alike (change f a v) (change g a w)
change_alike v w a f g h al k l = record {
  edits = al.edits;
  parts = parts_changed v a f h al.few k ∙ ap (λ (ps : List ActorPart). change_at h a.0 ps) al.parts ∙ sym (parts_changed w a g h al.few_there l);
  clients = al.clients;
  few = All-change Few f a.0 v.actors k.few al.few;
  few_there = All-change Few g a.0 w.actors l.few al.few_there;
}

-- one more actor
pub push_alike : (v w : World) (b d : WorldActor) → Alike v w → part_of b ≡ part_of d → Few b → Few d → Alike (record v { actors = v.actors ++ b ∷ [] }) (record w { actors = w.actors ++ d ∷ [] })
push_alike v w b d al same few few_there = record {
  edits = al.edits;
  parts = map-append part_of v.actors (b ∷ [])
      ∙ ap (λ (ps : List ActorPart). ps ++ part_of b ∷ []) al.parts
      ∙ ap (λ (p : ActorPart). map part_of w.actors ++ p ∷ []) same
      ∙ sym (map-append part_of w.actors (d ∷ []));
  clients = al.clients;
  few = All-push Few v.actors b al.few few;
  few_there = All-push Few w.actors d al.few_there few_there;
}
