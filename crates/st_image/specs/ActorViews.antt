-- What an image keeps of an actor.
use Rattle.std.specs.Prelude.{ℕ, ◌+◌, ◌≡◌, ◌≤◌, ◌||◌, ◌&&◌, ◌==◌, List, [], ◌∷◌, ◌++◌, length, map, Bool, true, false, not, Option, Some, None, slice_get, if◌then◌else◌}
use Rattle.st_classes.specs.declared.values.ClassId.{ClassId}
use Rattle.st_classes.specs.declared.values.ActorId.{ActorId}
use Rattle.st_classes.specs.declared.edits.Edit.{Edit}
use Rattle.st_turn.specs.declared.body.Body.{Body}
use Rattle.st_turn.specs.declared.body.Phase.TheVariants.{Start}
use Rattle.st_turn.specs.Idle.{is_idle}
use Rattle.st_classes.specs.Refusals.{first_of}
use Rattle.st_bitset.specs.BitSet.{is_no_later, is_raised}
use Rattle.st_mailbox.specs.Mailboxes.{box_rules}
use Rattle.st_mailbox.specs.declared.messages.Message.{Message}
use Rattle.st_image.specs.declared.actor_part.ActorPart.{ActorPart}
use Rattle.st_image.specs.Worlds.{World, WorldActor, pending}
use Rattle.st_image.specs.NewestResults.{Kept, kept_of, kept_with}
use Rattle.st_image.specs.Parts.{result_of}
use Rattle.st_image.specs.ClaimsOut.{claims_of}

-- an actor without the messages that it began: it has those that are pending, and how many it accepted
pub record ActorView : Type 0 where
  pub class : ClassId
  pub capacity : ℕ
  pub is_open : Bool
  pub body : Body
  pub last : ℕ
  pub pending : List Message
  pub accepted : ℕ
  pub results : Kept

-- what is kept of an actor of the world
abbrev pub actor_view : WorldActor → ActorView
actor_view b = record {
  class = b.class;
  capacity = b.capacity;
  is_open = b.is_open;
  body = b.body;
  last = b.last;
  pending = pending b;
  accepted = length b.accepted;
  results = kept_of b.results;
}

-- what is kept of the result of the turn that an actor's body has ended, if it has ended one
abbrev pub last_kept : ActorView → Kept
last_kept k = kept_of (result_of k.body.phase)

-- an actor that begins anew: it has accepted just what is pending, and of results it has only that of a turn which its body has ended
abbrev pub view_anew : ActorView → ActorView
view_anew k = record k { accepted = length k.pending; results = last_kept k }

-- the part of an actor
abbrev pub view_part : ActorView → ActorPart
view_part k = record {
  class = k.class;
  capacity = k.capacity;
  is_open = k.is_open;
  body = k.body;
  last = k.last;
  pending = k.pending;
}

-- the class table, and what is kept of the actors, are those of a world
pub record Shows (edits : List Edit) (actors : List ActorView) (w : World) : Type 0 where
  pub edits_are : edits ≡ w.edits
  pub actors_are : actors ≡ map actor_view w.actors

-- the mailbox of an actor that exists takes a message
abbrev pub Accepts : List ActorView → ActorId → Type 0
Accepts actors a = (k : ActorView) → slice_get actors a.0 ≡ Some k
    → first_of (box_rules k.is_open k.capacity (length k.pending)) ≡ None

-- a new actor
abbrev pub new_actor_view : ClassId → ℕ → Body → ActorView
new_actor_view c capacity body = record {
  class = c;
  capacity = capacity;
  is_open = true;
  body = body;
  last = 0;
  pending = [];
  accepted = 0;
  results = kept_of [];
}

-- a message goes last in the mailbox
abbrev pub view_with_message : Message → ActorView → ActorView
view_with_message m k = record k { pending = k.pending ++ m ∷ []; accepted = k.accepted + 1 }

-- an actor begins its first pending message, if there is one
abbrev pub view_begins : ActorView → List Message → ActorView
view_begins k [] = k
view_begins k (m ∷ ms) = record k { pending = ms; body = record k.body { phase = Start m.selector m.args } }

-- an actor begins its next message
abbrev pub view_after_begin : ActorView → ActorView
view_after_begin k = view_begins k k.pending

-- the body after some steps, and the result of a turn that ended
abbrev pub view_after_steps : Body → ActorView → ActorView
view_after_steps body k = record k { body = body; results = kept_with body.phase k.results }

-- the actor is in a turn, or has a message pending
abbrev pub is_ready_view : ActorView → Bool
is_ready_view k = not (is_idle k.body.phase) || not (length k.pending == 0)

-- the actor with this number exists and is ready
abbrev pub is_ready_in : List ActorView → ℕ → Bool
is_ready_in ks n = ready_kept (slice_get ks n)
  where
    ready_kept : Option ActorView → Bool
    ready_kept None = false
    ready_kept (Some k) = is_ready_view k

-- the actors, and how many claims of each are out
pub record ActorsView : Type 0 where
  pub list : List ActorView
  pub out : List ℕ

-- an actor may be checked out next: it is ready, and no claim of it is out
abbrev pub is_free_in : ActorsView → ℕ → Bool
is_free_in v a = is_ready_in v.list a && (claims_of v.out a == 0)

-- the flags of the actors that may be checked out are raised; there are as many flags and counts as actors, and at most 65,536
pub record AreActors (v : ActorsView) (free : List Bool) : Type 0 where
  pub flags : (n : ℕ) → is_raised free n ≡ is_free_in v n
  pub each_flag : length free ≡ length v.list
  pub each_count : length v.out ≡ length v.list
  pub few : length v.list ≤ 65536

-- a free actor that comes no later than any other free one, counted from a number
pub record IsNextFree (v : ActorsView) (from a : ℕ) : Type 0 where
  pub free : is_free_in v a ≡ true
  pub first : (b : ℕ) → is_free_in v b ≡ true → is_no_later from a b ≡ true

-- the number of claims out is changed for one actor, and stays for every other
abbrev pub CountsIn : (ℕ → ℕ) → ℕ → List ℕ → List ℕ → Type 0
CountsIn count a old new = (b : ℕ) → claims_of new b ≡ (if b == a then count (claims_of old b) else claims_of old b)

-- as many claims of each actor are out as before
abbrev pub SameOut : List ℕ → List ℕ → Type 0
SameOut old new = (b : ℕ) → claims_of new b ≡ claims_of old b

-- an idle actor begins its next message
abbrev pub view_checked_out : ActorView → ActorView
view_checked_out k = if is_idle k.body.phase then view_after_begin k else k
