-- Delivery: each actor has begun a prefix of what its mailbox accepted (`BeginsInOrder`), every message once
-- (`AcceptedOnce`), each sender's in sending order (`InSendingOrder`), and none accepted after close
-- (`NoneAfterClose`).
use Rattle.std.specs.Prelude.{◌≡◌, ℕ, List, ◌++◌, Some, slice_get, All, false}
use Rattle.st_image.specs.declared.history.Item.{Item}
use Rattle.st_image.specs.Worlds.{Constants, World, WorldActor}
use Rattle.st_image.specs.Replay.{replay}
use Rattle.st_image.specs.Senders.{AcceptedOnce, BegunInSendingOrder, InSendingOrder}
use Rattle.st_image.specs.Images.{ImageView, constants, world}

-- a list is a prefix of another
abbrev pub IsPrefixOf : {X : Type 0} → List X → List X → Type 0
IsPrefixOf {X} some all = (rest : List X) × (all ≡ some ++ rest)

-- what the actor has begun is a prefix of what it accepted
abbrev pub BeginsInOrder : WorldActor → Type 0
BeginsInOrder b = IsPrefixOf b.begun b.accepted

-- if an actor's mailbox was closed, it still is, and has accepted nothing since
abbrev pub NoneAfterClose : WorldActor → WorldActor → Type 0
NoneAfterClose b c = b.is_open ≡ false → (c.is_open ≡ false) × (c.accepted ≡ b.accepted)

-- what an actor had accepted and begun, and its results, are prefixes of what it has now, and nothing was accepted after close
pub record HasGrown (b c : WorldActor) : Type 0 where
  pub accepted : IsPrefixOf b.accepted c.accepted
  pub begun : IsPrefixOf b.begun c.begun
  pub results : IsPrefixOf b.results c.results
  pub closed : NoneAfterClose b c

-- each actor of one list is in the other, and has only grown
abbrev pub OnlyGrow : List WorldActor → List WorldActor → Type 0
OnlyGrow actors later = (a : ℕ) (b : WorldActor) → slice_get actors a ≡ Some b
    → (c : WorldActor) × (slice_get later a ≡ Some c) × HasGrown b c

-- each actor has begun a prefix of what it accepted, every message was accepted once, and each sender's messages were
-- accepted in sending order; so they were also begun once and in sending order
pub record IsDelivered (w : World) : Type 0 where
  pub begins : All BeginsInOrder w.actors
  pub once : AcceptedOnce w
  pub senders : InSendingOrder w
  pub begun : BegunInSendingOrder w

-- a lawful history delivers over each of its prefixes, if messages are begun in order and senders' numbers rise in its base; and nothing
-- that an actor had at a prefix is lost
abbrev pub Delivers : Type 0
Delivers = (c : Constants) (base : World) (first later : List Item) (v w : World)
    → All BeginsInOrder base.actors
    → InSendingOrder base
    → replay c base first ≡ Some v
    → replay c base (first ++ later) ≡ Some w
    → IsDelivered v × IsDelivered w × OnlyGrow v.actors w.actors

-- an image has delivered over each prefix of its own history, and nothing that an actor had at a prefix is lost
abbrev pub HasDelivered : ImageView → Type 0
HasDelivered i = (first later : List Item)
    → i.history ≡ first ++ later
    → (v : World) × (replay (constants i) i.base first ≡ Some v)
    × IsDelivered v
    × OnlyGrow v.actors (world i).actors
