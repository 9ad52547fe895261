-- What happens leads worlds that are alike to worlds that are alike.
use Rattle.std.proofs.Common.{arith, ◌≤◌, List, [], ◌∷◌, length, length-append, ap}
use Rattle.std.proofs.lemmas.List.Elements.{All-weaker}
use Rattle.st_mailbox.specs.declared.messages.Message.{Message}
use Rattle.st_image.specs.declared.history.Item.{Item}
use Rattle.st_image.specs.declared.history.Item.TheVariants.{Edited, Created, Posted, Closed, Begun, Ran}
use Rattle.st_image.specs.Replay.{next}
use Rattle.st_image.specs.Delivery.{BeginsInOrder}
use Rattle.st_image.specs.WorldInvariant.{IsWorldActor}
use Rattle.st_image.specs.Worlds.{Constants, World, WorldActor}
use Rattle.st_journal.specs.Alike.{StayAlike, WorldsBeginFew}
use Rattle.st_journal.specs.Marks.{Mark, did, emptied, after, after_all}
use Rattle.st_journal.proofs.AlikeItems.{begun_alike, closed_alike, created_alike, edited_alike, posted_alike}
use Rattle.st_journal.proofs.AlikeSteps.{ran_alike}
use Rattle.st_journal.proofs.AlikeWorlds.{Alike, Alikes, alike_from, both_alike, rebased_alike, then_alike}

next_alike : (c : Constants) (v w : World) (x : Item) → Alike v w → Alikes (next c v x) (next c w x)
next_alike c v w (Edited e) al = edited_alike c v w e al
next_alike c v w (Created class) al = created_alike c v w class al
next_alike c v w (Posted a m) al = posted_alike c v w a m al
next_alike c v w (Closed a) al = closed_alike v w a al
next_alike c v w (Begun a) al = begun_alike v w a al
next_alike c v w (Ran a n) al = ran_alike c v w a n al

after_alike : (c : Constants) (v w : World) (m : Mark) → Alike v w → Alikes (after c v m) (after c w m)
after_alike c v w (did x) al = next_alike c v w x al
after_alike c v w emptied al = rebased_alike v w al

all_alike : (c : Constants) (ms : List Mark) (v w : World) → Alike v w → Alikes (after_all c v ms) (after_all c w ms)
all_alike c [] v w al = al
all_alike c (m ∷ ms) v w al = then_alike (after c v m) (after c w m) (λ u. after_all c u ms) (λ u. after_all c u ms) (after_alike c v w m al) (all_alike c ms)

pub stay_alike : StayAlike
stay_alike c v w ms few few_there same = both_alike (after_all c v ms) (after_all c w ms) (all_alike c ms v w (alike_from v w few few_there same))

-- what an actor began is the front of what it accepted
begun_few : (b : WorldActor) → BeginsInOrder b → length b.begun ≤ length b.accepted
begun_few b h = omega (arith, ap (λ (ms : List Message). length ms) h.1, length-append b.begun h.0)

pub worlds_begin_few : WorldsBeginFew
worlds_begin_few c w h = All-weaker (IsWorldActor c.names w.edits (length w.actors)) (λ (b : WorldActor). length b.begun ≤ length b.accepted) (λ b k. begun_few b k.begins) w.actors h.actors
