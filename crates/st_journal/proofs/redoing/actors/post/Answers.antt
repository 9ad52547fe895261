use Rattle.std.proofs.Common.{◌≡◌, ◌∙◌, ℕ, ap, sym}
use Rattle.st_mailbox.specs.declared.messages.Message.{Message}
use Rattle.st_mailbox.specs.declared.messages.Sender.{Sender}
use Rattle.st_mailbox.specs.declared.messages.Sender.TheVariants.{Client}
use Rattle.st_image.specs.declared.history.Item.TheVariants as item
use Rattle.st_image.specs.PostRules.{from_client}
use Rattle.st_journal.specs.declared.entries.Entry.TheVariants as entry
use Rattle.st_journal.proofs.Replayed.{does_alone}
use Rattle.st_journal.proofs.redoing.actors.post.Goals as goal

-- a copy of a client's message, by its parts
posted_copy : (s : ℕ) (copy m : Message) → copy ≡ m → m.sender ≡ Client s → from_client s copy.seq copy.selector copy.args ≡ m
posted_copy s copy m same is =
    ap (λ (x : Message). from_client s x.seq x.selector x.args) same
    ∙ ap (λ (y : Sender). record m { sender = y }) (sym is)

pub returns-in-Ok-posted-clause-ok : goal.returns-in-Ok-posted-clause-ok
returns-in-Ok-posted-clause-ok g c =
    let copy = c.in-Ok.copy in
    does_alone _ (item.Posted c.args.actor (from_client c.in-Client.sender copy.seq copy.selector copy.args)) _ _
    (ap (λ (m : Message). entry.Posted c.args.actor m) (posted_copy c.in-Client.sender copy c.args.message.now c.in-Ok.ensures c.in-Client.is))
    tt c.known.ensures c.known-2.ensures c.in-Ok-posted.ensures.0.1.0
