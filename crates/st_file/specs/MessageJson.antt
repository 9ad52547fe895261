-- Messages as JSON values.
use Rattle.std.specs.Prelude.{ℕ, List, codes}
use Rattle.serde_json.specs.Data.{Data, string, object, member, no_members}
use Rattle.st_classes.specs.declared.edits.Edit.{Edit}
use Rattle.st_mailbox.specs.declared.messages.Message.{Message}
use Rattle.st_mailbox.specs.declared.messages.Sender.{Sender}
use Rattle.st_mailbox.specs.declared.messages.Sender.TheVariants.{Client, Actor}
use Rattle.st_image.specs.Loading.{selector_text}
use Rattle.st_wire.specs.Replies.{only, whole}
use Rattle.st_file.specs.ValueJson.{values_json}

-- a client by its number, or an actor
abbrev pub sender_json : Sender → Data
sender_json (Client n) = whole n
sender_json (Actor a) = only (codes "ref") (whole a.0)

abbrev pub message_json : List (List ℕ) → List Edit → Message → Data
message_json names edits m = object
    (member (codes "args") (values_json names edits m.args)
    (member (codes "selector") (string (selector_text names m.selector))
    (member (codes "sender") (sender_json m.sender)
    (member (codes "seq") (whole m.seq)
    no_members))))
