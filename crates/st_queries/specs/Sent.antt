-- The message that failed: the one that the next step of a body sends.
use Rattle.std.specs.Prelude.{ℕ, List, Bool, is_some, codes}
use Rattle.serde_json.specs.Data.{Data, boolean, string, object, member, no_members}
use Rattle.st_classes.specs.declared.values.Selector.{Selector}
use Rattle.st_classes.specs.declared.values.Value.{Value}
use Rattle.st_classes.specs.declared.edits.Edit.{Edit}
use Rattle.st_image.specs.Loading.{class_text, selector_text}
use Rattle.st_image.specs.SentMessages.{Sending}
use Rattle.st_turn.specs.declared.body.Object.{Object}
use Rattle.st_turn.specs.Objects.{class_in}
use Rattle.st_file.specs.ValueJson.{value_json, values_json}

-- a message without the ways of arriving; whether it is a super send
pub record Sent : Type 0 where
  pub is_super : Bool
  pub receiver : Value
  pub selector : Selector
  pub args : List Value

-- a super send is the one that has a holder
abbrev pub sent_of : Sending → Sent
sent_of x = record { is_super = is_some x.holder; receiver = x.receiver; selector = x.selector; args = x.args }

abbrev pub sent_told : List (List ℕ) → List Edit → List Object → Sent → Data
sent_told names edits objects x = object
    (member (codes "args") (values_json names edits x.args)
    (member (codes "class") (string (class_text edits (class_in objects x.receiver)))
    (member (codes "receiver") (value_json names edits x.receiver)
    (member (codes "selector") (string (selector_text names x.selector))
    (member (codes "super") (boolean x.is_super)
    no_members)))))
