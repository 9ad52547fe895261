-- The JSON values of values and messages are read as these.
use Rattle.std.proofs.Common.{◌≡◌, ℕ, ◌≤◌, ◌<◌, ◌^◌, ◌-◌, pos, negsuc, true, List, [], map, Option, None, Some, All, option_map, slice_get, get_or, unwrap_or, refl, ap, ◌∙◌, arith, lt-ltb, le-leb}
use Rattle.std.proofs.lemmas.Option.{slice_get-get_or}
use Rattle.serde_json.specs.View.{items_of}
use Rattle.st_classes.specs.declared.values.ClassId.{ClassId}
use Rattle.st_classes.specs.declared.values.Selector.{Selector}
use Rattle.st_classes.specs.declared.values.Value.{Value}
use Rattle.st_classes.specs.declared.values.Value.TheVariants as value
use Rattle.st_classes.specs.declared.edits.Edit.{Edit}
use Rattle.st_classes.specs.Classes.{class_name, class_named, is_class}
use Rattle.st_classes.specs.EditLists.{AreLawful}
use Rattle.st_classes.specs.Kernel.{selector}
use Rattle.st_classes.specs.Names.{AreNames}
use Rattle.st_mailbox.specs.declared.messages.Message.{Message}
use Rattle.st_mailbox.specs.declared.messages.Sender.{Sender}
use Rattle.st_mailbox.specs.declared.messages.Sender.TheVariants as sender
use Rattle.st_image.specs.Loading.{class_text, selector_text}
use Rattle.st_wire.specs.Fields.{within}
use Rattle.st_file.specs.declared.texts.ValueText.TheVariants as text
use Rattle.st_file.specs.Forms.{ReadsAs}
use Rattle.st_file.specs.Meanings.{below, message_meant, selector_of, value_meant}
use Rattle.st_file.specs.MessageJson.{message_json, sender_json}
use Rattle.st_file.specs.Named.{IsNamed, MessageIsNamed, ValueIsNamed}
use Rattle.st_file.specs.Ranges.{MessageIsInRange, SenderIsInRange, ValueIsInRange}
use Rattle.st_file.specs.Shapes.{message_in, sender_in, value_in}
use Rattle.st_file.specs.ValueJson.{value_json}
use Rattle.st_file.proofs.FoundAgain.{class_again, has_name, name_again}
use Rattle.st_file.proofs.ItemForms.{items_read, ItemsReadAs}

-- ---- numbers

pub within_bounds : (least most n : ℕ) → least ≤ n → n ≤ most → within least most (Some n) ≡ Some n
within_bounds least most n low high = rw (le-leb least n low, le-leb n most high) refl

pub below_bound : (bound n : ℕ) → n < bound → below bound n ≡ Some n
below_bound bound n h = rw (lt-ltb n bound h) refl

-- a number of 64 bits
pub word_within : (n : ℕ) → n < 2 ^ 64 → within 0 (2 ^ 64 - 1) (Some n) ≡ Some n
word_within n h = within_bounds 0 (2 ^ 64 - 1) n (omega arith) (omega arith)

-- the number of an actor
pub actor_within : (n : ℕ) → n < 2 ^ 32 → within 0 (2 ^ 32 - 1) (Some n) ≡ Some n
actor_within n h = within_bounds 0 (2 ^ 32 - 1) n (omega arith) (omega arith)

-- ---- names and classes

pub selector_again : (names : List (List ℕ)) (s : Selector) → AreNames names → IsNamed names s → selector_of names (selector_text names s) ≡ Some s
selector_again names s are h =
    let name = get_or names s.0 [] in
    let at : slice_get names s.0 ≡ Some name = slice_get-get_or names s.0 [] h in
    ap (λ (o : Option (List ℕ)). selector_of names (unwrap_or o [])) at ∙ ap (option_map selector) (name_again names s.0 name are at)

pub class_is_again : (edits : List Edit) (c : ClassId) → AreLawful edits → is_class edits c ≡ true → class_named edits (class_text edits c) ≡ Some c
class_is_again edits c lawful h = by (class_name edits c) refl
  where
    by : (o : Option (List ℕ)) → class_name edits c ≡ o → class_named edits (unwrap_or o []) ≡ Some c
    by None e = absurd (has_name edits c h e)
    by (Some name) e = class_again edits c name lawful e

-- ---- values

pub sender_read : (s : Sender) → SenderIsInRange s → sender_in (sender_json s) ≡ Some s
sender_read (sender.Client n) h = rw (within_bounds 0 65535 n (omega arith) (omega arith)) refl
sender_read (sender.Actor a) h = rw (actor_within a.0 h) refl

module _ (names : List (List ℕ)) (edits : List Edit) (are : AreNames names) (lawful : AreLawful edits) where
  pub value_read : (v : Value) → ValueIsNamed names edits v → ValueIsInRange v → ReadsAs value_in (value_meant names edits) v (value_json names edits v)
  value_read (value.Int (pos n)) named range = record { text = text.Int (pos n); read = rw (lt-ltb n (2 ^ 63) range.sfits) refl; meant = refl }
  value_read (value.Int (negsuc n)) named range = record { text = text.Int (negsuc n); read = refl; meant = refl }
  value_read (value.Bool b) named range = record { text = text.Bool b; read = refl; meant = refl }
  value_read value.Nil named range = record { text = text.Nil; read = refl; meant = refl }
  value_read (value.Sym s) named range = record { text = text.Symbol (selector_text names s); read = refl; meant = rw (selector_again names s are named) refl }
  value_read (value.Class c) named range = record { text = text.Class (class_text edits c); read = refl; meant = rw (class_is_again edits c lawful named) refl }
  value_read (value.Actor a) named range = record { text = text.Actor a; read = rw (actor_within a.0 range) refl; meant = refl }
  value_read (value.Local n) named range = record { text = text.Local n; read = rw (word_within n (omega (arith, range))) refl; meant = rw (below_bound (2 ^ 32) n range) refl }

  pub values_read : (vs : List Value) → All (ValueIsNamed names edits) vs → All ValueIsInRange vs → ItemsReadAs value_in (value_meant names edits) vs (items_of (map (value_json names edits) vs))
  values_read vs named range = items_read value_in (value_meant names edits) (value_json names edits) (ValueIsNamed names edits) ValueIsInRange value_read vs named range

  pub message_read : (m : Message) → MessageIsNamed names edits m → MessageIsInRange m → ReadsAs message_in (message_meant names edits) m (message_json names edits m)
  message_read m named range =
      let args = values_read m.args named.args range.args in
      record {
        text = record { args = args.texts; selector = selector_text names m.selector; sender = m.sender; seq = m.seq };
        read = rw (args.read, sender_read m.sender range.sender, word_within m.seq range.seq) refl;
        meant = rw (args.meant, selector_again names m.selector are named.selector) refl;
      }
