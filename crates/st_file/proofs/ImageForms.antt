-- The JSON value of an image is the document of that image, and its text is read as this value.
use Rattle.std.proofs.Common.{◌≡◌, ℕ, ◌^◌, ◌-◌, List, [], ◌∷◌, drop, map, codes, Some, All, refl, arith}
use Rattle.std.proofs.lemmas.List.Elements.{All-head, All-tail}
use Rattle.serde_json.specs.Data.{Data, string}
use Rattle.serde_json.specs.Read.{read}
use Rattle.serde_json.specs.View.{items_of}
use Rattle.serde_json.specs.Written.{compact_text}
use Rattle.st_classes.specs.declared.edits.Edit.{Edit}
use Rattle.st_classes.specs.Names.{AreNames}
use Rattle.st_classes.specs.EditLists.{AreLawful}
use Rattle.st_image.specs.declared.actor_part.ActorPart.{ActorPart}
use Rattle.st_image.specs.declared.counts.Counts.{Counts}
use Rattle.st_image.specs.Counts.{CanBeCounted, most_counted}
use Rattle.st_image.specs.Loading.{edit_text, edit_texts}
use Rattle.st_wire.specs.Fields.{each_of, whole_at}
use Rattle.st_file.specs.declared.texts.ActorText.{ActorText}
use Rattle.st_file.specs.ActorJson.{actor_json}
use Rattle.st_file.specs.EditJson.{edit_json}
use Rattle.st_file.specs.ImageJson.{client_json, image_json}
use Rattle.st_file.specs.Meanings.{actor_meant, all_of}
use Rattle.st_file.specs.Named.{ActorIsNamed}
use Rattle.st_file.specs.Ranges.{ActorIsInRange, ClientIsInRange}
use Rattle.st_file.specs.Shapes.{actor_in, client_in, edit_in, image_in}
use Rattle.st_file.specs.Tellable.{HasSent}
use Rattle.st_file.proofs.BodyForms.{actors_are_read}
use Rattle.st_file.proofs.EditForms.{edits_are_read}
use Rattle.st_file.proofs.ItemForms.{items_read, texts_read}
use Rattle.st_file.proofs.PlainForms.{actor_plain, actor_whole, each_plain, edit_plain, edit_whole, items_whole, text_plain, texts_whole, IsPlain}
use Rattle.st_file.proofs.ReadAgain.{HasWholeNumbers, read_again}
use Rattle.st_file.proofs.ValueForms.{within_bounds}

-- ---- clients and edits

client_read : (c : ℕ × ℕ) → HasSent c → ClientIsInRange c → client_in (client_json c) ≡ Some c
client_read c sent range = rw (within_bounds 0 65535 c.0 (omega arith) (omega (arith, range.client)), within_bounds 1 (2 ^ 64 - 1) c.1 sent (omega (arith, range.last))) refl

clients_read : (cs : List (ℕ × ℕ)) → All HasSent cs → All ClientIsInRange cs → each_of client_in (items_of (map client_json cs)) ≡ Some cs
clients_read [] sent range = refl
clients_read (c ∷ cs) sent range =
    rw (client_read c (All-head HasSent c cs sent) (All-head ClientIsInRange c cs range), clients_read cs (All-tail HasSent c cs sent) (All-tail ClientIsInRange c cs range)) refl

edits_read : (names : List (List ℕ)) (all es : List Edit) → each_of edit_in (items_of (map (edit_json names all) es)) ≡ Some (map (edit_text names all) es)
edits_read names all [] = refl
edits_read names all (e ∷ es) = rw (edits_are_read names all e, edits_read names all es) refl

-- ---- images

-- what is read of an image's value
pub record ReadsImage (names : List (List ℕ)) (edits : List Edit) (actors : List ActorPart) (clients : List (ℕ × ℕ)) (counts : Counts) (v : Data) : Type 0 where
  pub texts : List ActorText
  pub meant : all_of (actor_meant names edits) texts ≡ Some actors
  pub read : image_in v ≡ Some (record { actors = texts; counts = counts; edits = edit_texts names edits; names = drop 22 names; senders = clients })
  pub format : whole_at (codes "format") 1 2 v ≡ Some 2

pub image_read : (names : List (List ℕ)) (edits : List Edit) (actors : List ActorPart) (clients : List (ℕ × ℕ)) (counts : Counts) → AreNames names → AreLawful edits
    → All (ActorIsNamed names edits) actors → All ActorIsInRange actors → All HasSent clients → All ClientIsInRange clients → CanBeCounted counts
    → ReadsImage names edits actors clients counts (image_json names edits actors clients counts)
image_read names edits actors clients counts are lawful named range sent ranged counted =
    let parts = items_read actor_in (actor_meant names edits) (actor_json names edits) (ActorIsNamed names edits) ActorIsInRange (λ part n r. actors_are_read names edits part are lawful n r) actors named range in
    let posts = within_bounds 0 most_counted counts.posts (omega arith) counted.posts in
    let steps = within_bounds 0 most_counted counts.steps (omega arith) counted.steps in
    record {
      texts = parts.texts;
      meant = parts.meant;
      read = rw (parts.read, edits_read names edits edits, posts, steps, texts_read (drop 22 names), clients_read clients sent ranged) refl;
      format = refl;
    }

-- ---- texts

client_plain : (c : ℕ × ℕ) → IsPlain 1 (client_json c)
client_plain c = record { shallow = omega arith; whole = refl; ordered = refl }

client_whole : (c : ℕ × ℕ) → ClientIsInRange c → HasWholeNumbers (client_json c)
client_whole c range = (omega (arith, range.client), (range.last, tt))

module _ (names : List (List ℕ)) (edits : List Edit) (actors : List ActorPart) (clients : List (ℕ × ℕ)) (counts : Counts) where
  pub image_plain : IsPlain 9 (image_json names edits actors clients counts)
  image_plain =
      let told = each_plain (actor_json names edits) 7 (actor_plain names edits) actors in
      let made = each_plain (edit_json names edits) 3 (edit_plain names edits) edits in
      let called = each_plain string 0 text_plain (drop 22 names) in
      let senders = each_plain client_json 1 client_plain clients in
      record {
        shallow = omega (arith, told.shallow, made.shallow, called.shallow, senders.shallow);
        whole = rw (told.whole, made.whole, called.whole, senders.whole) refl;
        ordered = rw (told.ordered, made.ordered, called.ordered, senders.ordered) refl;
      }

  pub image_text_again : All ActorIsInRange actors → All ClientIsInRange clients → CanBeCounted counts
      → read (compact_text (image_json names edits actors clients counts)) ≡ Some (image_json names edits actors clients counts)
  image_text_again range ranged counted =
      let told = items_whole (actor_json names edits) ActorIsInRange (actor_whole names edits) actors range in
      let made = items_whole (edit_json names edits) (λ e. Unit {0}) (λ e u. edit_whole names edits e) edits (λ k d h. tt) in
      let senders = items_whole client_json ClientIsInRange client_whole clients ranged in
      let plain = image_plain in
      read_again (image_json names edits actors clients counts)
      (told, (made, (omega arith, (texts_whole (drop 22 names), (omega (arith, counted.posts), (senders, (omega (arith, counted.steps), tt)))))))
      plain.ordered (omega (arith, plain.shallow))
