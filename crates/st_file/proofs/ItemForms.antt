-- Arrays whose items are read as parts.
use Rattle.std.proofs.Common.{◌≡◌, ℕ, List, [], ◌∷◌, map, Option, Some, All, refl}
use Rattle.std.proofs.lemmas.List.Elements.{All-head, All-tail}
use Rattle.serde_json.specs.Data.{Data, Items, string}
use Rattle.serde_json.specs.View.{items_of}
use Rattle.st_wire.specs.Fields.{each_of, text}
use Rattle.st_file.specs.Forms.{ReadsAs}
use Rattle.st_file.specs.Meanings.{all_of}

-- a form reads texts of the items, and the texts mean the parts
pub record ItemsReadAs {T P : Type 0} (form : Data → Option T) (meaning : T → Option P) (parts : List P) (ds : Items) : Type 0 where
  pub texts : List T
  pub read : each_of form ds ≡ Some texts
  pub meant : all_of meaning texts ≡ Some parts

pub items_read : {T P : Type 0} (form : Data → Option T) (meaning : T → Option P) (json : P → Data) (A B : P → Type 0) → ((x : P) → A x → B x → ReadsAs form meaning x (json x))
    → (xs : List P) → All A xs → All B xs → ItemsReadAs form meaning xs (items_of (map json xs))
items_read form meaning json A B f [] a b = record { texts = []; read = refl; meant = refl }
items_read form meaning json A B f (x ∷ xs) a b =
    let one = f x (All-head A x xs a) (All-head B x xs b) in
    let rest = items_read form meaning json A B f xs (All-tail A x xs a) (All-tail B x xs b) in
    record {
      texts = one.text ∷ rest.texts;
      read = rw (one.read, rest.read) refl;
      meant = rw (one.meant, rest.meant) refl;
    }

-- texts are read as they are
pub texts_read : (ts : List (List ℕ)) → each_of text (items_of (map string ts)) ≡ Some ts
texts_read [] = refl
texts_read (t ∷ ts) = rw (texts_read ts) refl
