-- Texts of documents that are read actor by actor.
use Rattle.std.specs.Prelude.{◌≡◌, ◌≤◌, ℕ, List, [], ◌∷◌, length, codes, Option, Some, option_and_then}
use Rattle.json.specs.Token.{Token}
use Rattle.json.specs.Json as json
use Rattle.serde_json.specs.Data.{Data, Items, Members, array, member, no_members}
use Rattle.serde_json.specs.Read.{converted, of_members}
use Rattle.st_classes.specs.declared.edits.Edit.{Edit}
use Rattle.st_image.specs.declared.actor_part.ActorPart.{ActorPart}
use Rattle.st_image.specs.Images.{ImageView}
use Rattle.st_image.specs.Loaded.{AreBaseActors, loaded_image}
use Rattle.st_image.specs.Loading.{LoaderView}
use Rattle.st_wire.specs.Fields.{each_of, text}
use Rattle.st_wire.specs.Tokens.{BeginsWith}
use Rattle.st_file.specs.declared.texts.ImageText.{ImageText}
use Rattle.st_file.specs.Describes.{HasSenderNumbers}
use Rattle.st_file.specs.ImageJson.{document_members}
use Rattle.st_file.specs.Meanings.{actor_meant}
use Rattle.st_file.specs.Shapes.{actor_in, client_in, edit_in}

-- the actor that a JSON value means
abbrev pub actor_by : List (List ℕ) → List Edit → Data → Option ActorPart
actor_by names edits d = option_and_then (actor_meant names edits) (actor_in d)

-- with the members found before, tokens have the members of an object, and nothing follows it
abbrev pub EndsWith : Members → List Token → Members → Type 0
EndsWith found tokens ms = (n : ℕ) → length tokens ≤ n
    → converted (λ js. of_members js found) (json.members (json.value 126) n tokens) ≡ Some (ms, [])

-- behind the actors, tokens tell the other parts of a document, and nothing follows it
pub record TellsRest (tokens : List Token) (t : ImageText) : Type 0 where
  pub edits : Items
  pub names : Items
  pub senders : Items
  pub ends : (actors : Items) → EndsWith (member (codes "actors") (array actors) no_members) tokens
      (document_members actors edits names senders t.counts)
  pub edits_read : each_of edit_in edits ≡ Some t.edits
  pub names_read : each_of text names ≡ Some t.names
  pub senders_read : each_of client_in senders ≡ Some t.senders

-- a text is that of an object that begins with actors, at these tokens
abbrev pub BeginsActors : List Token → List Token → Type 0
BeginsActors all actors = all ≡ Token.begin_object ∷ Token.key (codes "actors") ∷ actors

-- a text tells the parts of a document besides its actors, which are passed
pub record TellsBesides (all : List Token) (t : ImageText) : Type 0 where
  pub actors : List Token
  pub behind : List Token
  pub begins : BeginsActors all actors
  pub skips : json.skip_value 126 actors ≡ Some behind
  pub rest : TellsRest behind t

-- a text tells actors, which mean these parts
pub record TellsActors (all : List Token) (names : List (List ℕ)) (edits : List Edit) (parts : List ActorPart) : Type 0 where
  pub actors : List Token
  pub behind : List Token
  pub items : Items
  pub begins : BeginsActors all actors
  pub reads : BeginsWith 126 actors (array items) behind
  pub meant : each_of (actor_by names edits) items ≡ Some parts

-- the actors of a text and the clients make an image, with names and a class table that are loaded
pub record LoadsBehind (all : List Token) (t : ImageText) (loaded : LoaderView) (i : ImageView) : Type 0 where
  pub parts : List ActorPart
  pub told : TellsActors all loaded.names loaded.edits parts
  pub fit : AreBaseActors loaded.names loaded.edits parts
  pub senders : HasSenderNumbers t loaded parts
  pub image : i ≡ loaded_image loaded.names loaded.edits parts t.senders t.counts
