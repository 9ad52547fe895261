-- The document of an image, and its clients.
use Rattle.std.proofs.Common.{◌≡◌, ℕ, suc, List, [], ◌∷◌, true, Option, Some, None, Result, Ok, Err, IfOk, option_map, refl, ap, sym, ◌∙◌, codes}
use Rattle.std.specs.Prelude.{All}
use Rattle.std.proofs.lemmas.List.Elements.{All-cons, All-nil}
use Rattle.serde_json.specs.Data.{Data}
use Rattle.st_image.specs.declared.counts.Counts.{Counts}
use Rattle.st_image.specs.WorldInvariant.{AreClientsFrom}
use Rattle.st_image.specs.Worlds.{WorldActor}
use Rattle.st_image.specs.declared.edit_text.EditText.{EditText}
use Rattle.st_wire.specs.Fields.{texts_at, whole_at}
use Rattle.st_wire.specs.Replies.{keys_rise}
use Rattle.st_file.specs.declared.texts.ActorText.{ActorText}
use Rattle.st_file.specs.declared.texts.ImageText.{ImageText}
use Rattle.st_file.specs.Describes.{Describes}
use Rattle.st_file.specs.Shapes.{actor_in, client_in, counts_in, edit_in, image_from, image_in, list_at}
use Rattle.st_file.specs.ImageSnapshots.{ImageSnapshotView}
use Rattle.st_file.specs.Saving.{IsDocument, TellsSnapshot}
use Rattle.st_file.specs.Tellable.{HasSent}

-- a value that says what tells a moment's image describes it
told_describes : (v : Data) (m : ImageSnapshotView) (t : ImageText) → image_in v ≡ Some t → TellsSnapshot m t → Describes v m.names m.base m.counts
told_describes v m t shape tells =
    let edits = m.base.edits in
    record {
      text = t;
      named = record { names = m.names; edits = [] };
      loaded = record { names = m.names; edits = edits };
      parts = tells.parts;
      shape = shape;
      names_load = rw tells.names tells.reloads.named;
      edits_load = rw tells.edits tells.reloads.edited;
      actors = record { meant = tells.actors; fit = tells.fit };
      senders = rw tells.senders tells.in_order;
      names_are = refl;
      world_is = rw tells.senders (ap (λ (actors : List WorldActor). record m.base { actors = actors }) tells.of_parts);
      counts_are = sym tells.counts;
    }

-- the names of what a value says are those at its key
names_from : (actors : Option (List ActorText)) (edits : Option (List EditText)) (counts : Option Counts) (names : Option (List (List ℕ))) (senders : Option (List (ℕ × ℕ))) (t : ImageText) → image_from actors edits counts names senders ≡ Some t → names ≡ Some t.names
names_from (Some a) (Some e) (Some f) (Some n) (Some s) t h = ap (option_map (λ (x : ImageText). x.names)) h
names_from None e f n s t h = cc
names_from (Some a) None f n s t h = cc
names_from (Some a) (Some e) None n s t h = cc
names_from (Some a) (Some e) (Some f) None s t h = cc
names_from (Some a) (Some e) (Some f) (Some n) None t h = cc

told_names : (v : Data) (t : ImageText) → image_in v ≡ Some t → texts_at (codes "names") v ≡ Some t.names
told_names v t h =
    let actors = list_at actor_in (codes "actors") v in
    let edits = list_at edit_in (codes "edits") v in
    let counts = counts_in v in
    let names = texts_at (codes "names") v in
    let senders = list_at client_in (codes "senders") v in
    names_from actors edits counts names senders t h

-- a value that says what tells a moment's image, with its keys in order, is the image's document
pub told_document : (v : Data) (m : ImageSnapshotView) (t : ImageText) → (image_in v ≡ Some t) × (whole_at (codes "format") 1 2 v ≡ Some 2) → keys_rise v ≡ true → TellsSnapshot m t → IsDocument v m
told_document v m t shape ordered tells = record {
  format = shape.1;
  describes = told_describes v m t shape.0 tells;
  names = told_names v t shape.0 ∙ ap Some tells.names;
  ordered = ordered;
}

-- a result that is known in two ways
pub in_both_ways : {T E : Type 0} (r : Result T E) (P Q R : T → Type 0) → ((x : T) → P x → Q x → R x) → IfOk r P → IfOk r Q → IfOk r R
in_both_ways (Ok x) P Q R f p q = f x p q
in_both_ways (Err e) P Q R f p q = tt

-- the clients of a world have sent something
pub clients_have_sent : (least : ℕ) (ps : List (ℕ × ℕ)) → AreClientsFrom least ps → All HasSent ps
clients_have_sent least [] h = All-nil HasSent
clients_have_sent least (p ∷ ps) h = All-cons HasSent p ps h.1 (clients_have_sent (suc p.0) ps h.2)
