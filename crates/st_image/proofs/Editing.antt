-- Edits.
use Rattle.std.proofs.Common.{◌≡◌, ℕ, ◌+◌, ◌++◌, [], ◌∷◌, List, length, Some, None, true, refl, ap, sym, ◌∙◌, subst, nat_le}
use Rattle.st_classes.specs.declared.edits.Edit.{Edit}
use Rattle.st_classes.specs.declared.refusals.Refusal.TheVariants.{TooMany}
use Rattle.st_classes.specs.declared.refusals.Limited.TheVariants.{Edits}
use Rattle.st_classes.specs.Refusals.{first_of}
use Rattle.st_classes.specs.EditRules.{edit_rules}
use Rattle.st_classes.specs.MethodSuits.{edit_suits}
use Rattle.st_image.specs.declared.settings.Settings.{Settings}
use Rattle.st_image.specs.declared.history.Item.{Item}
use Rattle.st_image.specs.declared.history.Item.TheVariants.{Edited}
use Rattle.st_image.specs.Worlds.{World}
use Rattle.st_image.specs.Images.{ImageView, constants, world, world_of, appended, edits_made, run_rules, no_room, Standing}
use Rattle.st_image.specs.Replay.{replay}
use Rattle.st_classes.specs.EditLists.{IsSoundEdit}
use Rattle.st_image.specs.ActorViews.{ActorView}
use Rattle.st_image.specs.ActResults.{constants_of}
use Rattle.st_image.specs.ImageInvariant.{IsImage}
use Rattle.st_image.proofs.Lists.{off, off_append}
use Rattle.st_image.proofs.Keeping.{edited_kept, has_room, none_is_none, through}
use Rattle.st_image.proofs.Replays.{lawful_push}
use Rattle.std.proofs.lemmas.Bool.{and_from}
use Rattle.std.specs.Prelude.{◌&&◌, is_none}
use Rattle.st_image.proofs.Posting.{seen}

-- an image after an edit
pub record IsEdited (base : World) (names : List (List ℕ)) (edits : List Edit) (actors : List ActorView) (h : List Item) (made : ℕ) (s : Settings) : Type 0 where
  pub image : IsImage base names edits actors h made s
  pub edits_are : (world_of (constants_of names s.capacity) base h).edits ≡ edits

pub edited : (base : World) (names : List (List ℕ)) (edits edits' : List Edit) (actors : List ActorView) (h : List Item) (made : ℕ) (s : Settings) (from : Standing) (e : Edit)
    → IsImage base names edits actors h made s → IsSoundEdit e → edit_suits names (world_of (constants_of names s.capacity) base h).edits e ≡ true → first_of (edit_rules (world_of (constants_of names s.capacity) base h).edits e ++ run_rules (seen base names h s from)) ≡ None → edits' ≡ (world_of (constants_of names s.capacity) base h).edits ++ e ∷ []
    → IsEdited base names edits' actors (h ++ Edited e ∷ []) (made + 1) s
edited base names edits edits' actors h made s from e k sound suits allowed after =
    let w : World = world_of (constants_of names s.capacity) base h in
    let both = off_append (edit_rules w.edits e) (run_rules (seen base names h s from)) allowed in
    let o = off (nat_le 2048 (edits_made (seen base names h s from))) (TooMany Edits) (no_room (seen base names h s from) 1 ∷ []) both.1 in
    let back : w.edits ≡ edits = sym k.shows.edits_are in
    let suits' : edit_suits names edits e ≡ true = subst (λ (es : List Edit). edit_suits names es e ≡ true) back suits in
    let allowed' : first_of (edit_rules edits e) ≡ None = subst (λ (es : List Edit). first_of (edit_rules es e) ≡ None) back both.0 in
    let r = edited_kept base names edits edits' actors h made (made + 1) s e k sound allowed' suits' (has_room s.history (length h) 1 _ o.1) (after ∙ ap (λ (es : List Edit). es ++ e ∷ []) back) refl in
    record { image = r.image; edits_are = ap (λ (w : World). w.edits) r.world }

-- the world behind an edit more
pub edited_world : (i : ImageView) (e : Edit) → replay (constants i) i.base i.history ≡ Some (world i) → first_of (edit_rules (world i).edits e) ≡ None → edit_suits i.names (world i).edits e ≡ true → world (appended i (Edited e ∷ [])) ≡ record (world i) { edits = (world i).edits ++ e ∷ [] }
edited_world i e lawful allowed suits =
    let w : World = world i in
    let v : World = record w { edits = w.edits ++ e ∷ [] } in
    (lawful_push (constants i) i.base i.history (Edited e) v lawful (through (is_none (first_of (edit_rules w.edits e)) && edit_suits i.names w.edits e) v (and_from (is_none (first_of (edit_rules w.edits e))) (edit_suits i.names w.edits e) (none_is_none (first_of (edit_rules w.edits e)) allowed) suits))).1
