-- New actors.
use Rattle.std.proofs.Common.{arith, ◌≡◌, ℕ, ◌<◌, ◌++◌, [], ◌∷◌, List, length, None, true, false, sym, subst, nat_le, replicate}
use Rattle.std.specs.Prelude.{not}
use Rattle.std.proofs.lemmas.Bool.Decides.{nat_tests}
use Rattle.st_classes.specs.declared.values.ClassId.{ClassId}
use Rattle.st_classes.specs.declared.edits.Edit.{Edit}
use Rattle.st_classes.specs.declared.refusals.Refusal.TheVariants.{UnknownClass, KernelClass, TooMany}
use Rattle.st_classes.specs.declared.refusals.Limited.TheVariants.{Actors}
use Rattle.st_classes.specs.Refusals.{Rule, first_of}
use Rattle.st_classes.specs.Classes.{is_class}
use Rattle.st_classes.specs.EditRules.{is_value_class}
use Rattle.st_classes.specs.declared.values.Value.TheVariants.{Nil}
use Rattle.st_turn.specs.declared.body.Body.{Body}
use Rattle.st_turn.specs.declared.body.Phase.TheVariants.{Fresh}
use Rattle.st_turn.specs.BodyFits.{has_instances}
use Rattle.st_image.specs.declared.settings.Settings.{Settings}
use Rattle.st_image.specs.declared.history.Item.{Item}
use Rattle.st_image.specs.declared.history.Item.TheVariants.{Created}
use Rattle.st_image.specs.Worlds.{World}
use Rattle.st_image.specs.Images.{world_of, create_rules, no_room, Standing}
use Rattle.st_image.specs.ActorViews.{ActorView, new_actor_view}
use Rattle.st_image.specs.ImageInvariant.{IsImage}
use Rattle.st_image.specs.ActResults.{constants_of}
use Rattle.st_image.proofs.Showing.{count_is}
use Rattle.st_image.proofs.Lists.{off}
use Rattle.st_image.proofs.Keeping.{created_kept, fresh_body, has_room, has_instances_by}
use Rattle.st_image.proofs.Posting.{seen}

fewer : (m n : ℕ) → nat_le m n ≡ false → n < m
fewer m n h = grind (arith, nat_tests)

pub created : (base : World) (names : List (List ℕ)) (edits : List Edit) (actors actors' : List ActorView) (h : List Item) (made : ℕ) (s : Settings) (from : Standing) (class : ClassId)
    → IsImage base names edits actors h made s → first_of (create_rules (seen base names h s from) class) ≡ None → actors' ≡ actors ++ new_actor_view class s.capacity (fresh_body edits class) ∷ []
    → IsImage base names edits actors' (h ++ Created class ∷ []) made s
created base names edits actors actors' h made s from class k allowed e =
    let w : World = world_of (constants_of names s.capacity) base h in
    let room : List Rule = no_room (seen base names h s from) 1 ∷ [] in
    let few : List Rule = (nat_le 65536 (length w.actors), TooMany Actors) ∷ room in
    let open' : List Rule = (is_value_class class, KernelClass) ∷ few in
    let o1 = off (not (is_class w.edits class)) UnknownClass open' allowed in
    let o2 = off (is_value_class class) KernelClass few o1.1 in
    let o3 = off (nat_le 65536 (length w.actors)) (TooMany Actors) room o2.1 in
    let inst : has_instances edits class ≡ true = subst (λ (es : List Edit). has_instances es class ≡ true) (sym k.shows.edits_are) (has_instances_by w.edits class o1.0 o2.0) in
    (created_kept base names edits actors actors' h made s class k inst (has_room s.history (length h) 1 _ o3.1) e).image

-- there are fewer actors than there may be
pub few_actors : (base : World) (names : List (List ℕ)) (edits : List Edit) (actors : List ActorView) (h : List Item) (made : ℕ) (s : Settings) (from : Standing) (class : ClassId) → IsImage base names edits actors h made s → first_of (create_rules (seen base names h s from) class) ≡ None → length actors < 65536
few_actors base names edits actors h made s from class k allowed =
    let w : World = world_of (constants_of names s.capacity) base h in
    let room : List Rule = no_room (seen base names h s from) 1 ∷ [] in
    let few : List Rule = (nat_le 65536 (length w.actors), TooMany Actors) ∷ room in
    let o1 = off (not (is_class w.edits class)) UnknownClass ((is_value_class class, KernelClass) ∷ few) allowed in
    let o3 = off (nat_le 65536 (length w.actors)) (TooMany Actors) room (off (is_value_class class) KernelClass few o1.1).1 in
    omega (arith, count_is edits actors w k.shows, fewer 65536 (length w.actors) o3.0)

-- the body of a new actor with such instance variables
abbrev pub fresh_with : ClassId → List (List ℕ) → Body
fresh_with c names = record { objects = record { class = c; slots = replicate (length names) Nil } ∷ []; phase = Fresh }
