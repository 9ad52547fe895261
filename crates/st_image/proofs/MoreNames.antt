-- What fits some names fits more.
use Rattle.std.proofs.Common.{◌≡◌, ℕ, ◌++◌, List, refl, length, true, le_refl}
use Rattle.std.proofs.lemmas.Bool.{and_parts, and_from}
use Rattle.st_classes.specs.declared.values.Value.{Value}
use Rattle.st_classes.specs.declared.edits.Edit.{Edit}
use Rattle.st_classes.specs.declared.edits.Edit.TheVariants.{Define, Install, Remove, Reparent}
use Rattle.st_classes.specs.Classes.{class_count}
use Rattle.st_classes.specs.MethodSuits.{edit_suits}
use Rattle.st_classes.proofs.LawLists.{list_all_weaker}
use Rattle.st_classes.proofs.LawGrowing.{there_grows, extends_more, number_grows, suits_more_names}
use Rattle.st_mailbox.specs.declared.messages.Message.{Message}
use Rattle.st_image.specs.Worlds.{World}
use Rattle.st_image.specs.PostRules.{argument_fits, message_fits, message_suits}

-- ---- tests

-- ---- edits

pub edit_suits_more : (names more : List (List ℕ)) (edits : List Edit) (e : Edit) → edit_suits names edits e ≡ true → edit_suits (names ++ more) edits e ≡ true
edit_suits_more names more edits (Define name parent added) h = refl
edit_suits_more names more edits (Install c m) h = suits_more_names names more edits c m h
edit_suits_more names more edits (Remove c s) h = refl
edit_suits_more names more edits (Reparent c p) h = refl

-- ---- messages

argument_more : (names more : List (List ℕ)) (classes actors : ℕ) (v : Value) → argument_fits names classes actors v ≡ true → argument_fits (names ++ more) classes actors v ≡ true
argument_more names more classes actors v e = there_grows names (names ++ more) classes classes actors actors 0 0 (extends_more names more).long (le_refl classes) (le_refl actors) (le_refl 0) v e

pub fits_more : (names more : List (List ℕ)) (classes actors : ℕ) (m : Message) → message_fits names classes actors m ≡ true → message_fits (names ++ more) classes actors m ≡ true
fits_more names more classes actors m e = let t = and_parts _ _ e in and_from _ _ (number_grows names (names ++ more) (extends_more names more) m.selector (length m.args) t.0) (list_all_weaker _ _ (λ v h. argument_more names more classes actors v h) m.args t.1)

pub message_more : (names more : List (List ℕ)) (w : World) (m : Message) → message_suits names w m ≡ true → message_suits (names ++ more) w m ≡ true
message_more names more w m e = fits_more names more (class_count w.edits) (length w.actors) m e
