-- The classes and selectors of what led on from a world are there.
use Rattle.std.proofs.Common.{◌≡◌, [], Option, Some, None, true, not, slice_get, append-nil, sym, subst, refl}
use Rattle.std.specs.Prelude.{is_none}
use Rattle.std.proofs.lemmas.Bool.{and_parts, not-false}
use Rattle.std.proofs.lemmas.Option.{slice_get_within}
use Rattle.st_classes.specs.declared.edits.Edit.{Edit}
use Rattle.st_classes.specs.declared.edits.Edit.TheVariants.{Define, Install, Remove, Reparent}
use Rattle.st_classes.specs.declared.refusals.Refusal.TheVariants.{UnknownClass}
use Rattle.st_classes.specs.Classes.{is_class}
use Rattle.st_classes.specs.EditLists.{AllSuit}
use Rattle.st_classes.specs.EditRules.{edit_rules}
use Rattle.st_classes.specs.MethodSuits.{edit_suits}
use Rattle.st_classes.specs.Refusals.{first_of}
use Rattle.st_classes.proofs.LawLists.{no_rule}
use Rattle.st_turn.specs.BodyFits.{has_instances}
use Rattle.st_mailbox.specs.declared.messages.Message.{Message}
use Rattle.st_image.specs.declared.history.Item.{Item}
use Rattle.st_image.specs.declared.history.Item.TheVariants.{Edited, Created, Posted, Closed, Begun, Ran}
use Rattle.st_image.specs.PostRules.{post_rules}
use Rattle.st_image.specs.Replay.{next, with_new}
use Rattle.st_image.specs.WorldInvariant.{IsWorld}
use Rattle.st_image.specs.Worlds.{Constants, World, WorldActor}
use Rattle.st_image.proofs.Deliveries.{let_through}
use Rattle.st_image.proofs.PostFacts.{may_post, none_from}
use Rattle.st_image.proofs.Reloading.{removed_text}
use Rattle.st_file.specs.Named.{MessageIsNamed}
use Rattle.st_file.proofs.NamedParts.{named_class, named_message}
use Rattle.st_journal.specs.Entries.{told, told_edit}
use Rattle.st_journal.specs.EntryForms.{EntryIsNamed}
use Rattle.st_journal.specs.Marks.{Mark, did, emptied, after}
use Rattle.st_journal.specs.Recovery.{told_mark}

module _ (c : Constants) (w : World) (is_world : IsWorld c w) where
  edit_named : (e : Edit) → first_of (edit_rules w.edits e) ≡ None → EntryIsNamed c.names w.edits (told_edit e)
  edit_named (Define name parent slots) h =
      not-false (is_class w.edits parent) (no_rule (edit_rules w.edits (Define name parent slots)) 0 (not (is_class w.edits parent), UnknownClass) h refl)
  edit_named (Install k m) h = not-false (is_class w.edits k) (no_rule (edit_rules w.edits (Install k m)) 0 (not (is_class w.edits k), UnknownClass) h refl)
  edit_named (Remove k s) h = (
    not-false (is_class w.edits k) (no_rule (edit_rules w.edits (Remove k s)) 0 (not (is_class w.edits k), UnknownClass) h refl),
    slice_get_within c.names s.0 _ (removed_text c.names w.edits [] k s (subst (AllSuit c.names) (sym (append-nil w.edits)) is_world.suited) h),
  )
  edit_named (Reparent k p) h = (
    not-false (is_class w.edits k) (no_rule (edit_rules w.edits (Reparent k p)) 0 (not (is_class w.edits k), UnknownClass) h refl),
    not-false (is_class w.edits p) (no_rule (edit_rules w.edits (Reparent k p)) 1 (not (is_class w.edits p), UnknownClass) h refl),
  )

  posted_named : (m : Message) (o : Option WorldActor) → is_none (first_of (post_rules c.names w o m)) ≡ true → MessageIsNamed c.names w.edits m
  posted_named m None h = cc
  posted_named m (Some b) h = named_message c.names w.edits _ m (may_post c w m b (none_from (first_of (post_rules c.names w (Some b) m)) h)).suits

  item_named : (u : World) (x : Item) → next c w x ≡ Some u → EntryIsNamed c.names w.edits (told x)
  item_named u (Edited e) n =
      let allowed = and_parts (is_none (first_of (edit_rules w.edits e))) (edit_suits c.names w.edits e) (let_through _ _ u n).0 in
      edit_named e (none_from (first_of (edit_rules w.edits e)) allowed.0)
  item_named u (Created k) n = named_class w.edits k (let_through (has_instances w.edits k) (with_new c k w) u n).0
  item_named u (Posted a m) n = posted_named m (slice_get w.actors a.0) (let_through _ _ u n).0
  item_named u (Closed a) n = tt
  item_named u (Begun a) n = tt
  item_named u (Ran a steps) n = tt

  pub mark_named : (u : World) (m : Mark) → after c w m ≡ Some u → EntryIsNamed c.names w.edits (told_mark m)
  mark_named u (did x) e = item_named u x e
  mark_named u emptied e = tt
