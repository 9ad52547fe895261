-- The texts of what tells an image's names and history are UTF-8.
use Rattle.std.proofs.Common.{◌≡◌, ℕ, List, [], ◌∷◌, ◌++◌, length, Some, All, slice_get, ap, sym, ◌∙◌, append_assoc}
use Rattle.std.proofs.lemmas.List.Elements.{All-cons, All-map, All-nil}
use Rattle.st_classes.specs.declared.edits.Edit.{Edit}
use Rattle.st_classes.specs.declared.edits.Edit.TheVariants.{Define, Install, Remove, Reparent}
use Rattle.st_classes.specs.EditLists.{AreLawful}
use Rattle.st_classes.specs.Names.{AreNames}
use Rattle.st_classes.proofs.LawLists.{slice_get_here}
use Rattle.st_image.specs.declared.history.Item.{Item}
use Rattle.st_image.specs.declared.history.Item.TheVariants.{Edited, Created, Posted, Closed, Begun, Ran}
use Rattle.st_image.specs.CompiledEdits.{AllCompiled}
use Rattle.st_image.specs.Images.{constants, world}
use Rattle.st_image.specs.Loading.{edit_text}
use Rattle.st_image.specs.RanTargets.{edits_among}
use Rattle.st_image.proofs.GrowingEdits.{replay_edits}
use Rattle.st_file.specs.Tellable.{EditIsText, IsText}
use Rattle.st_file.proofs.AsciiNames.{selector_is_text}
use Rattle.st_file.proofs.TableTexts.{all_there, edit_is_text}
use Rattle.st_journal.specs.declared.entries.Entry.TheVariants as entry
use Rattle.st_journal.specs.Entries.{told, told_edit}
use Rattle.st_journal.specs.EntryForms.{EntryIsText, ToldIsText}

module _ (names : List (List ℕ)) (edits : List Edit) (are : AreNames names) (lawful : AreLawful edits) (compiled : AllCompiled names edits) where
  edit_told : (e : Edit) → EditIsText (edit_text names edits e) → EntryIsText (told_edit e)
  edit_told (Define name parent slots) h = (h.0, h.2)
  edit_told (Install c m) h = h.1
  edit_told (Remove c s) h = tt
  edit_told (Reparent c p) h = tt

  abbrev AreTexts : List Item → Type 0
  AreTexts h = All (λ (x : Item). EntryIsText (told x)) h

  more : (x : Item) (h : List Item) → EntryIsText (told x) → AreTexts h → AreTexts (x ∷ h)
  more x h one rest = All-cons (λ (y : Item). EntryIsText (told y)) x h one rest

  items_told : (before : List Edit) (h : List Item) → edits ≡ before ++ edits_among h → AreTexts h
  items_told before [] is = All-nil (λ (x : Item). EntryIsText (told x))
  items_told before (Edited e ∷ h) is =
      let at : slice_get edits (length before) ≡ Some e = ap (λ (es : List Edit). slice_get es (length before)) is ∙ slice_get_here before e (edits_among h) in
      let text = edit_told e (edit_is_text names edits are lawful compiled (length before) e at) in
      more (Edited e) h text (items_told (before ++ e ∷ []) h (is ∙ sym (append_assoc before (e ∷ []) (edits_among h))))
  items_told before (Created c ∷ h) is = more (Created c) h tt (items_told before h is)
  items_told before (Posted a m ∷ h) is = more (Posted a m) h tt (items_told before h is)
  items_told before (Closed a ∷ h) is = more (Closed a) h tt (items_told before h is)
  items_told before (Begun a ∷ h) is = more (Begun a) h tt (items_told before h is)
  items_told before (Ran a n ∷ h) is = more (Ran a n) h tt (items_told before h is)

pub told_is_text : ToldIsText
told_is_text i are lawful compiled = record {
  names = All-map EntryIsText entry.Name i.names (all_there IsText i.names (λ k text at. selector_is_text text (are.selectors k text at)));
  history = All-map EntryIsText told i.history
      (items_told i.names (world i).edits are lawful.standing.lawful compiled i.base.edits i.history (replay_edits (constants i) i.base (world i) i.history lawful.lawful));
}
