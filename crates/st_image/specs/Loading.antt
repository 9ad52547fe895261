-- How the names and the class table of a file grow, name by name and edit by edit.
use Rattle.std.specs.Prelude.{◌≡◌, ◌⊎◌, ℕ, List, [], ◌∷◌, ◌++◌, false, Some, None, Result, Ok, Err, drop, length, map, slice_get, unwrap_or}
use Rattle.st_classes.specs.declared.values.ClassId.{ClassId}
use Rattle.st_classes.specs.declared.values.Selector.{Selector}
use Rattle.st_classes.specs.declared.edits.Edit.{Edit}
use Rattle.st_classes.specs.declared.edits.Edit.TheVariants.{Define, Install, Remove, Reparent}
use Rattle.st_classes.specs.declared.methods.MethodParts.{MethodParts}
use Rattle.st_classes.specs.declared.refusals.Refusal.{Refusal}
use Rattle.st_classes.specs.declared.refusals.Refusal.TheVariants.{BadImage, NoMemory}
use Rattle.st_classes.specs.declared.refusals.ImagePlace.TheVariants as place
use Rattle.st_classes.specs.Refusals.{first_of}
use Rattle.st_classes.specs.Kernel.{kernel_selectors, selector}
use Rattle.st_classes.specs.Names.{AreNames, is_name, interned, intern_rules}
use Rattle.st_classes.specs.Selectors.{place_of}
use Rattle.st_classes.specs.Classes.{class_name, class_named}
use Rattle.st_classes.specs.EditLists.{AllSuit, AreLawful}
use Rattle.st_classes.specs.EditRules.{edit_rules}
use Rattle.st_reader.specs.Syntax.{Method}
use Rattle.st_reader.specs.Spelling.{Spells}
use Rattle.st_compile.specs.CompiledMethod.{IsCompiled}
use Rattle.st_compile.specs.CompileRules.{code_rules, method_rules}
use Rattle.st_compile.specs.NeededNames.{InternsFirst, interned_all, needed_texts}
use Rattle.st_image.specs.declared.edit_text.EditText.{EditText}
use Rattle.st_image.specs.declared.edit_text.EditText.TheVariants as text
use Rattle.st_image.specs.CompiledEdits.{AllCompiled}
use Rattle.st_image.specs.Installs.{InternsAll}

-- names, and a list of edits
pub record LoaderView : Type 0 where
  pub names : List (List ℕ)
  pub edits : List Edit

-- what holds of the fields of a loader: the methods suit the names, and are compiled from their sources
pub record HoldsLoader (names : List (List ℕ)) (edits : List Edit) : Type 0 where
  pub suited : AllSuit names edits
  pub compiled : AllCompiled names edits

-- ---- names

-- a name of a file is not known yet and is accepted as a name; it is appended
pub record LoadsName (l : LoaderView) (name : List ℕ) (m : LoaderView) : Type 0 where
  pub new : is_name l.names name ≡ false
  pub allowed : first_of (intern_rules l.names name) ≡ None
  pub added : m ≡ record l { names = interned l.names name }

-- ---- edits

-- an edit that no rule refuses is appended
pub record Accepts (l : LoaderView) (e : Edit) (m : LoaderView) : Type 0 where
  pub allowed : first_of (edit_rules l.edits e) ≡ None
  pub added : m.edits ≡ l.edits ++ e ∷ []

-- a class under the class with this name
pub record LoadsDefine (l : LoaderView) (name parent : List ℕ) (slots : List (List ℕ)) (m : LoaderView) : Type 0 where
  pub above : ClassId
  pub named : class_named l.edits parent ≡ Some above
  pub accepts : Accepts l (Define name above slots) m
  pub names : m.names ≡ l.names

-- a method in a class, compiled at this place of the list; the names that it needs are appended
pub record InstallsTree (l : LoaderView) (holder : ClassId) (method : Method) (source : List ℕ) (m : LoaderView)
    : Type 0 where
  pub parts : MethodParts
  pub accepted : first_of (method_rules l.names l.edits holder method) ≡ None
  pub names : m.names ≡ interned_all l.names (needed_texts method)
  pub compiled : IsCompiled m.names l.edits holder method source parts
  pub accepts : Accepts l (Install holder parts) m

-- the method that a source spells, in the class with this name
pub record InstallsFrom (l : LoaderView) (class source : List ℕ) (m : LoaderView) : Type 0 where
  pub holder : ClassId
  pub method : Method
  pub named : class_named l.edits class ≡ Some holder
  pub spelled : Spells method source
  pub installs : InstallsTree l holder method source m

-- the method of a class for a selector is removed; both are named
pub record LoadsRemove (l : LoaderView) (class name : List ℕ) (m : LoaderView) : Type 0 where
  pub holder : ClassId
  pub number : ℕ
  pub named : class_named l.edits class ≡ Some holder
  pub there : place_of l.names name ≡ Some number
  pub accepts : Accepts l (Remove holder (selector number)) m
  pub names : m.names ≡ l.names

-- a class gets another superclass; both are named
pub record LoadsReparent (l : LoaderView) (class parent : List ℕ) (m : LoaderView) : Type 0 where
  pub moved : ClassId
  pub above : ClassId
  pub named : class_named l.edits class ≡ Some moved
  pub named_above : class_named l.edits parent ≡ Some above
  pub accepts : Accepts l (Reparent moved above) m
  pub names : m.names ≡ l.names

-- by the kind of the edit
abbrev pub LoadsEdit : LoaderView → EditText → LoaderView → Type 0
LoadsEdit l (text.Define name parent slots) m = LoadsDefine l name parent slots m
LoadsEdit l (text.Install class source) m = InstallsFrom l class source m
LoadsEdit l (text.Remove class name) m = LoadsRemove l class name m
LoadsEdit l (text.Reparent class parent) m = LoadsReparent l class parent m

-- texts are loaded, one after the other
abbrev pub LoadsAll : {T : Type 0} → (LoaderView → T → LoaderView → Type 0) → LoaderView → List T → LoaderView → Type 0
LoadsAll step l [] n = n ≡ l
LoadsAll step l (x ∷ xs) n = (m : LoaderView) × step l x m × LoadsAll step m xs n

-- from a table, a text leads to at most one table
abbrev pub LeadsToOne : {T : Type 0} → (LoaderView → T → LoaderView → Type 0) → Type 0
LeadsToOne {T} step = (l : LoaderView) (x : T) (m n : LoaderView) → step l x m → step l x n → m ≡ n

-- ---- answers

-- P holds of no loader
abbrev pub Nowhere : (LoaderView → Type 0) → Type 0
Nowhere P = (m : LoaderView) → P m → ⊥

-- P holds of the new loader; or P holds of none; or memory ran out
abbrev pub AnswersEdit : (LoaderView → Type 0) → LoaderView → Result (Unit {0}) Refusal → Type 0
AnswersEdit P new (Ok _) = P new
AnswersEdit P new (Err e) = (e ≡ NoMemory) ⊎ ((e ≡ BadImage place.Edits) × Nowhere P)

abbrev pub AnswersTree : LoaderView → ClassId → Method → List ℕ → LoaderView → Result (Unit {0}) Refusal → Type 0
AnswersTree old c method source new r = AnswersEdit (InstallsTree old c method source) new r

abbrev pub AnswersName : LoaderView → List ℕ → LoaderView → Result (Unit {0}) Refusal → Type 0
AnswersName old name new (Ok _) = LoadsName old name new
AnswersName old name new (Err e) = (new ≡ old) × ((e ≡ NoMemory) ⊎ ((e ≡ BadImage place.Names) × Nowhere (LoadsName old name)))

-- `NoMemory` stays as it is; any other refusal of an edit becomes that of the file's edits
abbrev pub edits_refusal : Refusal → Refusal
edits_refusal NoMemory = NoMemory
edits_refusal _ = BadImage place.Edits

-- `NoMemory` stays as it is; any other refusal of a name becomes that of the file's names
abbrev pub names_refusal : Refusal → Refusal
names_refusal NoMemory = NoMemory
names_refusal _ = BadImage place.Names

-- ---- what a refused edit leaves

-- the source spells a method, and its code is accepted in the class with this name
pub record HasCode (l : LoaderView) (class source : List ℕ) (method : Method) : Type 0 where
  pub holder : ClassId
  pub named : class_named l.edits class ≡ Some holder
  pub spelled : Spells method source
  pub accepted : first_of (code_rules l.edits holder method) ≡ None

-- only names were added, of such a method: the first ones that it needs, or all
pub record AddsNeeded (Interned : List (List ℕ) → List (List ℕ) → List (List ℕ) → Type 0)
    (l : LoaderView) (class source : List ℕ) (m : LoaderView) : Type 0 where
  pub method : Method
  pub coded : HasCode l class source method
  pub interned : Interned l.names (needed_texts method) m.names
  pub only : m ≡ record l { names = m.names }

-- what a refused install leaves: if memory ran out, no new names, or the first ones of such a method; otherwise no new names if there
-- is no such method, or the first ones if they fill the table, or all
abbrev pub LeavesInstall : LoaderView → List ℕ → List ℕ → Refusal → LoaderView → Type 0
LeavesInstall l class source NoMemory m = (m ≡ l) ⊎ AddsNeeded InternsFirst l class source m
LeavesInstall l class source e m =
    ((m ≡ l) × ((method : Method) → HasCode l class source method → ⊥))
    ⊎ (AddsNeeded InternsFirst l class source m × (length m.names ≡ 8192))
    ⊎ AddsNeeded InternsAll l class source m

-- what a refused edit leaves, by its kind
abbrev pub LeavesEdit : LoaderView → EditText → Refusal → LoaderView → Type 0
LeavesEdit l (text.Install class source) e m = LeavesInstall l class source e m
LeavesEdit l edit e m = m ≡ l

-- ---- tables as texts

-- the name of a class; empty if there is none
abbrev pub class_text : List Edit → ClassId → List ℕ
class_text edits c = unwrap_or (class_name edits c) []

abbrev pub selector_text : List (List ℕ) → Selector → List ℕ
selector_text names s = unwrap_or (slice_get names s.0) []

-- an edit as text, with the names and the classes of a table
abbrev pub edit_text : List (List ℕ) → List Edit → Edit → EditText
edit_text names edits (Define name parent slots) = text.Define name (class_text edits parent) slots
edit_text names edits (Install c m) = text.Install (class_text edits c) m.source
edit_text names edits (Remove c s) = text.Remove (class_text edits c) (selector_text names s)
edit_text names edits (Reparent c p) = text.Reparent (class_text edits c) (class_text edits p)

-- all edits of a table as texts
abbrev pub edit_texts : List (List ℕ) → List Edit → List EditText
edit_texts names edits = map (edit_text names edits) edits

-- a table's names load after the kernel's, then its edits, and this gives the table again
pub record Reloads (names : List (List ℕ)) (edits : List Edit) : Type 0 where
  pub named : LoadsAll LoadsName (record { names = kernel_selectors; edits = [] }) (drop 22 names)
      (record { names = names; edits = [] })
  pub edited : LoadsAll LoadsEdit (record { names = names; edits = [] }) (edit_texts names edits)
      (record { names = names; edits = edits })

-- a table reloads if its edits were accepted, and its methods suit the names and are compiled from their sources
abbrev pub TablesReload : Type 0
TablesReload = (names : List (List ℕ)) (edits : List Edit)
    → AreNames names → AreLawful edits → AllSuit names edits → AllCompiled names edits
    → Reloads names edits
