-- What an install answers.
use Rattle.std.specs.Prelude.{◌≡◌, ◌⊎◌, ℕ, List, [], ◌∷◌, ◌++◌, length, Bool, true, false, not, Option, Some, None, Result, Ok, Err, is_some}
use Rattle.st_classes.specs.declared.values.ClassId.{ClassId}
use Rattle.st_classes.specs.declared.edits.Edit.TheVariants.{Install}
use Rattle.st_classes.specs.declared.methods.MethodParts.{MethodParts}
use Rattle.st_classes.specs.declared.refusals.Refusal.{Refusal}
use Rattle.st_classes.specs.declared.refusals.Refusal.TheVariants.{UnknownClass, KernelMethod, TooMany, HistoryFull, NoMemory}
use Rattle.st_classes.specs.declared.refusals.Limited.TheVariants.{Names, Edits}
use Rattle.st_classes.specs.Refusals.{Rule, first_of}
use Rattle.st_classes.specs.Kernel.{selector, kernel_selectors, kernel_method}
use Rattle.st_classes.specs.Selectors.{place_of}
use Rattle.st_classes.specs.Classes.{is_class}
use Rattle.st_classes.specs.EditRules.{too_many_edits}
use Rattle.st_reader.specs.Faults.{IsBadSource}
use Rattle.st_reader.specs.Spelling.{Spells}
use Rattle.st_reader.specs.Syntax.{Method}
use Rattle.st_compile.specs.NeededNames.{InternsFirst, interned_all, names_rule, needed_texts}
use Rattle.st_compile.specs.CompileRules.{code_rules}
use Rattle.st_compile.specs.Scopes.{pattern_selector}
use Rattle.st_compile.specs.CompiledMethod.{IsCompiled}
use Rattle.st_image.specs.declared.history.Item.TheVariants.{Edited}
use Rattle.st_image.specs.Images.{ImageView, world, appended, run_rules}

-- the kernel has a method of the class for the selector with this number
abbrev pub has_kernel : ClassId → Option ℕ → Bool
has_kernel c None = false
has_kernel c (Some n) = is_some (kernel_method c (selector n))

-- the kernel has a method of the class for the selector with this text
abbrev pub is_kernel_text : ClassId → List ℕ → Bool
is_kernel_text c text = has_kernel c (place_of kernel_selectors text)

-- the refusals of an install that come before any name is interned
abbrev pub source_rules : ImageView → ClassId → Method → List Rule
source_rules i c method =
    (not (is_class (world i).edits c), UnknownClass)
    ∷ (is_kernel_text c (pattern_selector method.pattern), KernelMethod)
    ∷ code_rules (world i).edits c method

-- the refusals of an install of a text that spells a method, in their order
abbrev pub image_install_rules : ImageView → ClassId → Method → List Rule
image_install_rules i c method = source_rules i c method
    ++ names_rule i.names (needed_texts method)
    ∷ too_many_edits (world i).edits
    ∷ run_rules i

-- the image with the names that the method needs
abbrev pub with_names_of : ImageView → Method → ImageView
with_names_of i method = record i { names = interned_all i.names (needed_texts method) }

-- all of the texts were interned, in order
abbrev pub InternsAll : List (List ℕ) → List (List ℕ) → List (List ℕ) → Type 0
InternsAll names texts after = after ≡ interned_all names texts

-- the text spells a method whose code is accepted, and only names that it needs were added: the first ones, or all
pub record AddsNames (Interned : List (List ℕ) → List (List ℕ) → List (List ℕ) → Type 0)
    (i : ImageView) (c : ClassId) (text : List ℕ) (j : ImageView) : Type 0 where
  pub method : Method
  pub spelled : Spells method text
  pub accepted : first_of (source_rules i c method) ≡ None
  pub interned : Interned i.names (needed_texts method) j.names
  pub only : j ≡ record i { names = j.names }

-- what a refused install leaves, by the refusal: no new names; or the first ones of those that the method needs; or all
abbrev pub LeavesNames : ImageView → ClassId → List ℕ → Refusal → ImageView → Type 0
LeavesNames i c text NoMemory j = (j ≡ i) ⊎ AddsNames InternsFirst i c text j
LeavesNames i c text (TooMany Names) j = AddsNames InternsFirst i c text j × (length j.names ≡ 8192)
LeavesNames i c text (TooMany Edits) j = AddsNames InternsAll i c text j
LeavesNames i c text HistoryFull j = AddsNames InternsAll i c text j
LeavesNames i c text e j = j ≡ i

-- the class has the compiled method; the names that it needs and the edit are added to the image, and only the edit to its world; the
-- answer is the number of edits
pub record Installs (i : ImageView) (c : ClassId) (method : Method) (text : List ℕ) (j : ImageView) (n : ℕ)
    : Type 0 where
  pub parts : MethodParts
  pub compiled : IsCompiled j.names (world i).edits c method text parts
  pub added : j ≡ appended (with_names_of i method) (Edited (Install c parts) ∷ [])
  pub grown : world j ≡ record (world i) { edits = (world i).edits ++ Install c parts ∷ [] }
  pub answer : n ≡ length (world j).edits

-- the text spells no method
abbrev pub IsUnread : List ℕ → Type 0
IsUnread text = (method : Method) → Spells method text → ⊥

-- why an install is refused: the class is unknown; or the text spells no method; or it spells one, and the first refusal of this
-- method applies. `NoMemory` may come in place of any
pub data RefusesInstall (i : ImageView) (c : ClassId) (text : List ℕ) (e : Refusal) : Type 0 where
  memory : e ≡ NoMemory → RefusesInstall i c text e
  unknown : is_class (world i).edits c ≡ false → e ≡ UnknownClass → RefusesInstall i c text e
  unread : is_class (world i).edits c ≡ true → IsUnread text → IsBadSource e → RefusesInstall i c text e
  first : (method : Method) → Spells method text → first_of (image_install_rules i c method) ≡ Some e
      → RefusesInstall i c text e

-- an install answers the number of edits, if the text spells a method and this is installed; otherwise it is refused
abbrev pub AnswersInstall : ImageView → ClassId → List ℕ → ImageView → Result ℕ Refusal → Type 0
AnswersInstall i c text j (Ok n) = (method : Method) × Spells method text
    × (first_of (image_install_rules i c method) ≡ None)
    × Installs i c method text j n
AnswersInstall i c text j (Err e) = RefusesInstall i c text e
