-- What the calls that change an image answer, and what they leave.
use Rattle.std.specs.Prelude.{◌≡◌, ◌⊎◌, ℕ, List, [], ◌∷◌, length, Option, None, Some, Result, Ok, Err, OnErr, IfErr, slice_get}
use Rattle.st_classes.specs.declared.values.ClassId.{ClassId}
use Rattle.st_classes.specs.declared.values.ActorId.{ActorId}
use Rattle.st_classes.specs.declared.values.Selector.{Selector}
use Rattle.st_classes.specs.declared.edits.Edit.{Edit}
use Rattle.st_classes.specs.declared.edits.Edit.TheVariants.{Define, Remove, Reparent}
use Rattle.st_classes.specs.declared.refusals.Refusal.{Refusal}
use Rattle.st_classes.specs.declared.refusals.Refusal.TheVariants.{NoMemory}
use Rattle.st_classes.specs.Names.{interned, intern_rules}
use Rattle.st_classes.specs.Refusals.{Rule, first_of}
use Rattle.st_mailbox.specs.declared.messages.Message.{Message}
use Rattle.st_image.specs.declared.history.Item.{Item}
use Rattle.st_image.specs.declared.history.Item.TheVariants.{Edited, Created, Posted, Closed}
use Rattle.st_image.specs.Images.{ImageView, world, appended, image_define_rules, image_remove_rules, image_reparent_rules, close_rules, create_rules, image_post_rules, accepted_by}
use Rattle.st_image.specs.Installs.{AnswersInstall, LeavesNames}

-- the answer of a call that asks its rules before it takes memory: a value only if no refusal applies; otherwise the first one that
-- applies, or `NoMemory` if none does
abbrev pub AnswersExactly : {T : Type 0} → Option Refusal → Result T Refusal → (T → Type 0) → Type 0
AnswersExactly first (Ok value) P = (first ≡ None) × P value
AnswersExactly first (Err e) P = (first ≡ Some e) ⊎ ((first ≡ None) × (e ≡ NoMemory))

-- an item is appended to the history, and this is the answer of the image after it; a refused call changes nothing
abbrev pub Adds : {T : Type 0} → List Rule → ImageView → Item → (ImageView → T) → Result T Refusal → ImageView → Type 0
Adds rules i item answer result j = AnswersExactly (first_of rules) result
    (λ value. (j ≡ appended i (item ∷ [])) × (value ≡ answer j))
    × OnErr result (j ≡ i)

-- an edit is made, and the answer is the number of edits
abbrev pub Edits : List Rule → Edit → ImageView → Result ℕ Refusal → ImageView → Type 0
Edits rules edit i = Adds rules i (Edited edit) (λ j. length (world j).edits)

-- a class is defined under a superclass; copying its name may run out of memory before any rule is asked
abbrev pub Defines : ImageView → List ℕ → ClassId → List (List ℕ) → Result ℕ Refusal → ImageView → Type 0
Defines i name parent slots result j = ((result ≡ Err NoMemory) × (j ≡ i))
    ⊎ Edits (image_define_rules i name parent slots) (Define name parent slots) i result j

-- a class's own method for a selector is removed
abbrev pub Removes : ImageView → ClassId → Selector → Result ℕ Refusal → ImageView → Type 0
Removes i c s = Edits (image_remove_rules i c s) (Remove c s) i

-- a class gets another superclass
abbrev pub Reparents : ImageView → ClassId → ClassId → Result ℕ Refusal → ImageView → Type 0
Reparents i c parent = Edits (image_reparent_rules i c parent) (Reparent c parent) i

-- a new actor is made, and the answer is its number
abbrev pub Creates : ImageView → ClassId → Result ActorId Refusal → ImageView → Type 0
Creates i c = Adds (create_rules i c) i (Created c) (λ j. record { 0 = length (world i).actors })

-- a message is posted, and the answer is how many messages its actor has accepted
abbrev pub Posts : ImageView → ActorId → Message → Result ℕ Refusal → ImageView → Type 0
Posts i a m = Adds (image_post_rules i a m) i (Posted a m) (λ j. accepted_by (slice_get (world j).actors a.0))

-- a mailbox is closed
abbrev pub Closes : ImageView → ActorId → Result (Unit {0}) Refusal → ImageView → Type 0
Closes i a = Adds (close_rules i (slice_get (world i).actors a.0)) i (Closed a) (λ j. tt)

-- a method is installed; a refused install changes nothing but names
abbrev pub InstallsIn : ImageView → ClassId → List ℕ → Result ℕ Refusal → ImageView → Type 0
InstallsIn i c text result j = AnswersInstall i c text j result
    × IfErr result (λ e. LeavesNames i c text e j × (world j ≡ world i))

-- a text is interned, and the answer is its number; a refused call changes nothing
abbrev pub Interns : ImageView → List ℕ → Result Selector Refusal → ImageView → Type 0
Interns i text result j = AnswersExactly (first_of (intern_rules i.names text)) result
    (λ s. (j ≡ record i { names = interned i.names text }) × (slice_get j.names s.0 ≡ Some text))
    × OnErr result (j ≡ i)
