-- Why an entry is not done again.
use Rattle.std.specs.Prelude.{◌≡◌, ◌≢◌, ◌⊎◌, ℕ, List, [], ◌∷◌, true, false, Some, slice_get, take}
use Rattle.st_classes.specs.declared.refusals.Refusal.TheVariants.{NoMemory}
use Rattle.st_classes.specs.declared.values.ActorId.{ActorId}
use Rattle.st_classes.specs.declared.values.ClassId.{ClassId}
use Rattle.st_classes.specs.Names.{intern_rules, is_name}
use Rattle.st_classes.specs.Refusals.{Rule, first_of}
use Rattle.st_compile.specs.NeededNames.{interned_all, needed_texts}
use Rattle.st_image.specs.Commits.{checkout_rules, idle_at}
use Rattle.st_image.specs.Images.{ImageView, close_rules, create_rules, image_define_rules, image_post_rules, image_remove_rules, image_reparent_rules, no_room, too_many_steps, world}
use Rattle.st_image.specs.Installs.{RefusesInstall}
use Rattle.st_image.specs.PostRules.{IsClients}
use Rattle.st_mailbox.specs.declared.messages.Message.{Message}
use Rattle.st_reader.specs.Spelling.{Spells}
use Rattle.st_reader.specs.Syntax.{Method}
use Rattle.st_journal.specs.declared.entries.Entry.{Entry}
use Rattle.st_journal.specs.declared.entries.Entry.TheVariants as entry
use Rattle.st_journal.specs.declared.redo_error.RedoError.{RedoError}
use Rattle.st_journal.specs.declared.redo_error.RedoError.TheVariants.{Refused, KnownName, MissingNames, NotOfClient, InTurn, Idle, OtherSteps}
use Rattle.st_journal.specs.declared.redo_error.RefusedEntry.{RefusedEntry}
use Rattle.st_journal.specs.Entries.{LeadsAll}

-- the image refuses by the first of the rules that applies, or for want of memory
abbrev pub OfRules : List Rule → RedoError → Type 0
OfRules rules (Refused e) = (e ≡ NoMemory) ⊎ (first_of rules ≡ Some e)
OfRules rules _ = ⊥

-- a method needs names that are not there
pub record NeedsNames (i : ImageView) (source : List ℕ) : Type 0 where
  pub method : Method
  pub spelled : Spells method source
  pub missing : interned_all i.names (needed_texts method) ≢ i.names

-- why a text is not interned again
abbrev pub RefusesName : ImageView → List ℕ → RedoError → Type 0
RefusesName i text KnownName = is_name i.names text ≡ true
RefusesName i text e = OfRules (intern_rules i.names text) e

-- why a method is not installed again
abbrev pub RefusesMethod : ImageView → ClassId → List ℕ → RedoError → Type 0
RefusesMethod i class source (Refused e) = RefusesInstall i class source e
RefusesMethod i class source MissingNames = NeedsNames i source
RefusesMethod i class source _ = ⊥

-- why a message is not posted again
abbrev pub RefusesMessage : ImageView → ActorId → Message → RedoError → Type 0
RefusesMessage i actor message NotOfClient = IsClients message.sender → ⊥
RefusesMessage i actor message e = OfRules (image_post_rules i actor message) e

-- why a message does not begin again
abbrev pub RefusesTurn : ImageView → ActorId → RedoError → Type 0
RefusesTurn i actor InTurn = idle_at (slice_get (world i).actors actor.0) ≡ false
RefusesTurn i actor e = OfRules (checkout_rules i (slice_get (world i).actors actor.0)) e

-- Why steps are not taken again: the actor is in no turn, or is not there; or it is in one, and takes other steps; or there is no room for
-- them in the history or in the count of steps. Other steps are no steps, those of no lawful history, or such that no commit leaves them,
-- as steps beyond an act; that they are such is not said.
abbrev pub RefusesSteps : ImageView → ActorId → ℕ → RedoError → Type 0
RefusesSteps i actor steps Idle = idle_at (slice_get (world i).actors actor.0) ≡ true
RefusesSteps i actor steps OtherSteps = idle_at (slice_get (world i).actors actor.0) ≡ false
RefusesSteps i actor steps e = OfRules (no_room i 1 ∷ too_many_steps i steps ∷ []) e

-- why an entry is refused, by its kind
abbrev pub Refuses : ImageView → Entry → RedoError → Type 0
Refuses i (entry.Name text) e = RefusesName i text e
Refuses i (entry.Define name parent slots) e = OfRules (image_define_rules i name parent slots) e
Refuses i (entry.Install class source) e = RefusesMethod i class source e
Refuses i (entry.Remove class selector) e = OfRules (image_remove_rules i class selector) e
Refuses i (entry.Reparent class parent) e = OfRules (image_reparent_rules i class parent) e
Refuses i (entry.Created class) e = OfRules (create_rules i class) e
Refuses i (entry.Posted actor message) e = RefusesMessage i actor message e
Refuses i (entry.Closed actor) e = OfRules (close_rules i (slice_get (world i).actors actor.0)) e
Refuses i (entry.Begun actor) e = RefusesTurn i actor e
Refuses i (entry.Ran actor steps) e = RefusesSteps i actor steps e
Refuses i entry.Checkpoint e = e ≡ Refused NoMemory

-- the entries before a place were done, and the image to which they led refuses the one there
pub record StopsAt (i : ImageView) (es : List Entry) (r : RefusedEntry) : Type 0 where
  pub image : ImageView
  pub led : LeadsAll i (take r.place es) image
  pub last : Entry
  pub there : slice_get es r.place ≡ Some last
  pub refused : Refuses image last r.error
