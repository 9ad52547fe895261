-- What a query answers: a plain function of the image.
use Rattle.std.specs.Prelude.{◌≡◌, ℕ, ◌+◌, ◌==◌, List, [], ◌∷◌, length, drop, Bool, true, false, Option, Some, None, option_map, codes, slice_get, ok_or, if◌then◌else◌, Result, Ok, Err}
use Rattle.std.specs.List.{list_any}
use Rattle.serde_json.specs.Data.{Data, null, boolean, string, object, member, no_members}
use Rattle.serde_json.specs.View.{view}
use Rattle.serde_json.specs.declared.value.Value.{Value}
use Rattle.st_classes.specs.declared.values.ClassId.{ClassId}
use Rattle.st_classes.specs.declared.values.Selector.{Selector}
use Rattle.st_classes.specs.declared.edits.Edit.{Edit}
use Rattle.st_classes.specs.declared.edits.Edit.TheVariants.{Install, Remove}
use Rattle.st_classes.specs.declared.instructions.Instruction.{Instruction}
use Rattle.st_classes.specs.declared.instructions.Instruction.TheVariants.{Send, SuperSend}
use Rattle.st_classes.specs.declared.methods.MethodParts.{MethodParts}
use Rattle.st_classes.specs.declared.kernel.Found.{Found}
use Rattle.st_classes.specs.declared.kernel.Found.TheVariants.{User, Kernel as FoundKernel}
use Rattle.st_classes.specs.declared.refusals.Refusal.{Refusal}
use Rattle.st_classes.specs.declared.refusals.Refusal.TheVariants.{NoMemory, NoSuchMethod, UnknownActor}
use Rattle.st_classes.specs.Classes.{chain, class_count, inherited, parent, slots}
use Rattle.st_classes.specs.EditLists.{method_at}
use Rattle.st_classes.specs.Kernel.{class, selector}
use Rattle.st_classes.specs.Walks.{is_at, method_id, own}
use Rattle.st_image.specs.Images.{ImageView}
use Rattle.st_image.specs.Loading.{class_text, selector_text}
use Rattle.st_wire.specs.Replies.{only, whole}
use Rattle.st_wire.specs.declared.queries.Query.{Query}
use Rattle.st_wire.specs.declared.queries.Query.TheVariants as query
use Rattle.st_file.specs.ListJson.{texts}
use Rattle.st_queries.specs.declared.hosts.Host.{Host}
use Rattle.st_queries.specs.Actors.{actors_told}
use Rattle.st_queries.specs.Edits.{edits_told}
use Rattle.st_queries.specs.FailedTurns.{faults_told}
use Rattle.st_queries.specs.Failing.{ending_told}
use Rattle.st_queries.specs.Inspecting.{inspected_told}
use Rattle.st_queries.specs.Listing.{listed}
use Rattle.st_queries.specs.OwnMethods.{method_count, standing}
use Rattle.st_queries.specs.Resolving.{and_then, class_in, selector_in}
use Rattle.st_queries.specs.Snapshots.{Snapshot, snapshot}
use Rattle.st_queries.specs.Sources.{source_at}
use Rattle.st_queries.specs.Status.{status_told}
use Rattle.st_queries.specs.MethodNames.{method_named}

-- ---- classes

-- the superclass's name, or null
abbrev pub parent_told : List Edit → Option ClassId → Data
parent_told edits None = null
parent_told edits (Some p) = string (class_text edits p)

-- the instance variables that a class adds to the inherited ones
abbrev pub added_slots : List Edit → ClassId → List (List ℕ)
added_slots edits c = drop (length (inherited edits c)) (slots edits c)

-- a class, by its number
abbrev pub class_told : List Edit → ClassId → Data
class_told edits c = object
    (member (codes "methods") (whole (method_count edits c))
    (member (codes "name") (string (class_text edits c))
    (member (codes "slots") (texts (added_slots edits c))
    (member (codes "super") (parent_told edits (parent edits c))
    no_members))))

-- all classes, by their numbers
abbrev pub classes_told : List Edit → Data
classes_told edits = only (codes "classes") (listed (λ n. Some (class_told edits (class n))) 0 (class_count edits))

-- ---- methods

-- the version at which an install or removal was accepted: its place in the edits plus one
abbrev pub version_of : ℕ → Data
version_of place = whole (place + 1)

-- a method of a class's own
abbrev pub method_told : List (List ℕ) → Selector → Found → Data
method_told names s (User m) = object
    (member (codes "selector") (string (selector_text names s))
    (member (codes "version") (version_of m.0)
    no_members))
method_told names s (FoundKernel k) = object
    (member (codes "kernel") (boolean true)
    (member (codes "selector") (string (selector_text names s))
    no_members))

-- a class's own methods, by the numbers of their selectors
abbrev pub methods_told : List (List ℕ) → List Edit → ClassId → Data
methods_told names edits c = only (codes "methods")
    (listed (λ n. option_map (method_told names (selector n)) (own edits c (selector n))) 0 (length names))

-- ---- what a send runs

-- a method, and the class that has it
abbrev pub source_of : List Edit → ClassId × Found → Data
source_of edits (c, User m) = object
    (member (codes "class") (string (class_text edits c))
    (member (codes "source") (string (source_at edits m.0))
    (member (codes "version") (version_of m.0)
    no_members)))
source_of edits (c, FoundKernel k) = object
    (member (codes "class") (string (class_text edits c))
    (member (codes "kernel") (boolean true)
    no_members))

-- the first of these classes that has a method of its own, with that method
abbrev pub holder_in : List Edit → Selector → List ClassId → Option (ClassId × Found)
holder_in edits s [] = None
holder_in edits s (c ∷ cs) = or_else_by (option_map (λ found. (c, found)) (own edits c s)) (holder_in edits s cs)
  where
    or_else_by : Option (ClassId × Found) → Option (ClassId × Found) → Option (ClassId × Found)
    or_else_by None later = later
    or_else_by (Some first) later = Some first

-- what a send to an instance of a class runs: the method of the first class on its chain that has one
abbrev pub source_told : List Edit → ClassId → Selector → Result Data Refusal
source_told edits c s = ok_or (option_map (source_of edits) (holder_in edits s (chain edits c))) NoSuchMethod

-- ---- versions

-- an install, by its source and its place
abbrev pub install_told : List ℕ → ℕ → Data
install_told source place = object
    (member (codes "source") (string source)
    (member (codes "version") (version_of place)
    no_members))

-- a removal, by its place
abbrev pub removal_told : ℕ → Data
removal_told place = object
    (member (codes "removed") (boolean true)
    (member (codes "version") (version_of place)
    no_members))

-- an install or removal of a class's own method for a selector, if the edit at a place is one
abbrev pub version_told : ClassId → Selector → ℕ → Option Edit → Option Data
version_told c s place (Some (Install d m)) = if is_at d m.selector c s then Some (install_told m.source place) else None
version_told c s place (Some (Remove d t)) = if is_at d t c s then Some (removal_told place) else None
version_told c s place _ = None

-- every install and removal there, the oldest first
abbrev pub versions_told : List Edit → ClassId → Selector → Data
versions_told edits c s = only (codes "versions") (listed (λ place. version_told c s place (slice_get edits place)) 0 (length edits))

-- ---- implementors and senders

-- the classes that have a method of their own for a selector, by their numbers
abbrev pub implementors_told : List Edit → Selector → Data
implementors_told edits s = only (codes "classes")
    (listed (λ n. option_map (λ found. string (class_text edits (class n))) (own edits (class n) s)) 0 (class_count edits))

-- an instruction sends a selector, or super sends it
abbrev pub is_send_of : Selector → Instruction → Bool
is_send_of s (Send t n) = t.0 == s.0
is_send_of s (SuperSend t n) = t.0 == s.0
is_send_of s _ = false

-- the method of an install that stands, if it sends the selector
abbrev pub sender_at : List (List ℕ) → List Edit → Selector → Option ClassId → Option MethodParts → Option Data
sender_at names edits s (Some c) (Some m) = if list_any (is_send_of s) m.code then Some (method_named names edits c m.selector) else None
sender_at names edits s _ _ = None

-- the installed methods that send a selector, by their versions
abbrev pub senders_told : List (List ℕ) → List Edit → Selector → Data
senders_told names edits s = only (codes "methods")
    (listed (λ place. sender_at names edits s (standing edits place) (method_at edits (method_id place))) 0 (length edits))

-- ---- all queries

-- what is told of what is seen of an image; names are looked up and not interned, and a class before a selector. The offsets are those
-- that are told of the frames of a turn that failed
abbrev pub told_of : Snapshot → Host → List (Option ℕ) → Query → Result Data Refusal
told_of s host offsets query.Classes = Ok (classes_told s.edits)
told_of s host offsets (query.Methods class) = and_then (λ c. Ok (methods_told s.names s.edits c)) (class_in s.edits class)
told_of s host offsets (query.Source class text) =
    and_then (λ c. and_then (source_told s.edits c) (selector_in s.names text)) (class_in s.edits class)
told_of s host offsets (query.Versions class text) =
    and_then (λ c. and_then (λ t. Ok (versions_told s.edits c t)) (selector_in s.names text)) (class_in s.edits class)
told_of s host offsets (query.Implementors text) = and_then (λ t. Ok (implementors_told s.edits t)) (selector_in s.names text)
told_of s host offsets (query.Senders text) = and_then (λ t. Ok (senders_told s.names s.edits t)) (selector_in s.names text)
told_of s host offsets (query.Edits from) = edits_told s.names s.edits from
told_of s host offsets (query.Actors from most) = Ok (actors_told s from)
told_of s host offsets (query.Inspect a) = ok_or (option_map (inspected_told s.names s.edits) s.inspected) UnknownActor
told_of s host offsets (query.Fault a turn) = ending_told s.names s.edits offsets s.ending
told_of s host offsets (query.Faults after) = Ok (faults_told s.failed s.counts.steps)
told_of s host offsets query.Status = Ok (status_told s host)

-- what a query answers: what is told of what is seen of the image for it
abbrev pub told : ImageView → Host → List (Option ℕ) → Query → Result Data Refusal
told i host offsets q = told_of (snapshot i q) host offsets q

-- the answer is that; memory can run out only where something is told
abbrev pub IsAnswer : Result Data Refusal → Result Value Refusal → Type 0
IsAnswer (Ok d) (Ok v) = view v ≡ d
IsAnswer (Ok d) (Err e) = e ≡ NoMemory
IsAnswer (Err e) r = r ≡ Err e

-- the answer is that for some offsets: which these are is said nowhere
abbrev pub IsAnswerForSome : (List (Option ℕ) → Result Data Refusal) → Result Value Refusal → Type 0
IsAnswerForSome told r = (offsets : List (Option ℕ)) × IsAnswer (told offsets) r
