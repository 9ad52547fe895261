-- The reply to a query.
use Rattle.std.specs.Prelude.{◌≡◌, ◌⊎◌, ℕ, List, Option, Result, Ok, Err}
use Rattle.std.specs.declared.alloc.AllocError.{AllocError}
use Rattle.serde_json.specs.Data.{Data}
use Rattle.serde_json.specs.View.{view}
use Rattle.serde_json.specs.declared.value.Value.{Value}
use Rattle.st_classes.specs.declared.refusals.Refusal.{Refusal}
use Rattle.st_classes.specs.declared.refusals.Refusal.TheVariants.{NoMemory}
use Rattle.st_image.specs.Images.{ImageView}
use Rattle.st_wire.specs.Replies.{ok}
use Rattle.st_wire.specs.declared.queries.Query.{Query}
use Rattle.st_wire.specs.declared.replies.Reply.{Reply}
use Rattle.st_wire.specs.declared.replies.Reply.TheVariants as reply
use Rattle.st_queries.specs.declared.hosts.Host.{Host}
use Rattle.st_queries.specs.Answers.{told_of}
use Rattle.st_queries.specs.Snapshots.{Snapshot, snapshot}

-- a reply says what is told, or that there was no memory to tell it; a refusal stays
abbrev pub Says : Result Data Refusal → Reply → Type 0
Says (Ok d) r = ((v : Value) × (r ≡ reply.Told v) × (view v ≡ ok d)) ⊎ (r ≡ reply.Refused NoMemory)
Says (Err e) r = r ≡ reply.Refused e

-- the reply to a query says what is told of what was seen for it, for some offsets in sources: which these are is said nowhere
abbrev pub TellsOf : Snapshot → Host → Query → Reply → Type 0
TellsOf s host q r = (offsets : List (Option ℕ)) × Says (told_of s host offsets q) r

-- the same; or there was no memory to see it
abbrev pub TellsSeen : Result Snapshot AllocError → Host → Query → Reply → Type 0
TellsSeen (Ok s) host q r = TellsOf s host q r
TellsSeen (Err e) host q r = r ≡ reply.Refused NoMemory

-- the same of an image
abbrev pub Looks : ImageView → Host → Query → Reply → Type 0
Looks i host q r = TellsOf (snapshot i q) host q r ⊎ (r ≡ reply.Refused NoMemory)
