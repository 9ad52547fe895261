-- What `check` says of an image file.
use Rattle.std.specs.Prelude.{◌≡◌, ℕ, List, length, Result, Ok, Err}
use Rattle.st_classes.specs.declared.refusals.Refusal.{Refusal}
use Rattle.st_classes.specs.Classes.{class_count}
use Rattle.st_image.specs.Images.{ImageView, world}
use Rattle.st_wire.specs.declared.replies.Reply.{Reply}
use Rattle.st_wire.specs.declared.replies.Reply.TheVariants.{Checked, Refused}
use Rattle.st_wire.specs.Replies.{line_of}
use Rattle.st_session.specs.Sessions.{Breaks}

-- how many actors, classes and edits an image has, or why the file has none
abbrev pub checked : Result ImageView Refusal → Reply
checked (Ok i) = Checked (length (world i).actors) (class_count (world i).edits) (length (world i).edits)
checked (Err e) = Refused e

-- the exit status of a check: 0, or 1 if the file has no image
abbrev pub status_of : Result ImageView Refusal → ℕ
status_of (Ok i) = 0
status_of (Err e) = 1

-- the line is written whole and the answer is the status, or the write breaks off
abbrev pub Told : Result ImageView Refusal → List ℕ → Result ℕ Refusal → Type 0
Told loaded written (Ok status) = (written ≡ line_of (checked loaded)) × (status ≡ status_of loaded)
Told loaded written (Err e) = Breaks (line_of (checked loaded)) written e
