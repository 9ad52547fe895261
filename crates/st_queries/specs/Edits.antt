-- What is told of edits: what an image file has of them.
use Rattle.std.specs.Prelude.{ℕ, List, length, codes, if◌then◌else◌, nat_lt, option_map, slice_get, Result, Ok, Err}
use Rattle.serde_json.specs.Data.{Data, object, member, no_members}
use Rattle.st_classes.specs.declared.edits.Edit.{Edit}
use Rattle.st_classes.specs.declared.refusals.Refusal.{Refusal}
use Rattle.st_classes.specs.declared.refusals.Refusal.TheVariants.{BadArguments}
use Rattle.st_wire.specs.Replies.{whole}
use Rattle.st_file.specs.EditJson.{edit_json}
use Rattle.st_queries.specs.ActorSnapshots.{so_many}
use Rattle.st_queries.specs.Listing.{listed}

-- the edits behind the first ones, 256 at most, and how many there are in all
abbrev pub edits_behind : List (List ℕ) → List Edit → ℕ → Data
edits_behind names edits from = object
    (member (codes "edits") (listed (λ n. option_map (edit_json names edits) (slice_get edits n)) from (so_many from 256 (length edits)))
    (member (codes "version") (whole (length edits))
    no_members))

-- the first ones are no more than there are
abbrev pub edits_told : List (List ℕ) → List Edit → ℕ → Result Data Refusal
edits_told names edits from = if nat_lt (length edits) from then Err BadArguments else Ok (edits_behind names edits from)
