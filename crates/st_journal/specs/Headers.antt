-- The first line of a journal.
use Rattle.std.specs.Prelude.{ℕ, List, ◌∷◌, ◌++◌, [], codes}
use Rattle.serde_json.specs.Data.{Data, object, string, member, no_members}
use Rattle.serde_json.specs.Written.{compact_text}
use Rattle.st_wire.specs.Replies.{only, whole}

-- which image a journal goes on from, by the digest of its file's text, and the capacity of new mailboxes, which the file does not tell
abbrev pub header_json : List ℕ → ℕ → Data
header_json digest capacity =
    only (codes "journal")
    (object
    (member (codes "capacity") (whole capacity)
    (member (codes "format") (whole 1)
    (member (codes "image") (string digest)
    no_members))))

-- as a line
abbrev pub header_line : List ℕ → ℕ → List ℕ
header_line digest capacity = compact_text (header_json digest capacity) ++ 10 ∷ []
