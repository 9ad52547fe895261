-- The line of a reply.
use Rattle.std.specs.Prelude.{◌≡◌, ℕ, true, List, [], ◌∷◌, ◌++◌, codes}
use Rattle.serde_json.specs.Data.{Data, null, boolean, number, string, array, object, Items, no_items, item, Members, no_members, member}
use Rattle.serde_json.specs.Find.{of_integer}
use Rattle.serde_json.specs.View.{view}
use Rattle.serde_json.specs.Written.{compact_text}
pub use Rattle.st_wire.specs.Json.{whole, only, ok, comes_first, keys_rise, keys_rise_in_items, keys_rise_in_members}
use Rattle.st_classes.specs.declared.refusals.Refusal.{Refusal}
use Rattle.st_classes.specs.declared.refusals.Refusal.TheVariants.{BadSource, Old, Stale, TooMany, BadImage}
use Rattle.st_wire.specs.declared.replies.Answered.{Answered}
use Rattle.st_wire.specs.declared.replies.Answered.TheVariants.{Int, Bool as Boolean, Nil, Symbol, Class, Actor, Local}
use Rattle.st_wire.specs.declared.replies.SiteState.{SiteState}
use Rattle.st_wire.specs.declared.replies.SiteState.TheVariants.{Empty, Mono, Poly, Mega}
use Rattle.st_wire.specs.declared.replies.SiteReport.{SiteReport}
use Rattle.st_wire.specs.declared.replies.Reply.{Reply}
use Rattle.st_wire.specs.declared.replies.Reply.TheVariants as reply
use Rattle.st_wire.specs.Names.{fault_name, kind_name, limited_name, place_name, refusal_name}

-- a value in an answer
abbrev pub answered_data : Answered → Data
answered_data (Int z) = number (of_integer z)
answered_data (Boolean b) = boolean b
answered_data Nil = null
answered_data (Symbol text) = only (codes "sym") (string text)
answered_data (Class text) = only (codes "class") (string text)
answered_data (Actor a) = only (codes "ref") (whole a.0)
answered_data (Local n) = only (codes "local") (whole n)

-- the states of a site
abbrev pub state_name : SiteState → List ℕ
state_name Empty = codes "empty"
state_name Mono = codes "mono"
state_name Poly = codes "poly"
state_name Mega = codes "mega"

-- the report of a site
abbrev pub site_data : SiteReport → Data
site_data s = object
    (member (codes "global") (whole s.global)
    (member (codes "selector") (string s.selector)
    (member (codes "sends") (whole s.sends)
    (member (codes "site") (whole s.site)
    (member (codes "state") (string (state_name s.state))
    (member (codes "super") (boolean s.is_super)
    (member (codes "walk") (whole s.walk)
    no_members)))))))

-- the reports of sites, in their order
abbrev pub site_items : List SiteReport → Items
site_items [] = no_items
site_items (s ∷ sites) = item (site_data s) (site_items sites)

-- the fields of a refusal
abbrev pub refusal_fields : Refusal → Members
refusal_fields (BadSource kind offset) =
    member (codes "kind") (string (kind_name kind)) (member (codes "offset") (whole offset) no_members)
refusal_fields (Old last) = member (codes "last") (whole last) no_members
refusal_fields (Stale version) = member (codes "version") (whole version) no_members
refusal_fields (TooMany what) = member (codes "what") (string (limited_name what)) no_members
refusal_fields (BadImage place) = member (codes "place") (string (place_name place)) no_members
refusal_fields _ = no_members

-- the value of a reply
abbrev pub reply_data : Reply → Data
reply_data (reply.Version n) = ok (only (codes "version") (whole n))
reply_data (reply.Actor a) = ok (only (codes "actor") (whole a.0))
reply_data (reply.Turn n) = ok (only (codes "turn") (whole n))
reply_data reply.Closed = ok (object no_members)
reply_data (reply.Ran quanta steps) =
    ok (object (member (codes "quanta") (whole quanta) (member (codes "steps") (whole steps) no_members)))
reply_data (reply.Counted posts steps) =
    ok (object (member (codes "posts") (whole posts) (member (codes "steps") (whole steps) no_members)))
reply_data (reply.Saved n) = ok (only (codes "bytes") (whole n))
reply_data (reply.Checked actors classes edits) =
    ok (object
    (member (codes "actors") (whole actors)
    (member (codes "classes") (whole classes)
    (member (codes "edits") (whole edits)
    no_members))))
reply_data (reply.Answer value) = ok (only (codes "answer") (answered_data value))
reply_data (reply.Fault fault) = ok (only (codes "fault") (string (fault_name fault)))
reply_data (reply.Sites sites) = ok (only (codes "sites") (array (site_items sites)))
reply_data (reply.Told told) = view told
reply_data (reply.Refused refusal) =
    object (member (codes "error") (string (refusal_name refusal)) (refusal_fields refusal))

-- the line of a reply: the compact text of its value, and a newline
abbrev pub line_of : Reply → List ℕ
line_of r = compact_text (reply_data r) ++ 10 ∷ []

-- ---- keys in byte order

-- a reply that is written part by part; any other is a value that was made part by part
abbrev pub IsInParts : Reply → Type 0
IsInParts (reply.Told told) = ⊥
IsInParts _ = Unit {0}

-- the keys of every reply that is written part by part are in byte order
abbrev pub RepliesHaveKeysInOrder : Type 0
RepliesHaveKeysInOrder = (r : Reply) → IsInParts r → keys_rise (reply_data r) ≡ true
