use Rattle.std.proofs.Common.{ℕ, ◌≤◌, ◌+◌, ◌*◌, length, Some, map}
use Rattle.serde_json.specs.Data.{Members}
use Rattle.serde_json.specs.View.{view, members_view}
use Rattle.st_wire.proofs.Fronts.{ItemsGoOn, MembersGoOn}
use Rattle.st_wire.proofs.values.+read.Given as goal

abbrev pub decreases-read_value : goal.decreases-read_value
decreases-read_value l = 2 * length l.reader.now

abbrev pub decreases-read_items : goal.decreases-read_items
decreases-read_items l = 2 * length l.reader.now + 1

abbrev pub decreases-read_members : goal.decreases-read_members
decreases-read_members l = 2 * length l.reader.now + 1

abbrev pub invariant-read_items-items : goal.invariant-read_items-items
invariant-read_items-items l = (n : ℕ) × (length l.reader ≤ n) × ItemsGoOn Some l.depth l.fn.reader (map view l.found.items) n l.reader × (length l.reader ≤ length l.fn.reader)

abbrev pub decreases-read_items-items : goal.decreases-read_items-items
decreases-read_items-items l = length l.reader

abbrev pub invariant-read_members-members : goal.invariant-read_members-members
invariant-read_members-members l = (n : ℕ) × (length l.reader ≤ n) × MembersGoOn l.depth l.fn.reader (members_view l.found.entries) n l.reader × (length l.reader ≤ length l.fn.reader)

abbrev pub decreases-read_members-members : goal.decreases-read_members-members
decreases-read_members-members l = length l.reader
