use Rattle.std.proofs.Common.{ℕ, ◌≤◌, length}
use Rattle.serde_json.specs.Data.{Members}
use Rattle.st_wire.specs.LineFields.{IsFoundIn}
use Rattle.st_wire.proofs.Fronts.{MembersGoOn}
use Rattle.st_wire.proofs.line_fields.LineFields.read_all.Given as goal

abbrev pub invariant-members : goal.invariant-members
invariant-members l = (n : ℕ) × (length l.reader ≤ n) × (ms : Members) × IsFoundIn l.self ms × MembersGoOn 126 l.fn.reader ms n l.reader

abbrev pub decreases-members : goal.decreases-members
decreases-members l = length l.reader
