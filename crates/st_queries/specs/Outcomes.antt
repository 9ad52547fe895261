-- What is told of how a turn ended.
use Rattle.std.specs.Prelude.{ℕ, List, codes}
use Rattle.serde_json.specs.Data.{Data, string}
use Rattle.st_classes.specs.declared.edits.Edit.{Edit}
use Rattle.st_turn.specs.declared.body.Outcome.{Outcome}
use Rattle.st_turn.specs.declared.body.Outcome.TheVariants.{Answer, Fault}
use Rattle.st_wire.specs.Names.{fault_name}
use Rattle.st_wire.specs.Replies.{only}
use Rattle.st_file.specs.ValueJson.{value_json}

-- `{"answer":v}` or `{"fault":t}`
abbrev pub outcome_told : List (List ℕ) → List Edit → Outcome → Data
outcome_told names edits (Answer v) = only (codes "answer") (value_json names edits v)
outcome_told names edits (Fault f) = only (codes "fault") (string (fault_name f))
