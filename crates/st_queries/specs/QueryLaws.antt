-- Laws of what queries answer.
use Rattle.std.specs.Prelude.{◌≡◌, List, option_map}
use Rattle.st_classes.specs.declared.values.ClassId.{ClassId}
use Rattle.st_classes.specs.declared.values.Selector.{Selector}
use Rattle.st_classes.specs.declared.edits.Edit.{Edit}
use Rattle.st_classes.specs.Classes.{chain}
use Rattle.st_classes.specs.Walks.{walk}
use Rattle.st_queries.specs.Answers.{holder_in}

-- `source` tells of the method that a send to an instance of the class runs: the one that the walk up the superclass chain finds
abbrev pub SourceIsRun : Type 0
SourceIsRun = (edits : List Edit) (c : ClassId) (s : Selector)
    → option_map (λ held. held.1) (holder_in edits s (chain edits c)) ≡ walk edits c s
