-- Sources of installed methods.
use Rattle.std.specs.Prelude.{ℕ, List, [], option_map, unwrap_or}
use Rattle.st_classes.specs.declared.edits.Edit.{Edit}
use Rattle.st_classes.specs.EditLists.{method_at}
use Rattle.st_classes.specs.Walks.{method_id}

-- the source of the method at a place; empty if nothing was installed there
abbrev pub source_at : List Edit → ℕ → List ℕ
source_at edits place = unwrap_or (option_map (λ m. m.source) (method_at edits (method_id place))) []
