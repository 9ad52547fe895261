-- Rows of classes in a table.
use Rattle.std.proofs.Common.{arith, ◌≡◌, ◌<◌, ℕ, List, Some, slice_get, length, true}
use borrow.Author.Tests.{ltb-true}
use Rattle.st_classes.specs.declared.values.ClassId.{ClassId}
use Rattle.st_classes.specs.declared.edits.Edit.{Edit}
use Rattle.st_classes.specs.declared.class_rows.ClassRow.{ClassRow}
use Rattle.st_classes.specs.Classes.{class_count, is_class}
use Rattle.st_classes.specs.ClassRows.{IsRow}
use Rattle.st_classes.specs.ClassIndexes.{Naming}
use Rattle.st_classes.specs.Tables.{IsTable}

-- the row at a class's number is the class's
pub row_read : (edits : List Edit) (rows : List ClassRow) (depths : List ℕ) (naming : Naming) → IsTable edits rows depths naming → (c : ClassId) (row : ClassRow) → slice_get rows c.0 ≡ Some row → IsRow edits c row
row_read edits rows depths naming t c row e = t.shown.each c.0 row e

pub class_within : (edits : List Edit) (rows : List ClassRow) (depths : List ℕ) (naming : Naming) → IsTable edits rows depths naming → (c : ClassId) → is_class edits c ≡ true → c.0 < length rows
class_within edits rows depths naming t c i = omega (arith, ltb-true c.0 (class_count edits) i, t.shown.long)
