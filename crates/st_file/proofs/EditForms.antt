-- The JSON values of edits are read as their texts.
use Rattle.std.proofs.Common.{refl}
use Rattle.st_classes.specs.declared.edits.Edit.TheVariants.{Define, Install, Remove, Reparent}
use Rattle.st_file.specs.Forms.{EditsAreRead}
use Rattle.st_file.proofs.ItemForms.{texts_read}

pub edits_are_read : EditsAreRead
edits_are_read names edits (Define name parent slots) = rw (texts_read slots) refl
edits_are_read names edits (Install c m) = refl
edits_are_read names edits (Remove c s) = refl
edits_are_read names edits (Reparent c parent) = refl
