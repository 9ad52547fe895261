-- The sources of installed methods are UTF-8.
use Rattle.std.proofs.Common.{◌≡◌, ℕ, List, Option, Some, None, option_and_then, slice_get, refl}
use Rattle.st_classes.specs.declared.values.ClassId.{ClassId}
use Rattle.st_classes.specs.declared.values.MethodId.{MethodId}
use Rattle.st_classes.specs.declared.methods.MethodParts.{MethodParts}
use Rattle.st_classes.specs.declared.edits.Edit.{Edit}
use Rattle.st_classes.specs.declared.edits.Edit.TheVariants.{Define, Install, Remove, Reparent}
use Rattle.st_classes.specs.EditLists.{installed_method, method_at}
use Rattle.st_image.specs.CompiledEdits.{AllCompiled}
use Rattle.st_file.specs.Tellable.{IsText}
use Rattle.st_file.proofs.SpelledTexts.{spelled_is_ascii}

pub installed_is_text : (names : List (List ℕ)) (edits : List Edit) (place : ℕ) (c : ClassId) (m : MethodParts) → AllCompiled names edits → slice_get edits place ≡ Some (Install c m) → IsText m.source
installed_is_text names edits place c m compiled at = let from = compiled place c m at in spelled_is_ascii from.method m.source from.spelled

pub method_is_text : (names : List (List ℕ)) (edits : List Edit) (id : MethodId) (m : MethodParts) → AllCompiled names edits → method_at edits id ≡ Some m → IsText m.source
method_is_text names edits id m compiled h = by (slice_get edits id.0) refl h
  where
    by : (o : Option Edit) → slice_get edits id.0 ≡ o → option_and_then installed_method o ≡ Some m → IsText m.source
    by None e g = cc
    by (Some (Define name parent slots)) e g = cc
    by (Some (Install c n)) e g = let same : n ≡ m = cc in rw (← same) (installed_is_text names edits id.0 c n compiled e)
    by (Some (Remove c s)) e g = cc
    by (Some (Reparent c p)) e g = cc
