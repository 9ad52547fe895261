use Rattle.std.proofs.Common.{refl}
use Rattle.std.proofs.lemmas.Slice.Eq.{bytes_eq-Decides, slice_eq-Decides}
use Rattle.st_classes.proofs.Refusing.{decided_same}
use Rattle.st_classes.proofs.version.Version.fits_under.Goals as goal

pub returns : goal.returns
returns c = rw (← c.slots.ensures, ← c.inherited.ensures) (decided_same _ _ c.same_texts.ensures (slice_eq-Decides bytes_eq-Decides c.slots.result.now c.inherited.result.now _ refl))
