use Rattle.std.proofs.Common.{arith, refl, sym}
use Rattle.st_image.proofs.Beginning.{new_is, settings_are}
use Rattle.st_classes.specs.Kernel.{kernel_selectors}
use Rattle.st_image.specs.Worlds.{start}
use Rattle.st_image.proofs.Acts.{kept_is}
use Rattle.st_image.proofs.Sends.{sends_new}
use Rattle.st_image.proofs.ChangeBounds.{fits_loaded}
use Rattle.st_image.proofs.CompiledEdits.{none_compiled}
use Rattle.st_image.proofs.image.Image.new.Goals as goal

pub invariant_of-result : goal.invariant_of-result
invariant_of-result g c = rw (c.new.ensures, c.in_ok-first.ensures.table, c.in_ok-first.ensures.token, c.in_ok-first.ensures.names, kept_is _ _ c.new-2.ensures, c.new-3.ensures, c.new-4.ensures.items, c.new-5.ensures, c.new-6.ensures, c.counted.ensures, c.in_ok-failures.ensures) (record { image = new_is c.args.settings (settings_are c.args.settings (sym c.in_default.ensures)); numbers_of_clients = λ s. refl; sends = sends_new kernel_selectors start c.args.settings; counts = λ a. refl; totals = record { counts = refl; few_posts = omega arith; few_steps = omega arith }; compiled = none_compiled kernel_selectors; before = fits_loaded (record { posts = 0; steps = 0 }) start; failures = refl })
