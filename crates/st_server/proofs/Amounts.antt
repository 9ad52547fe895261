-- A new image has counted nothing.
use Rattle.std.proofs.Common.{◌≡◌, refl}
use Rattle.st_image.specs.declared.settings.Settings.{Settings}
use Rattle.st_image.specs.Images.{new_image, world_of}
use Rattle.st_calls.specs.Growth.{amounts, no_amounts}

pub new_amounts : (s : Settings) → amounts (new_image s) ≡ no_amounts
unfolding world_of
new_amounts s = refl
