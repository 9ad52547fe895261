use Rattle.std.proofs.Common.{◌≡◌, take}
use Rattle.st_classes.specs.Methods.{send_places}
use Rattle.st_compile.proofs.sites.sites_of.Given as goal

abbrev pub invariant-loop-place : goal.invariant-loop-place
invariant-loop-place l = l.sites.items ≡ send_places 0 (take l.place l.code)
