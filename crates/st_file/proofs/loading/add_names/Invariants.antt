use Rattle.st_image.specs.Loading.{LoadsName}
use Rattle.st_image.proofs.LoadingAll.{Goes}
use Rattle.st_file.proofs.loading.add_names.Given as goal

abbrev pub invariant-loop-name : goal.invariant-loop-name
invariant-loop-name l = Goes LoadsName l.initial.loader l.loader l.names l.name-index
