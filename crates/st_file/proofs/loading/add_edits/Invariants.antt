use Rattle.st_image.specs.Loading.{LoadsEdit}
use Rattle.st_image.proofs.LoadingAll.{Goes}
use Rattle.st_file.proofs.loading.add_edits.Given as goal

abbrev pub invariant-loop-edit : goal.invariant-loop-edit
invariant-loop-edit l = Goes LoadsEdit l.initial.loader l.loader l.edits l.edit-index
