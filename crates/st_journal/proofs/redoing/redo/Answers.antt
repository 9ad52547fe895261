use Rattle.st_image.proofs.Following.{kept_none}
use Rattle.st_image.specs.Images.{world}
use Rattle.st_journal.proofs.redoing.redo.Goals as goal

pub redo_next-requires : goal.redo_next-requires
redo_next-requires g c = kept_none c.forget.new.self (world c.args.image.now).edits c.forget.ensures.kept
