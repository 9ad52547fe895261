-- How one image goes on in another, and what stays true of a claim as it does.
use Rattle.st_classes.specs.EditLists.{Begins}
use Rattle.st_turn.specs.Claims.{ClaimView}
use Rattle.st_image.specs.Images.{ImageView, world}
use Rattle.st_image.specs.Commits.{BodiesLast, KnowsBody}

-- the edits of a claim are a prefix of the class table's, and its stamp identifies its body
pub record FitsClaim (i : ImageView) (c : ClaimView) : Type 0 where
  pub edits : Begins c.edits (world i).edits
  pub body : KnowsBody i c

-- an image goes on in another: its edits are a prefix of the other's, and bodies that were not changed are the same
pub record GoesOnIn (i j : ImageView) : Type 0 where
  pub edits : Begins (world i).edits (world j).edits
  pub bodies : BodiesLast i j
