use Rattle.std.proofs.Common.{arith, refl, drop}
use Rattle.st_image.proofs.Alls.{begins_whole}
use Rattle.st_image.proofs.fitting.objects.begins_with.Goals as goal

pub returns : goal.returns
returns c =
    let n = c.texts.place in
    (λ e. (drop n c.args.all.now, begins_whole c.args.first.now c.args.all.now n (omega arith) c.texts.invariant), λ h. refl)
