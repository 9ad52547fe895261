use Rattle.std.proofs.Common.{arith, rules, refl, ◌≡◌, length, take, drop}
use Rattle.st_classes.proofs.Beginnings.{begins_whole}
use Rattle.st_classes.proofs.same.begins.Goals as goal

pub returns : goal.returns
returns c =
    let n = length c.args.first.now in
    let same : take n c.args.first.now ≡ take n c.args.all.now = search rules in
    (λ e. (drop n c.args.all.now, begins_whole c.args.first.now c.args.all.now n (omega arith) same), λ h. refl)
