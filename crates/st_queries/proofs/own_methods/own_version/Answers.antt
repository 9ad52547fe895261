use Rattle.std.proofs.Common.{◌<◌, length, subst, sym}
use Rattle.st_queries.specs.OwnMethods.{IfUser}
use Rattle.st_queries.proofs.OwnPlaces.{own_within}
use Rattle.st_queries.proofs.own_methods.own_version.Goals as goal

pub version_of-requires : goal.version_of-requires
version_of-requires c =
    let edits = c.args.version.now in
    subst (λ found. IfUser found (λ m. m.0 < length edits)) (sym c.own.ensures) (own_within edits c.args.class c.in-Some.selector)
