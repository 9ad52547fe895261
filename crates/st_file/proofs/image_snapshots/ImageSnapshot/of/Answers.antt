use Rattle.std.proofs.Common.{sym, ap}
use Rattle.st_image.specs.Images.{counts_of, world}
use Rattle.st_image.specs.Worlds.{World}
use Rattle.st_image.proofs.Rebasing.{rebase_is}
use Rattle.st_file.proofs.image_snapshots.ImageSnapshot.of.Goals as goal

pub invariant_of-result : goal.invariant_of-result
invariant_of-result g c =
    let stands = c.known.ensures.standing in
    let base = c.can_be_base.ensures in
    rw (c.in_ok-names.ensures, c.names.ensures, c.in_ok-table.ensures, c.token.ensures, c.in_ok-parts.ensures, c.in_ok-clients.ensures) (record {
      lawful = stands.lawful;
      suited = stands.suited;
      compiled = c.all_compiled.ensures;
      actors = base.actors;
      senders = base.senders;
      counted = c.counted-counts.ensures.few;
    })

pub returns : goal.returns
returns g c =
    let i = c.args.image.now in
    rw (c.in_ok-names.ensures, c.names.ensures, c.in_ok-table.ensures, c.token.ensures, c.in_ok-parts.ensures, c.in_ok-clients.ensures, c.counted-counts.ensures.counts)
    (ap (λ (w : World). record { names = i.names; base = w; counts = counts_of i }) (sym (rebase_is (world i))))
