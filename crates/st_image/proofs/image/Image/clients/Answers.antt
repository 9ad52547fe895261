use Rattle.std.proofs.Common.{◌≡◌, ap, ◌∙◌}
use Rattle.st_image.specs.Worlds.{World}
use Rattle.st_image.specs.Images.{ImageView, world, world_of}
use Rattle.st_image.specs.Clients.{clients_from}
use Rattle.st_image.specs.ActResults.{constants_of}
use Rattle.st_image.proofs.ClientLists.{kept_list}
use Rattle.st_image.proofs.image.Image.clients.Goals as goal

pub returns : goal.returns
returns g c =
    let i = c.self.inside in
    let k = c.self.invariant in
    let w : World = world_of (constants_of i.names i.settings.capacity) i.base i.history.items in
    let same : clients_from 0 i.clients ≡ (world c.args.self.now).clients = kept_list (constants_of i.names i.settings.capacity) i.base w i.history.items i.clients k.image.lawful k.numbers_of_clients k.image.world.clients ∙ ap (λ (v : ImageView). (world v).clients) c.self.view_is in
    rw (← same) c.list.ensures
