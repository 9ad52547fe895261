use Rattle.std.proofs.Common.{◌≡◌, ap, sym, ◌∙◌, Some}
use Rattle.st_image.specs.Worlds.{World, client_last}
use Rattle.st_image.specs.Images.{ImageView, world, world_of}
use Rattle.st_image.specs.PostRules.{sender_last as last_of_sender}
use Rattle.st_image.specs.ActResults.{constants_of}
use Rattle.st_image.proofs.ClientNumbers.{kept_last}
use Rattle.st_image.proofs.image.Image.sender_last.Goals as goal

pub returns-in-Client : goal.returns-in-Client
returns-in-Client g c =
    let i = c.self.inside in
    let w : World = world_of (constants_of i.names i.settings.capacity) i.base i.history.items in
    let kept : client_last c.in-Client.client w.clients ≡ c.last.result = kept_last (constants_of i.names i.settings.capacity) i.base w i.history.items i.clients c.in-Client.client c.self.invariant.image.lawful c.self.invariant.numbers_of_clients ∙ sym c.last.ensures in
    ap Some (sym kept ∙ ap (λ (v : ImageView). client_last c.in-Client.client (world v).clients) c.self.view_is) ∙ ap (last_of_sender (world c.args.self.now)) (sym c.in-Client.is)
