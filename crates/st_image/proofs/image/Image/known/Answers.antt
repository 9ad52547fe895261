use Rattle.std.proofs.Common.{arith, ◌≡◌, length, subst}
use Rattle.st_image.specs.Worlds.{World}
use Rattle.st_image.specs.Images.{world_of}
use Rattle.st_image.specs.WorldInvariant.{IsLawful}
use Rattle.st_image.specs.ActResults.{constants_of}
use Rattle.st_image.proofs.Showing.{count_is}
use Rattle.st_image.proofs.image.Image.known.Goals as goal

pub returns : goal.returns
returns g c =
    let i = c.self.inside in
    let k = c.self.invariant.image in
    let w : World = world_of (constants_of i.names i.settings.capacity) i.base i.history.items in
    let count : length i.actors.list ≡ length w.actors = count_is i.token i.actors.list w k.shows in
    subst IsLawful c.self.view_is (record {
      base = k.base_is;
      senders = k.senders;
      lawful = k.lawful;
      standing = k.world;
      turns = k.turns;
      numbers = k.numbers;
      few_items = k.few_items;
      few_actors = omega (arith, count, c.len.ensures.few);
      counted = record { posts = c.self.invariant.totals.few_posts; steps = c.self.invariant.totals.few_steps };
    })
