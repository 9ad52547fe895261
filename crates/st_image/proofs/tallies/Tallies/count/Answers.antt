use Rattle.std.proofs.Common.{arith}
use Rattle.st_image.proofs.Tallying.{most_sends}
use Rattle.st_image.proofs.tallies.Tallies.count.Goals as goal

pub count_act-requires-clause-few : goal.count_act-requires-clause-few
count_act-requires-clause-few c = omega (arith, c.requires.few c.in-Some.site, most_sends c.args.self.now c.count_sends.new.self c.args.sends.now.items c.in-Some.site c.count_sends.ensures.tallied)
