use Rattle.std.proofs.Common.{arith, ◌∷◌, [], length-append}
use Rattle.st_guard.proofs.LaterEdits.{valid_later}
use Rattle.st_guard.proofs.invalidation.note.Goals as goal

pub returns-in-Ok-clause-noted : goal.returns-in-Ok-clause-noted
returns-in-Ok-clause-noted g c = λ t es l h. record {
  counted = omega (arith, h.counted, length-append es (c.args.edit.now ∷ []));
  valid = valid_later (g.G.Guard.count c.args.caches.now.guard) (g.G.Guard.count c.note.new.self) (g.G.Guard.floor c.args.caches.now.guard) (g.G.Guard.floor c.note.new.self) c.args.caches.now.sites c.args.caches.now.recent es (c.args.edit.now ∷ []) (c.in-Ok.ensures.covers es l h.valid.covers) h.valid;
}
