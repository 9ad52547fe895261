use Rattle.std.proofs.Common.{refl, inr, ◌≡◌, ◌↔◌, IsTrue, Bool, true, false}
use Rattle.st_system.proofs.system_worker.SystemWorker.new.Goals as goal

untrue : {P : Type 0} (b : Bool) → (IsTrue b ↔ P) → b ≡ false → ¬ P
untrue {P} b told is_false = λ p. let is_true : b ≡ true = told.1 p in cc

pub returns : goal.returns
returns g c = record {
  claim = refl;
  caches = inr (
    untrue c.keeps_beginning.result c.keeps_beginning.ensures c.if-keeps_beginning.false,
    record {
      sites = c.forget.ensures.emptied.no_site;
      recent = c.forget.ensures.emptied.no_recent;
      kept = c.forget.ensures.kept;
    },
  );
}
