use Rattle.std.proofs.Common.{length, ap, arith}
use Rattle.std.proofs.lemmas.List.{length-map}
use Rattle.st_compile.specs.Scopes.{named}
use Rattle.st_compile.proofs.Spelled.{spelled_few}
use Rattle.st_compile.proofs.scope.Scope.of_method.Goals as goal

pub returns-clause-few : goal.returns-clause-few
returns-clause-few c =
    let t = c.args.tree.now in
    record {
      slots = rw c.slots.ensures (c.known.ensures.few_slots c.args.class);
      locals = omega (arith, length-map (named c.in_ok-locals.locals.items) (λ n. n.text), ap length c.in_ok-locals.ensures, spelled_few t.syntax t.source c.known-2.ensures);
    }
