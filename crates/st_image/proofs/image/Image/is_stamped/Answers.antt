use Rattle.std.proofs.Common.{arith, ◌≡◌, ℕ, nat_eq, ap, sym, ◌∙◌}
use Rattle.std.specs.Prelude.{IsTrue}
use Rattle.std.proofs.lemmas.Bool.Decides.{nat_tests}
use Rattle.st_classes.specs.declared.values.ActorId.{ActorId}
use Rattle.st_image.specs.Commits.{changed_at}
use Rattle.st_image.proofs.image.Image.is_stamped.Goals as goal

same_if : (m n : ℕ) → IsTrue (nat_eq m n) → m ≡ n
same_if m n t = grind (arith, nat_tests)

if_same : (m n : ℕ) → m ≡ n → IsTrue (nat_eq m n)
if_same m n e = grind (arith, nat_tests)

pub returns : goal.returns
returns g c =
    let count : c.changed-changed.result ≡ changed_at c.args.self.now c.args.claim.now.actor.0 = c.changed-changed.ensures.count ∙ ap (λ (a : ActorId). changed_at c.args.self.now a.0) c.actor.ensures in
    (λ t. sym c.stamp.ensures ∙ same_if c.stamp.result c.changed-changed.result t ∙ count, λ e. if_same c.stamp.result c.changed-changed.result (c.stamp.ensures ∙ e ∙ sym count))
