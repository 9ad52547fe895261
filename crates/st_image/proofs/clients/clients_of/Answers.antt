use Rattle.std.proofs.Common.{◌∙◌, ◌++◌, ◌∷◌, [], ℕ, List, get_or, ap, sym}
use Rattle.st_image.proofs.ClientLists.{clients_sent, clients_silent}
use Rattle.st_image.proofs.clients.clients_of.Goals.{then-number-gt0+in_ok-push, else-number-gt0}
use Rattle.st_image.proofs.clients.clients_of.Goals as goal

pub loop-client-preserved : goal.loop-client-preserved
loop-client-preserved c = elim c.if-number-gt0.branch [
  | then-number-gt0+in_ok-push w ↦ ap (λ v. v.items) w.clients-is ∙ w.in_ok-push.ensures.items ∙ ap (λ (l : List (ℕ × ℕ)). l ++ (c.loop-client.client, get_or c.args.numbers.now c.loop-client.client 0) ∷ []) c.loop-client.invariant ∙ sym (clients_sent c.args.numbers.now c.loop-client.client 0 c.loop-client-test.true w.if-number-gt0.true)
  | else-number-gt0 w ↦ ap (λ v. v.items) w.clients-is ∙ c.loop-client.invariant ∙ sym (clients_silent c.args.numbers.now c.loop-client.client 0 c.loop-client-test.true w.if-number-gt0.false)
]
