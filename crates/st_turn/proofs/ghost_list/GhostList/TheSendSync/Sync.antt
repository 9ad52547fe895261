-- A log owns nothing, so threads may share it.
use denote.RattleType.{RattleType}
use denote.Param.Send.{IsSend, IsSync, owning_send, part_keyless, sendable}
use Rattle.st_turn.specs.contracts.ghost_list.GhostList.{the_row, the_type}

owned : (A : RattleType) → IsSend (the_row A)
owned A = owning_send (the_type A) (search sendable, tt) (λ d. tt) (λ k x w. tt)

pub sync : (A : RattleType) → IsSync A → IsSync (the_row A)
sync A s = record { shared = λ x b o κ q. part_keyless (the_row A) (owned A) q x b o }
