use Rattle.serde_json.proofs.Views.{members_len-members_view}
use Rattle.st_wire.proofs.Objects.{size-object}
use Rattle.st_wire.proofs.keys.size.Goals as goal

pub returns-in-Some : goal.returns-in-Some
returns-in-Some c =
    let entries = c.in-Some.members.now.entries in
    let counted = members_len-members_view entries in
    let sized = size-object _ _ (c.in-Some.ensures) in
    let long = c.len.ensures.len in
    cc
