use Rattle.serde_json.proofs.Views.{items_len-items_view}
use Rattle.st_file.proofs.Arrays.{count-array}
use Rattle.st_file.proofs.fields.count.Goals as goal

pub returns-in-Some : goal.returns-in-Some
returns-in-Some c =
    let counted = items_len-items_view c.in-Some.items.now.items in
    let sized = count-array _ _ c.in-Some.ensures in
    let long = c.len.ensures in
    cc
