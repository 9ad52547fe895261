use Rattle.st_wire.proofs.Writing.{added, adds, one}
use Rattle.st_wire.proofs.replies.SiteReport.write.Goals as goal

pub returns : goal.returns
returns c =
    let start = one c.in_ok-begin_object.ensures in
    let global = added start c.in_ok-number_at.ensures in
    let selector = added global c.in_ok-text_at.ensures in
    let sends = added selector c.in_ok-number_at-2.ensures in
    let site = added sends c.in_ok-number_at-3.ensures in
    let state = added site c.in_ok-text_at-2.ensures in
    let key = added state (one c.in_ok-key.ensures) in
    let is_super = added key (one c.in_ok-boolean.ensures) in
    let walk = added is_super c.in_ok-number_at-4.ensures in
    let whole = adds _ _ _ walk (one c.end_object.ensures) in
    rw (c.as_str.ensures, c.name.ensures) at whole
