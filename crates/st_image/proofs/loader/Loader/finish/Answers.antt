use Rattle.st_image.proofs.loader.Loader.finish.Goals as goal

pub at_base-requires-clause-senders : goal.at_base-requires-clause-senders
at_base-requires-clause-senders g c =
    let held = c.in-Ok.ensures.ok.1 in
    rw (c.as_slice.ensures.value, c.as_slice-2.ensures.value, ← c.self.view_is) at held

pub at_base-requires-clause-actors : goal.at_base-requires-clause-actors
at_base-requires-clause-actors g c =
    let held = c.in-Ok.ensures.ok.0 in
    rw (c.as_slice.ensures.value, ← c.self.view_is) at held

pub returns-in-Err : goal.returns-in-Err
returns-in-Err g c =
    let refused = c.in-Err.ensures.err c.args.counts in
    rw (c.let_go-in-Err-2.ensures, c.let_go-in-Err.ensures, c.let_go.ensures) (rw (c.as_slice.ensures.value, c.as_slice-2.ensures.value) at refused)
