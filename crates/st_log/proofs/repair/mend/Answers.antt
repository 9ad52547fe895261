use Rattle.std.proofs.Common.{◌≡◌, ℕ, List, arith}
use Rattle.st_log.specs.Lines.{whole_lines}
use Rattle.st_log.proofs.Moments.{both, weaker}
use Rattle.st_log.proofs.Mending.{cut_crash, cut_is, end_crash, end_is, end_within, mended_fits, mended_is, mended_same}
use Rattle.st_log.proofs.repair.mend.Goals as goal

pub truncate_synced-requires-clause-len : goal.truncate_synced-requires-clause-len
truncate_synced-requires-clause-len g c =
    end_within (g.D.Device.contents c.args.device.now) c.args.end c.requires.end

pub returns-in_err-truncate_synced-clause-same : goal.returns-in_err-truncate_synced-clause-same
returns-in_err-truncate_synced-clause-same g c =
    cut_crash (g.D.Device.contents c.args.device.now) c.args.end c.requires.end _ c.in_err-truncate_synced.ensures.torn

pub returns-in_err-truncate_synced-clause-any_moment : goal.returns-in_err-truncate_synced-clause-any_moment
returns-in_err-truncate_synced-clause-any_moment g c =
    let file = g.D.Device.contents c.args.device.now in
    weaker g.D.Device.moment g.D.Device.left_since c.args.device.now c.truncate_synced.new.device _ (λ f. whole_lines f ≡ whole_lines file) c.truncate_synced.ensures.any_moment
    (cut_crash file c.args.end c.requires.end)

pub write_synced-requires-clause-at : goal.write_synced-requires-clause-at
write_synced-requires-clause-at g c =
    let file = g.D.Device.contents c.args.device.now in
    let is = cut_is file _ _ c.requires.end c.in_ok-truncate_synced.ensures.truncated in
    omega (arith, end_is file _ _ c.requires.end is)

pub returns-in_err-write_synced-clause-same : goal.returns-in_err-write_synced-clause-same
returns-in_err-write_synced-clause-same g c =
    let file = g.D.Device.contents c.args.device.now in
    let is = cut_is file _ _ c.requires.end c.in_ok-truncate_synced.ensures.truncated in
    end_crash file _ _ (end_is file _ _ c.requires.end is) is _ c.in_err-write_synced.ensures.torn

pub returns-in_err-write_synced-clause-any_moment : goal.returns-in_err-write_synced-clause-any_moment
returns-in_err-write_synced-clause-any_moment g c =
    let file = g.D.Device.contents c.args.device.now in
    let P : List ℕ → Type 0 = λ f. whole_lines f ≡ whole_lines file in
    let is = cut_is file _ _ c.requires.end c.in_ok-truncate_synced.ensures.truncated in
    both g.D.Device.moment g.D.Device.left_since _ _ _ P
    (weaker g.D.Device.moment g.D.Device.left_since c.args.device.now c.truncate_synced.new.device _ P c.truncate_synced.ensures.any_moment (cut_crash file c.args.end c.requires.end))
    (weaker g.D.Device.moment g.D.Device.left_since c.truncate_synced.new.device c.write_synced.new.device _ P c.write_synced.ensures.any_moment (end_crash file _ _ (end_is file _ _ c.requires.end is) is))

pub returns-clause-mended : goal.returns-clause-mended
returns-clause-mended g c =
    let file = g.D.Device.contents c.args.device.now in
    let is = cut_is file _ _ c.requires.end c.in_ok-truncate_synced.ensures.truncated in
    mended_is file _ _ _ (end_is file _ _ c.requires.end is) is c.in_ok-write_synced.ensures.written

pub returns-clause-fits : goal.returns-clause-fits
returns-clause-fits g c =
    let file = g.D.Device.contents c.args.device.now in
    let is = cut_is file _ _ c.requires.end c.in_ok-truncate_synced.ensures.truncated in
    let ends = end_is file _ _ c.requires.end is in
    mended_fits file _ _ _ ends is (mended_is file _ _ _ ends is c.in_ok-write_synced.ensures.written) c.in_ok-write_synced.ensures.fits

pub returns-clause-same : goal.returns-clause-same
returns-clause-same g c =
    let file = g.D.Device.contents c.args.device.now in
    let is = cut_is file _ _ c.requires.end c.in_ok-truncate_synced.ensures.truncated in
    mended_same file _ (mended_is file _ _ _ (end_is file _ _ c.requires.end is) is c.in_ok-write_synced.ensures.written)

pub returns-clause-any_moment : goal.returns-clause-any_moment
returns-clause-any_moment g c =
    let file = g.D.Device.contents c.args.device.now in
    let P : List ℕ → Type 0 = λ f. whole_lines f ≡ whole_lines file in
    let is = cut_is file _ _ c.requires.end c.in_ok-truncate_synced.ensures.truncated in
    both g.D.Device.moment g.D.Device.left_since _ _ _ P
    (weaker g.D.Device.moment g.D.Device.left_since c.args.device.now c.truncate_synced.new.device _ P c.truncate_synced.ensures.any_moment (cut_crash file c.args.end c.requires.end))
    (weaker g.D.Device.moment g.D.Device.left_since c.truncate_synced.new.device c.write_synced.new.device _ P c.write_synced.ensures.any_moment (end_crash file _ _ (end_is file _ _ c.requires.end is) is))
