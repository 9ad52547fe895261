-- What a crash leaves while a log is recovered.
use Rattle.std.proofs.Common.{◌≡◌, inl, inr, ℕ, List, refl, ◌∙◌, ap}
use Rattle.st_log.specs.Device.{CrashesLeave, Elapses, IsDurable}
use Rattle.st_log.specs.Lines.{whole_lines}
use Rattle.st_log.specs.Logs.{HasOldLines}
use Rattle.st_log.proofs.Moments.{both, goes_on, started, weaker}

module _ {D : Type 0} (contents : D → List ℕ) (may_leave : D → List ℕ → Type 0) (moment : D → ℕ) (left_since : D → ℕ → List ℕ → Type 0) where
  -- the sync
  pub first_sync : (old new : D) → ((c : List ℕ) → left_since old (moment old) c → may_leave old c)
      → Elapses (moment old) (moment new) (left_since old) (left_since new) (may_leave new) → ((c : List ℕ) → may_leave new c → may_leave old c)
      → CrashesLeave moment left_since old new (HasOldLines contents may_leave old)
  first_sync old new only_now time crash =
      goes_on moment left_since old old new (HasOldLines contents may_leave old) (may_leave new)
      (started moment left_since old (HasOldLines contents may_leave old) (λ c left. inr (c, only_now c left, refl)))
      time (λ c now. inr (c, crash c now, refl))

  -- and a read behind it
  pub first_read : (old synced new : D) → CrashesLeave moment left_since old synced (HasOldLines contents may_leave old)
      → IsDurable (contents old) (may_leave synced)
      → Elapses (moment synced) (moment new) (left_since synced) (left_since new) (may_leave new) → ((c : List ℕ) → may_leave new c → may_leave synced c)
      → CrashesLeave moment left_since old new (HasOldLines contents may_leave old)
  first_read old synced new so_far durable time crash =
      goes_on moment left_since old synced new (HasOldLines contents may_leave old) (may_leave new) so_far
      time (λ c now. inl (ap whole_lines (durable c (crash c now))))

  -- and the repair of the end
  pub then_mended : (old read new : D) → CrashesLeave moment left_since old read (HasOldLines contents may_leave old)
      → contents read ≡ contents old → CrashesLeave moment left_since read new (λ c. whole_lines c ≡ whole_lines (contents read))
      → CrashesLeave moment left_since old new (HasOldLines contents may_leave old)
  then_mended old read new so_far same mended =
      both moment left_since old read new (HasOldLines contents may_leave old) so_far
      (weaker moment left_since read new _ (HasOldLines contents may_leave old) mended (λ c is. inl (is ∙ ap whole_lines same)))
