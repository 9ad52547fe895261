-- A log on a device: when it is ready for a batch, and what a crash may leave while it is recovered.
use Rattle.std.specs.Prelude.{◌≡◌, ◌⊎◌, ℕ, ◌<◌, ◌^◌, List, length}
use Rattle.st_log.specs.Device.{IsDurable}
use Rattle.st_log.specs.Lines.{whole_lines, with_end}
use Rattle.st_log.specs.declared.logs.Log.{Log}

-- the device has whole lines and an empty line, all of it on the disk, and the log knows where the lines end
pub record IsReady {D : Type 0} (contents : D → List ℕ) (may_leave : D → List ℕ → Type 0) (log : Log D) : Type 0 where
  pub file : contents log.device ≡ with_end (whole_lines (contents log.device))
  pub end : log.end ≡ length (whole_lines (contents log.device))
  pub durable : IsDurable (contents log.device) (may_leave log.device)
  pub fits : length (contents log.device) < 2 ^ 63

-- the text has the lines that a read returns, or those of a text that a crash could leave before
abbrev pub HasOldLines : {D : Type 0} → (D → List ℕ) → (D → List ℕ → Type 0) → D → List ℕ → Type 0
HasOldLines contents may_leave device text = (whole_lines text ≡ whole_lines (contents device))
    ⊎ ((old : List ℕ) × may_leave device old × (whole_lines text ≡ whole_lines old))
