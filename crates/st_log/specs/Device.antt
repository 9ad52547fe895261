-- What the calls of a device do to its bytes, and what a crash may leave of them.
use Rattle.std.specs.Prelude.{◌≡◌, ◌⊎◌, ℕ, ◌+◌, ◌≤◌, max, min, List, ◌++◌, length, take, drop, Result, Ok, Err, Option, None, Some}
use Rattle.st_log.specs.declared.device.DeviceError.{DeviceError}

-- new is old with these bytes at this offset
abbrev pub Overwritten : List ℕ → ℕ → List ℕ → List ℕ → Type 0
Overwritten old at bytes new = new ≡ take at old ++ bytes ++ drop (at + length bytes) old

-- a torn write of n bytes: any bytes in the range and past the old end, the same elsewhere
pub record TornWrite (at n : ℕ) (old new : List ℕ) : Type 0 where
  pub before : take at new ≡ take at old
  pub after : drop (at + n) new ≡ drop (at + n) old
  pub no_shorter : length old ≤ length new
  pub no_longer : length new ≤ max (length old) (at + n)

-- a torn truncation to n bytes: some length between the old one and the new one. What is shorter already stays.
pub record TornTruncation (n : ℕ) (old new : List ℕ) : Type 0 where
  pub no_shorter : min n (length old) ≤ length new
  pub front : take (length new) old ≡ new

-- each new outcome of a crash is an old outcome after a step
abbrev pub Follows : (List ℕ → List ℕ → Type 0) → (List ℕ → Type 0) → (List ℕ → Type 0) → Type 0
Follows step old new = (c : List ℕ) → new c → (d : List ℕ) × old d × step d c

-- a crash leaves these bytes and nothing else
abbrev pub IsDurable : List ℕ → (List ℕ → Type 0) → Type 0
IsDurable bytes outcomes = (c : List ℕ) → outcomes c → c ≡ bytes

-- Time goes on: a crash since t might have left what it might have left before, or what it may leave now.
pub record Elapses (before now : ℕ) (past since : ℕ → List ℕ → Type 0) (may_leave : List ℕ → Type 0) : Type 0 where
  pub later : before ≤ now
  pub nothing_else : (t : ℕ) (c : List ℕ) → t ≤ before → since t c → past t c ⊎ may_leave c
  pub keeps : (t : ℕ) (c : List ℕ) → t ≤ before → past t c → since t c

-- A crash at any moment from old to new leaves bytes that have P.
pub record CrashesLeave {D : Type 0} (moment : D → ℕ) (left_since : D → ℕ → List ℕ → Type 0) (old new : D)
    (P : List ℕ → Type 0) : Type 0 where
  pub later : moment old ≤ moment new
  pub each : (c : List ℕ) → left_since new (moment old) c → P c
  -- for a run that began earlier
  pub before : (t : ℕ) (c : List ℕ) → t ≤ moment old → left_since new t c → left_since old t c ⊎ P c

-- the error of a call, if it failed
abbrev pub error_of : {T : Type 0} → Result T DeviceError → Option DeviceError
error_of (Ok value) = None
error_of (Err error) = Some error
