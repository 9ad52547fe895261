-- A script: a session that an image and its worker answer.
use Rattle.std.specs.Prelude.{◌≡◌, ℕ, ◌&&◌, ◌⊎◌, List, [], ◌∷◌, Bool, not, Result, Err, nat_le, MatchOption}
use Rattle.st_classes.specs.declared.refusals.Refusal.{Refusal}
use Rattle.st_classes.specs.declared.refusals.Refusal.TheVariants.{BadArguments, NoMemory}
use Rattle.st_classes.specs.Refusals.{Rule, first_of}
use Rattle.st_image.specs.Images.{ImageView, settings_rules}
use Rattle.st_wire.specs.Streams.{InputView}
use Rattle.st_script.specs.declared.settings.ScriptSettings.{ScriptSettings}
use Rattle.st_guard.specs.Moves.{CachesView}
use Rattle.st_script.specs.Runners.{AreNew, GuardView, RunnerView}
use Rattle.st_session.specs.Sessions.{Replies}
use Rattle.st_session.specs.DeviceSessions.{DeviceSession}
use Rattle.st_script.specs.CommandReplies.{Serves}

-- a quantum is from 1 to 1,024 steps
abbrev pub is_quantum : ℕ → Bool
is_quantum quantum = nat_le 1 quantum && nat_le quantum 1024

-- the refusals of a script's settings, in their order
abbrev pub script_rules : ScriptSettings → List Rule
script_rules s =
    (not (is_quantum s.quantum), BadArguments)
    ∷ settings_rules (record { capacity = s.capacity; history = s.history })

-- the image with the numbers of a script
abbrev pub with_settings : ImageView → ScriptSettings → ImageView
with_settings i s = record i { capacity = s.capacity; most_items = s.history }

-- a script runs with new caches; without memory for them nothing is read or written
abbrev pub RunsScript : ℕ → ImageView → InputView → InputView → List ℕ → ImageView → Result ℕ Refusal → Type 0
RunsScript quantum i before after written j result =
    ((v : CachesView GuardView) × (k : RunnerView) × AreNew v
    × DeviceSession (Replies (Serves quantum)) (record { image = i; caches = v }) before after written k result
    × (j ≡ k.image))
    ⊎ ((result ≡ Err NoMemory) × (after ≡ before) × (written ≡ []) × (j ≡ i))

-- settings out of their ranges are refused, and nothing is read or written
abbrev pub Script : ScriptSettings → ImageView → InputView → InputView → List ℕ → ImageView → Result ℕ Refusal → Type 0
Script s i before after written j result = MatchOption (first_of (script_rules s))
    (RunsScript s.quantum (with_settings i s) before after written j result)
    (λ e. (result ≡ Err e) × (after ≡ before) × (written ≡ []) × (j ≡ i))
