-- Scripts over bytes in memory.
use Rattle.std.proofs.Common.{◌≡◌, ℕ, ◌⊎◌, List, [], Option, None, Some, Result, Err, IfNone, IfSome, MatchOption, ◌∙◌, inl, inr}
use Rattle.st_classes.specs.declared.refusals.Refusal.{Refusal}
use Rattle.st_classes.specs.declared.refusals.Refusal.TheVariants.{NoMemory}
use Rattle.st_image.specs.Images.{ImageView}
use Rattle.st_wire.specs.Streams.{InputView}
use Rattle.st_guard.specs.Moves.{CachesView}
use Rattle.st_session.specs.Sessions.{Replies}
use Rattle.st_session.specs.DeviceSessions.{ByteSession}
use Rattle.st_session.proofs.KnownBytes.{byte_session}
use Rattle.st_script.specs.CommandReplies.{Serves}
use Rattle.st_script.specs.Runners.{AreNew, GuardView, RunnerView}
use Rattle.st_script.specs.Scripts.{RunsScript}

abbrev Whole : ℕ → ImageView → List ℕ → List ℕ → ImageView → Result ℕ Refusal → Type 0
Whole quantum i bytes out j r =
    ((v : CachesView GuardView) × (k : RunnerView) × AreNew v
    × ByteSession (Replies (Serves quantum)) (record { image = i; caches = v }) bytes out k r
    × (j ≡ k.image))
    ⊎ ((r ≡ Err NoMemory) × (out ≡ []) × (j ≡ i))

runs_all : (quantum : ℕ) (i j : ImageView) (before after : InputView) (bytes out written : List ℕ) (r : Result ℕ Refusal) → before.remaining ≡ Some bytes → before.failures ≡ 0 → after.failures ≡ 0 → out ≡ written → RunsScript quantum i before after written j r → Whole quantum i bytes out j r
runs_all quantum i j before after bytes out written r known b a wrote (inl t) =
    inl (t.0, t.1, t.2, rw wrote (byte_session (Replies (Serves quantum)) (record { image = i; caches = t.0 }) t.1 before after bytes written r known b a t.3), t.4)
runs_all quantum i j before after bytes out written r known b a wrote (inr t) = inr (t.0, wrote ∙ t.2, t.3)

pub answers_whole : (o : Option Refusal) (quantum : ℕ) (i j : ImageView) (before after : InputView) (bytes out written : List ℕ) (r : Result ℕ Refusal) (Q : Refusal → Type 0) → before.remaining ≡ Some bytes → before.failures ≡ 0 → after.failures ≡ 0 → out ≡ written → MatchOption o (RunsScript quantum i before after written j r) Q → IfNone o (Whole quantum i bytes out j r)
answers_whole None quantum i j before after bytes out written r Q known b a wrote s = runs_all quantum i j before after bytes out written r known b a wrote s
answers_whole (Some e) quantum i j before after bytes out written r Q known b a wrote s = tt

pub refuses_unread : (o : Option Refusal) (A : Type 0) (i j : ImageView) (before after : InputView) (out written : List ℕ) (r : Result ℕ Refusal) → out ≡ written → MatchOption o A (λ e. (r ≡ Err e) × (after ≡ before) × (written ≡ []) × (j ≡ i)) → IfSome o (λ e. (r ≡ Err e) × (out ≡ []) × (j ≡ i))
refuses_unread None A i j before after out written r wrote s = tt
refuses_unread (Some e) A i j before after out written r wrote s = (s.0, wrote ∙ s.2, s.3)
