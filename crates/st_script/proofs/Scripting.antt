-- Sessions of an image, and scripts that are refused.
use Rattle.std.proofs.Common.{◌≡◌, ℕ, ◌⊎◌, true, false, List, [], ◌∷◌, ◌++◌, Option, Some, None, Result, Ok, Err, MatchOption, refl, ap, ◌∙◌, inl, inr}
use Rattle.st_classes.specs.declared.refusals.Refusal.{Refusal}
use Rattle.st_classes.specs.declared.refusals.Refusal.TheVariants.{BadArguments, BadCommand, NoMemory}
use Rattle.st_classes.specs.Refusals.{first_of}
use Rattle.st_image.specs.Images.{ImageView, settings_rules}
use Rattle.st_wire.specs.declared.commands.Command.{Command}
use Rattle.st_wire.specs.Commands.{command_of}
use Rattle.st_wire.specs.declared.replies.Reply.{Reply}
use Rattle.st_wire.specs.declared.replies.Reply.TheVariants.{Refused}
use Rattle.st_wire.specs.Replies.{line_of}
use Rattle.st_wire.specs.Streams.{InputView}
use Rattle.st_script.specs.declared.settings.ScriptSettings.{ScriptSettings}
use Rattle.st_session.specs.Lines.{ends_with, lines, whole_lines}
use Rattle.st_session.specs.Sessions.{Breaks, Replies, Session}
use Rattle.st_session.specs.DeviceSessions.{DeviceSession}
use Rattle.st_script.specs.CommandReplies.{Serves}
use Rattle.st_script.specs.Runners.{RunnerView}
use Rattle.st_script.specs.Scripts.{is_quantum, with_settings, RunsScript, Script}

-- a handler of an image, by its runner and its quantum
module _ {H : Type 0} (runner : H → RunnerView) (quantum_of : H → ℕ) where
  -- what it answers
  abbrev pub Handles : H → Command → Reply → H → Type 0
  Handles i c r j = Serves (quantum_of i) (runner i) c r (runner j) × (quantum_of j ≡ quantum_of i)

  -- a reply of the handler is one of its image, and the quantum stays
  reply_in : (o : Option Command) (quantum : ℕ) (i : H) (r : Reply) (j : H) → quantum_of i ≡ quantum
      → ((r ≡ Refused NoMemory) × (j ≡ i)) ⊎ MatchOption o ((r ≡ Refused BadCommand) × (j ≡ i)) (λ c. Handles i c r j)
      → (((r ≡ Refused NoMemory) × (runner j ≡ runner i)) ⊎ MatchOption o ((r ≡ Refused BadCommand) × (runner j ≡ runner i)) (λ c. Serves quantum (runner i) c r (runner j))) × (quantum_of j ≡ quantum)
  reply_in o quantum i r j q (inl h) = (inl (h.0, ap runner h.1), ap quantum_of h.1 ∙ q)
  reply_in None quantum i r j q (inr h) = (inr (h.0, ap runner h.1), ap quantum_of h.1 ∙ q)
  reply_in (Some c) quantum i r j q (inr h) = (inr (rw (← q) h.0), h.1 ∙ q)

  replied : (quantum : ℕ) (i : H) (line : List ℕ) (r : Reply) (j : H) → quantum_of i ≡ quantum → Replies Handles i line r j → Replies (Serves quantum) (runner i) line r (runner j) × (quantum_of j ≡ quantum)
  replied quantum i line r j q h = reply_in (command_of line) quantum i r j q h

  ends_in : (o : Option Refusal) (quantum : ℕ) (i j : H) (line written : List ℕ) (e : Refusal) → quantum_of i ≡ quantum
      → MatchOption o (((written ≡ []) × (j ≡ i) × (e ≡ NoMemory)) ⊎ ((r : Reply) × Replies Handles i line r j × Breaks (line_of r) written e)) (λ last. (j ≡ i) × (Breaks (line_of (Refused last)) written e ⊎ ((written ≡ line_of (Refused last)) × (e ≡ last))))
      → MatchOption o (((written ≡ []) × (runner j ≡ runner i) × (e ≡ NoMemory)) ⊎ ((r : Reply) × Replies (Serves quantum) (runner i) line r (runner j) × Breaks (line_of r) written e)) (λ last. (runner j ≡ runner i) × (Breaks (line_of (Refused last)) written e ⊎ ((written ≡ line_of (Refused last)) × (e ≡ last))))
  ends_in None quantum i j line written e q (inl m) = inl (m.0, ap runner m.1, m.2)
  ends_in None quantum i j line written e q (inr m) = let h = replied quantum i line m.0 j q m.1 in inr (m.0, h.0, m.2)
  ends_in (Some last) quantum i j line written e q m = (ap runner m.0, m.1)

  -- a session of the handler is one of its image
  image_session : (quantum : ℕ) (lines : List (List ℕ)) (i : H) (written : List ℕ) (j : H) (end : Option Refusal) → quantum_of i ≡ quantum → Session (Replies Handles) i lines written j end → Session (Replies (Serves quantum)) (runner i) lines written (runner j) end
  image_session quantum [] i written j end q s = (s.0, ap runner s.1, s.2)
  image_session quantum (line ∷ lines) i written j end q (inl s) = inl (s.0, s.1, ends_in (ends_with line) quantum i j line written s.0 q s.2)
  image_session quantum (line ∷ lines) i written j end q (inr s) =
      let k = s.2 in
      let answered = s.4 in
      let h = replied quantum i line answered.1.0 k q answered.1.1 in
      inr (s.0, s.1, (runner k), s.3, (answered.0, (answered.1.0, h.0, answered.1.2)), image_session quantum lines k s.1 j end h.1 s.5)

  pub image_device_session : (quantum : ℕ) (i j : H) (before after : InputView) (written : List ℕ) (result : Result ℕ Refusal) → quantum_of i ≡ quantum → DeviceSession (Replies Handles) i before after written j result → DeviceSession (Replies (Serves quantum)) (runner i) before after written (runner j) result
  image_device_session quantum i j before after written (Ok count) q s =
      (s.0, s.1, s.2, s.3, image_session quantum (lines s.0) i written j None q s.4, s.5)
  image_device_session quantum i j before after written (Err e) q (taken, gives, inl (same, inl ends)) =
      (taken, gives, inl (same, inl (λ more. image_session quantum (lines (taken ++ more)) i written j (Some e) q (ends more))))
  image_device_session quantum i j before after written (Err e) q (taken, gives, inl (same, inr ends)) =
      (taken, gives, inl (same, inr (ends.0, image_session quantum (lines taken) i written j (Some e) q ends.1)))
  image_device_session quantum i j before after written (Err e) q (taken, gives, inr stops) =
      (taken, gives, inr (image_session quantum (whole_lines taken) i written j None q stops.0, stops.1))

-- the same of handlers whose type is known by them
pub session_of : {H : Type 0} (j i : H) (runner : H → RunnerView) (quantum_of : H → ℕ) (quantum : ℕ) (before after : InputView) (written : List ℕ) (result : Result ℕ Refusal) → quantum_of i ≡ quantum
    → DeviceSession (Replies (Handles runner quantum_of)) i before after written j result → DeviceSession (Replies (Serves quantum)) (runner i) before after written (runner j) result
session_of j i runner quantum_of quantum before after written result q s = image_device_session runner quantum_of quantum i j before after written result q s

pub refuses_quantum : (s : ScriptSettings) (i : ImageView) (input : InputView) → is_quantum s.quantum ≡ false → Script s i input input [] i (Err BadArguments)
refuses_quantum s i input e = rw e (refl, refl, refl, refl)

pub refuses_settings : (s : ScriptSettings) (i j : ImageView) (input : InputView) (f : Refusal) → is_quantum s.quantum ≡ true → first_of (settings_rules (record { capacity = s.capacity; history = s.history })) ≡ Some f → j ≡ i → Script s i input input [] j (Err f)
refuses_settings s i j input f e is same = rw (e, is) (refl, refl, refl, same)

pub keeps_settings : (s : ScriptSettings) (i j k : ImageView) (quantum : ℕ) (before after : InputView) (written : List ℕ) (r : Result ℕ Refusal) → is_quantum s.quantum ≡ true → quantum ≡ s.quantum → first_of (settings_rules (record { capacity = s.capacity; history = s.history })) ≡ None → j ≡ with_settings i s → RunsScript quantum j before after written k r → Script s i before after written k r
keeps_settings s i j k quantum before after written r is q none same d = rw (is, none) (rw (q, same) at d)
