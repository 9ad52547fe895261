-- Sessions over bytes that are known.
use Rattle.std.proofs.Common.{◌≡◌, ℕ, ◌^◌, ◌≤◌, ◌<◌, ◌⊎◌, List, [], ◌++◌, length, length-append, Option, None, Some, Result, Ok, Err, ap, sym, subst, ◌∙◌, inl, inr, arith}
use Rattle.std.specs.Io.KnownBytes.{Consumes}
use Rattle.st_classes.specs.declared.refusals.Refusal.{Refusal}
use Rattle.st_classes.specs.declared.refusals.Refusal.TheVariants.{NoMemory, ReadFault, WriteFault}
use Rattle.st_wire.specs.declared.replies.Reply.{Reply}
use Rattle.st_wire.specs.Streams.{InputView, one_more}
use Rattle.st_session.specs.Lines.{lines, whole_lines}
use Rattle.st_session.specs.Sessions.{Session}
use Rattle.st_session.specs.DeviceSessions.{IsWhole, WhyStopped, EndsAtLine, DeviceSession, ByteSession}

whole_text : (a b : Option (List ℕ)) (bytes text : List ℕ) → a ≡ Some bytes → IsWhole a b text → text ≡ bytes
whole_text a b bytes text known whole = let first : IsWhole (Some bytes) b text = subst (λ o. IsWhole o b text) known whole in first.0

split : (bytes taken : List ℕ) (b : Option (List ℕ)) → Consumes (Some bytes) b taken → (rest : List ℕ) × (bytes ≡ taken ++ rest)
split bytes taken None read = absurd read
split bytes taken (Some rest) read = (rest, read)

split_at : (a b : Option (List ℕ)) (bytes taken : List ℕ) → a ≡ Some bytes → Consumes a b taken → (rest : List ℕ) × (bytes ≡ taken ++ rest)
split_at a b bytes taken known read = split bytes taken b (subst (λ o. Consumes o b taken) known read)

never : (before after : ℕ) → before ≡ after → after ≡ one_more before → before < 2 ^ 64 → ⊥
never before after same e bound = omega arith

why : (before after : InputView) (bytes taken rest : List ℕ) (e : Refusal) → bytes ≡ taken ++ rest → before.failures ≡ 0 → after.failures ≡ 0 → WhyStopped before after taken e
    → ((e ≡ NoMemory) ⊎ (e ≡ WriteFault)) ⊎ ((e ≡ ReadFault) × (2 ^ 32 ≤ length bytes))
why before after bytes taken rest e all b a (inl w) = inl w.0
why before after bytes taken rest e all b a (inr (is, inl failed)) = absurd (never before.failures after.failures (b ∙ sym a) failed (omega (arith, b)))
why before after bytes taken rest e all b a (inr (is, inr endless)) = inr (is, omega (arith, endless.2, ap length all, length-append taken rest))

ends_known : {S : Type 0} (replies : S → List ℕ → Reply → S → Type 0) (i j : S) (before after : InputView) (bytes taken rest written : List ℕ) (e : Refusal) → bytes ≡ taken ++ rest → before.remaining ≡ Some bytes → EndsAtLine replies i before after taken written j e → Session replies i (lines bytes) written j (Some e)
ends_known replies i j before after bytes taken rest written e all known (same, inl ends) = rw all (ends rest)
ends_known replies i j before after bytes taken rest written e all known (same, inr ends) = subst (λ (text : List ℕ). Session replies i (lines text) written j (Some e)) (whole_text _ _ bytes taken known ends.0) ends.1

-- a session of an input whose bytes are known and which never fails
pub byte_session : {S : Type 0} (replies : S → List ℕ → Reply → S → Type 0) (i j : S) (before after : InputView) (bytes written : List ℕ) (result : Result ℕ Refusal) → before.remaining ≡ Some bytes → before.failures ≡ 0 → after.failures ≡ 0
    → DeviceSession replies i before after written j result → ByteSession replies i bytes written j result
byte_session replies i j before after bytes written (Ok count) known b a s =
    let same = whole_text _ _ bytes s.0 known s.2 in
    (subst (λ (text : List ℕ). Session replies i (lines text) written j None) same s.4, s.5 ∙ ap (λ (text : List ℕ). length (lines text)) same)
byte_session replies i j before after bytes written (Err e) known b a (taken, gives, inl ends) =
    let rest = split_at _ _ bytes taken known gives.0 in
    inl (ends_known replies i j before after bytes taken rest.0 written e rest.1 known ends)
byte_session replies i j before after bytes written (Err e) known b a (taken, gives, inr stops) =
    let rest = split_at _ _ bytes taken known gives.0 in
    inr (taken, rest.0, rest.1, stops.0, why before after bytes taken rest.0 e rest.1 b a stops.1)
