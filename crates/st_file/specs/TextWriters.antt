-- What is put into a text writer, and what its device has of it.
use Rattle.std.specs.Prelude.{◌≡◌, ℕ, ◌+◌, length, Bool, true, false, List, [], ◌++◌, Option, Result, Ok, Err}
use Rattle.std.specs.Io.KnownBytes.{Appends}
use Rattle.std.specs.Str.{IsUtf8}
use mathlib.Core.List.{IsPrefix}
use Rattle.st_wire.specs.Streams.{one_more}
use Rattle.st_file.specs.declared.saving.text_writer.TextWriter.{TextWriter}

-- a device: what was written to it, if that is known, and how often it failed and was flushed
pub record DeviceView : Type 0 where
  pub contents : Option (List ℕ)
  pub failures : ℕ
  pub flushes : ℕ

abbrev pub device_view : {T : Type 0} → (T → Option (List ℕ)) → (T → ℕ) → (T → ℕ) → T → DeviceView
device_view contents failures flushes o = record { contents = contents o; failures = failures o; flushes = flushes o }

-- What a device took, `sent`, of the bytes that were held before and of those that were put behind them, by whether it had failed and
-- whether it has failed: it took some, and the others are held now; it failed, and took a front of them; it had failed, and takes nothing.
abbrev pub Takes : Bool → Bool → List ℕ → List ℕ → List ℕ → List ℕ → ℕ → ℕ → Type 0
Takes false false before after text sent f g = (sent ++ after ≡ before ++ text) × (g ≡ f)
Takes false true before after text sent f g = IsPrefix sent (before ++ text) × (g ≡ one_more f)
Takes true false before after text sent f g = ⊥
Takes true true before after text sent f g = (sent ≡ []) × (g ≡ f)

-- bytes were put into a writer, which does not count them
pub record StoresTo (a b : DeviceView) (p q : TextWriter) (bytes : List ℕ) : Type 0 where
  pub sent : List ℕ
  pub appended : Appends a.contents b.contents sent
  pub taken : Takes p.has_failed q.has_failed p.held.items q.held.items bytes sent a.failures b.failures
  pub unflushed : b.flushes ≡ a.flushes

abbrev pub Stores : {T : Type 0} → (T → Option (List ℕ)) → (T → ℕ) → (T → ℕ) → T → T → TextWriter → TextWriter → List ℕ → Type 0
Stores contents failures flushes a b p q bytes = StoresTo (device_view contents failures flushes a) (device_view contents failures flushes b) p q bytes

-- bytes were put into a writer, which counts them unless its device has failed
pub record SendsTo (a b : DeviceView) (p q : TextWriter) (bytes : List ℕ) : Type 0 where
  pub stores : StoresTo a b p q bytes
  pub counted : q.has_failed ≡ false → q.count ≡ p.count + length bytes

abbrev pub Sends : {T : Type 0} → (T → Option (List ℕ)) → (T → ℕ) → (T → ℕ) → T → T → TextWriter → TextWriter → List ℕ → Type 0
Sends contents failures flushes a b p q bytes = SendsTo (device_view contents failures flushes a) (device_view contents failures flushes b) p q bytes

-- a text was put into a writer
pub record PutsTo (a b : DeviceView) (p q : TextWriter) (text : List ℕ) : Type 0 where
  pub sends : SendsTo a b p q text
  pub utf8 : IsUtf8 text

abbrev pub Puts : {T : Type 0} → (T → Option (List ℕ)) → (T → ℕ) → (T → ℕ) → T → T → TextWriter → TextWriter → List ℕ → Type 0
Puts contents failures flushes a b p q text = PutsTo (device_view contents failures flushes a) (device_view contents failures flushes b) p q text

-- What a device took at the end of the bytes that were held, by whether it had failed and by the result, which is the number of all
-- bytes that were put: all, and it is flushed; a front; or nothing.
abbrev pub Leaves : {E : Type 0} → Bool → Result ℕ E → ℕ → List ℕ → List ℕ → DeviceView → DeviceView → Type 0
Leaves false (Ok n) count held sent a b = (sent ≡ held) × (n ≡ count) × (b.failures ≡ a.failures) × (b.flushes ≡ one_more a.flushes)
Leaves false (Err _) count held sent a b = IsPrefix sent held × (b.failures ≡ one_more a.failures)
Leaves true (Ok n) count held sent a b = ⊥
Leaves true (Err _) count held sent a b = (sent ≡ []) × (b.failures ≡ a.failures)

-- a writer was finished
pub record EndsAt {E : Type 0} (a b : DeviceView) (p : TextWriter) (r : Result ℕ E) : Type 0 where
  pub sent : List ℕ
  pub appended : Appends a.contents b.contents sent
  pub left : Leaves p.has_failed r p.count p.held.items sent a b

abbrev pub Ends : {T E : Type 0} → (T → Option (List ℕ)) → (T → ℕ) → (T → ℕ) → T → T → TextWriter → Result ℕ E → Type 0
Ends contents failures flushes a b p r = EndsAt (device_view contents failures flushes a) (device_view contents failures flushes b) p r
