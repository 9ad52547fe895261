-- What is put into a new writer, and finished, is written.
use Rattle.std.proofs.Common.{arith, ◌≡◌, ℕ, Bool, true, false, List, [], Option, None, Some, Result, Ok, Err, append-nil, refl, subst, sym}
use Rattle.std.specs.Prelude.{OnOk}
use Rattle.std.specs.Io.KnownBytes.{Appends}
use Rattle.st_file.specs.declared.saving.text_writer.TextWriter.{TextWriter}
use Rattle.st_file.specs.TextWriters.{DeviceView, EndsAt, PutsTo, SendsTo, Takes}
use Rattle.st_file.proofs.TextWriting.{finished}

pub written : {E : Type 0} {a b c : DeviceView} {p q : TextWriter} (r : Result ℕ E) (text : List ℕ) → p.has_failed ≡ false → p.held.items ≡ [] → p.count ≡ 0 → SendsTo a b p q text → EndsAt b c q r
    → OnOk r (Appends a.contents c.contents text)
written {a = a} {c = c} (Ok n) text unfailed nothing none sends ends =
    let all = finished (Ok n) text unfailed nothing none sends ends in
    subst (λ (t : List ℕ). Appends a.contents c.contents t) all.2.0 all.1
written (Err e) text unfailed nothing none sends ends = tt

-- nothing is put
takes_nothing : (failed : Bool) (held : List ℕ) (f : ℕ) → Takes failed failed held held [] [] f f
takes_nothing false held f = (sym (append-nil held), refl)
takes_nothing true held f = (refl, refl)

appends_nothing : (o : Option (List ℕ)) → Appends o o []
appends_nothing None = tt
appends_nothing (Some bytes) = sym (append-nil bytes)

pub puts_nothing : (a : DeviceView) (p : TextWriter) → PutsTo a a p p []
puts_nothing a p = record {
  sends = record {
    stores = record { sent = []; appended = appends_nothing a.contents; taken = takes_nothing p.has_failed p.held.items a.failures; unflushed = refl };
    counted = λ unfailed. omega arith;
  };
  utf8 = ([], (refl, refl));
}

-- what holds, holds where a result is well
pub on_any : {T E : Type 0} (r : Result T E) (P : Type 0) → P → OnOk r P
on_any (Ok v) P h = h
on_any (Err e) P h = tt
