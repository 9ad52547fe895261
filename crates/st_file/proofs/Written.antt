-- What is written: the line of a value, and what was written before a flush.
use Rattle.std.proofs.Common.{◌≡◌, ℕ, ◌==◌, false, List, [], ◌∷◌, ◌++◌, Option, None, Some, Result, Ok, Err, refl, sym, ap, ◌∙◌, inl, inr}
use Rattle.std.proofs.lemmas.Bool.{ne_eqb}
use Rattle.std.specs.Io.KnownBytes.{Appends, Keeps}
use Rattle.std.specs.Str.{IsUtf8}
use Rattle.serde_json.specs.Data.{Data}
use Rattle.serde_json.specs.Read.{read}
use Rattle.serde_json.specs.Written.{compact_text}
use Rattle.st_classes.specs.declared.refusals.Refusal.{Refusal}
use Rattle.st_wire.specs.Commands.{value_of}
use Rattle.st_wire.proofs.Lines.{value-line}
use Rattle.st_file.specs.Files.{document_of, without_newline}
use Rattle.st_file.specs.ImageSnapshots.{ImageSnapshotView}
use Rattle.st_file.specs.Saving.{IsDocument, IsLineOf, Saves, Writes}

pub appends_kept : (a b c : Option (List ℕ)) (bytes : List ℕ) → Appends a b bytes → Keeps b c → Appends a c bytes
appends_kept None b c bytes written kept = tt
appends_kept (Some x) None c bytes written kept = absurd written
appends_kept (Some x) (Some y) None bytes written kept = absurd kept
appends_kept (Some x) (Some y) (Some z) bytes written kept = kept ∙ written

-- ---- the line of a value

-- the newline at the end of a text
newline_off : (t : List ℕ) → without_newline (t ++ 10 ∷ []) ≡ t
newline_off [] = refl
newline_off (b ∷ []) = refl
newline_off (b ∷ c ∷ bs) = ap (λ (ds : List ℕ). b ∷ ds) (newline_off (c ∷ bs))

-- another byte there
other_stays : (t : List ℕ) (b : ℕ) → (b == 10) ≡ false → without_newline (t ++ b ∷ []) ≡ t ++ b ∷ []
other_stays [] b e = rw e
other_stays (a ∷ []) b e = ap (λ (ds : List ℕ). a ∷ ds) (other_stays [] b e)
other_stays (a ∷ c ∷ bs) b e = ap (λ (ds : List ℕ). a ∷ ds) (other_stays (c ∷ bs) b e)

pub before_newline : (text front : List ℕ) (b : ℕ) → text ≡ front ++ b ∷ [] → b ≡ 10 → front ≡ without_newline text
before_newline text front b e is = rw (e, is) (sym (newline_off front))

pub no_newline : (text front : List ℕ) (b : ℕ) → text ≡ front ++ b ∷ [] → (b ≡ 10 → ⊥) → text ≡ without_newline text
no_newline text front b e not = rw e (sym (other_stays front b (ne_eqb b 10 not)))

-- the text of a value, as it is written and read, and a newline
pub is_line_of : (v : Data) (text line : List ℕ) → text ≡ compact_text v → IsUtf8 text → read text ≡ Some v → line ≡ text ++ 10 ∷ [] → IsLineOf v line
is_line_of v text line same utf8 again is = record {
  line = is ∙ ap (λ (t : List ℕ). t ++ 10 ∷ []) same;
  again = ap document_of is ∙ ap value_of (newline_off text) ∙ value-line text v (utf8, again);
}

-- the line of an image's document is what the image's file has
pub document_saved : {T : Type 0} (m : ImageSnapshotView) (v : Data) (part : List ℕ) (r : Result T Refusal) → IsDocument v m → Writes (IsLineOf v) part r → Saves m part r
document_saved m v part (Ok u) doc line = (v, doc, line)
document_saved m v part (Err e) doc (inl nothing) = inl nothing
document_saved m v part (Err e) doc (inr ((line, is, prefix), fault)) = inr ((line, (v, doc, is), prefix), fault)
