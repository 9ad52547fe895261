-- Parts of what is read and written.
use Rattle.std.proofs.Common.{◌≡◌, ℕ, ◌+◌, ◌-◌, ◌<◌, ◌≤◌, min, List, ◌++◌, length, take, drop, [], Option, None, Some, sym, ap, subst, ◌∙◌, arith, length-drop, take-append-drop}
use Rattle.std.proofs.Math.Seq.{take-add, take-append_seam}
use Rattle.std.proofs.lemmas.List.{length-take-le, take_rest, drop_all, drop-drop}
use Rattle.std.specs.Io.KnownBytes.{Keeps, Consumes, Appends}
use Rattle.std.proofs.KnownBytes.{Appends-trans}

-- a part is copied to the front of a buffer
pub part_copied : (bytes copied rest : List ℕ) (place n k : ℕ) → place + n ≤ length bytes → k ≡ n → copied ≡ take k (drop place bytes)
    → drop place bytes ≡ take n (copied ++ rest) ++ drop (place + n) bytes
part_copied bytes copied rest place n k h same e =
    let part : copied ≡ take n (drop place bytes) = e ∙ ap (λ m. take m (drop place bytes)) same in
    let long : length copied ≡ n = ap length part ∙ length-take-le n (drop place bytes) (omega (arith, length-drop place bytes)) in
    let front : take n (copied ++ rest) ≡ copied = ap (λ m. take m (copied ++ rest)) (sym long) ∙ take-append_seam copied rest in
    let left : take n (drop place bytes) ++ drop (place + n) bytes ≡ drop place bytes = ap (λ t. take n (drop place bytes) ++ t) (sym (drop-drop n place bytes)) ∙ take-append-drop n (drop place bytes) in
    sym (ap (λ t. t ++ drop (place + n) bytes) (front ∙ part) ∙ left)

-- the next bytes are written
pub more_written : (a b c : Option (List ℕ)) (bytes rest : List ℕ) (done n : ℕ) → rest ≡ take (length bytes - done) (drop done bytes) → Appends a b (take done bytes) → Appends b c (take n rest)
    → Appends a c (take (done + n) bytes)
more_written a b c bytes rest done n r before next =
    let left : rest ≡ drop done bytes = r ∙ take_rest bytes done in
    let whole : take done bytes ++ take n rest ≡ take (done + n) bytes = ap (λ t. take done bytes ++ take n t) left ∙ sym (take-add done n bytes) in
    subst (Appends a c) whole (Appends-trans a b c _ _ before next)

pub within_bytes : (bytes : List ℕ) (done n : ℕ) → done ≤ length bytes → n ≤ length (take (length bytes - done) (drop done bytes)) → done + n ≤ length bytes
within_bytes bytes done n d h =
    let left : n ≤ length (drop done bytes) = rw (take_rest bytes done) at h in
    omega (arith, length-drop done bytes)

-- what was kept before a read or a write
pub kept_consumes : (a b c : Option (List ℕ)) (bytes : List ℕ) → Keeps a b → Consumes b c bytes → Consumes a c bytes
kept_consumes None b c bytes kept read = tt
kept_consumes (Some x) None c bytes kept read = absurd kept
kept_consumes (Some x) (Some y) None bytes kept read = absurd read
kept_consumes (Some x) (Some y) (Some z) bytes kept read = sym kept ∙ read

pub kept_appends : (a b c : Option (List ℕ)) (bytes : List ℕ) → Keeps a b → Appends b c bytes → Appends a c bytes
kept_appends None b c bytes kept written = tt
kept_appends (Some x) None c bytes kept written = absurd kept
kept_appends (Some x) (Some y) None bytes kept written = absurd written
kept_appends (Some x) (Some y) (Some z) bytes kept written = written ∙ ap (λ t. t ++ bytes) kept

-- where a part is empty though there was room, nothing is left
pub none_left : (bytes : List ℕ) (place n room : ℕ) → n ≡ min (length bytes - place) room → n ≡ 0 → 0 < room → drop (place + n) bytes ≡ []
none_left bytes place n room least none some = drop_all (place + n) bytes (omega arith)
