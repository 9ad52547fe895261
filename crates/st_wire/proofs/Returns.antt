-- A carriage return behind a text is white space, or stands where the text is at fault already.
use Rattle.std.proofs.Common.{◌≡◌, ℕ, Bool, true, false, List, [], ◌∷◌, None, refl, ap, sym, ◌∙◌, ◌-◌, ◌<◌, length, get_or, subst, arith, zero, suc, slice_index, length-append, if◌then◌else◌}
use Rattle.std.specs.Option.{option_and_then}
use Rattle.std.specs.Str.{IsUtf8, is_utf8}
use Rattle.std.proofs.lemmas.Str.{IsUtf8-from_is_utf8, is_utf8-from_IsUtf8, IsUtf8-append, IsUtf8-from_ascii, IsUtf8-take, IsCharBoundary-before_ascii}
use Rattle.std.proofs.lemmas.List.{take-append-le, get_or-append_right}
use Rattle.std.proofs.Math.Seq.{take-length}
use Rattle.json.specs.Lex.{Class, Mode, quote, backslash, operator, space, other, between, in_word, in_string, in_escape, class, lex, lex_byte, punctuate, fresh}
use Rattle.json.specs.Json as json
use Rattle.serde_json.specs.Read.{read, of_json, max_depth}
use Rattle.st_wire.specs.Commands.{ReturnsMeanNothing, command_in, value_of}
use Rattle.st_wire.proofs.ReturnWords.{cr, word_cr}
use Rattle.st_wire.proofs.ReturnStrings.{content_cr}

byte_cr : (m : Mode) (c : Class) (x : ℕ) (xs : List ℕ) → ((n : Mode) → lex n (cr xs) ≡ lex n xs) → lex_byte m c x (cr xs) (λ n. lex n (cr xs)) ≡ lex_byte m c x xs (λ n. lex n xs)
byte_cr between quote x xs h = rw (content_cr _ xs, h in_string) refl
byte_cr between backslash x xs h = rw (h in_word) refl
byte_cr between operator x xs h = rw (h between) refl
byte_cr between space x xs h = h between
byte_cr between other x xs h = rw (word_cr x xs, h in_word) refl
byte_cr in_word quote x xs h = h in_word
byte_cr in_word backslash x xs h = h in_word
byte_cr in_word operator x xs h = rw (h between) refl
byte_cr in_word space x xs h = h between
byte_cr in_word other x xs h = h in_word
byte_cr in_string quote x xs h = h between
byte_cr in_string backslash x xs h = h in_escape
byte_cr in_string operator x xs h = h in_string
byte_cr in_string space x xs h = h in_string
byte_cr in_string other x xs h = h in_string
byte_cr in_escape c x xs h = h in_string

lex_cr : (m : Mode) (xs : List ℕ) → lex m (cr xs) ≡ lex m xs
unfolding lex
lex_cr between [] = refl
lex_cr in_word [] = refl
lex_cr in_string [] = refl
lex_cr in_escape [] = refl
lex_cr m (x ∷ xs) = byte_cr m (class x) x xs (λ n. lex_cr n xs)

read_cr : (line : List ℕ) → read (cr line) ≡ read line
read_cr line = ap (λ ls. option_and_then of_json (option_and_then (λ p. json.if_last p.0 p.1) (json.value max_depth (punctuate fresh ls)))) (lex_cr between line)

return_is_ascii : (i : ℕ) → slice_index (13 ∷ []) i < 128
return_is_ascii zero = omega arith
return_is_ascii (suc i) = omega arith

text_in : (line : List ℕ) → IsUtf8 line → IsUtf8 (cr line)
text_in line u = IsUtf8-append line (13 ∷ []) u (IsUtf8-from_ascii (13 ∷ []) return_is_ascii)

text_out : (line : List ℕ) → IsUtf8 (cr line) → IsUtf8 line
text_out line u =
    let n = length line in
    let at : get_or (cr line) n 0 ≡ 13 = get_or-append_right line (13 ∷ []) n n 0 refl (omega arith) ∙ rw (none_left n) refl in
    let cut = IsUtf8-take (cr line) n u (IsCharBoundary-before_ascii (cr line) n (omega (arith, length-append line (13 ∷ []))) (omega (arith, at))) in
    subst IsUtf8 (take-append-le n line (13 ∷ []) (omega arith) ∙ take-length line) cut
  where
    none_left : (n : ℕ) → n - n ≡ 0
    none_left n = omega arith

same_truth : (a b : Bool) → (a ≡ true → b ≡ true) → (b ≡ true → a ≡ true) → a ≡ b
same_truth true b f g = sym (f refl)
same_truth false true f g = g refl
same_truth false false f g = refl

utf8_cr : (line : List ℕ) → is_utf8 (cr line) ≡ is_utf8 line
utf8_cr line = same_truth (is_utf8 (cr line)) (is_utf8 line) (λ t. is_utf8-from_IsUtf8 line (text_out line (IsUtf8-from_is_utf8 (cr line) t))) (λ t. is_utf8-from_IsUtf8 (cr line) (text_in line (IsUtf8-from_is_utf8 line t)))

pub returns_mean_nothing : ReturnsMeanNothing
returns_mean_nothing line =
    let same : value_of (cr line) ≡ value_of line = ap (λ b. if b then read (cr line) else None) (utf8_cr line) ∙ ap (λ d. if is_utf8 line then d else None) (read_cr line) in
    ap (option_and_then command_in) same
