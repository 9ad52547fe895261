-- What is written of a JSON value has no newline.
use Rattle.std.proofs.Common.{◌≡◌, ◌≢◌, ℕ, zero, suc, ◌+◌, ◌<◌, ◌/◌, ◌%◌, ◌==◌, ◌&&◌, Bool, true, false, nat_lt, if◌then◌else◌, pos, negsuc, List, [], ◌∷◌, ◌++◌, refl, arith, inl, inr, ltb-true}
use Rattle.std.specs.Fmt.{decimal, digit_glyph, digits, digits_onto}
use Rattle.std.specs.List.{AllByRecursion}
use Rattle.std.proofs.lemmas.Bool.{and_parts, cases_eq, cases_lt}
use Rattle.json.specs.Print.{escape, escape_byte, quoted}
use Rattle.json.proofs.Printed.Strings.{escape_byte_plain}
use Rattle.serde_json.specs.Data.{Data, null, boolean, number, string, array, object, unsigned, negative, float, Items, no_items, item, Members, no_members, member}
use Rattle.serde_json.specs.Written.{comma_if, compact_text, items_text, members_text}
use Rattle.st_classes.specs.declared.edits.Edit.{Edit}
use Rattle.st_journal.specs.declared.entries.Entry.{Entry}
use Rattle.st_journal.specs.declared.entries.Entry.TheVariants as entry
use Rattle.st_journal.specs.EntryJson.{entry_json}
use Rattle.st_journal.specs.EntryLines.{entry_line}
use Rattle.st_log.specs.Lines.{IsLine}

abbrev pub NoNewline : List ℕ → Type 0
NoNewline bytes = AllByRecursion (λ b. b ≢ 10) bytes

other : (b : ℕ) → 10 < b → b ≢ 10
other b h e = omega arith

both : (xs ys : List ℕ) → NoNewline xs → NoNewline ys → NoNewline (xs ++ ys)
both [] ys a b = b
both (x ∷ xs) ys a b = (a.0, both xs ys a.1 b)

-- ---- by a test

abbrev are_above : List ℕ → Bool
are_above [] = true
are_above (b ∷ bs) = nat_lt 10 b && are_above bs

tested : (bytes : List ℕ) → are_above bytes ≡ true → NoNewline bytes
tested [] e = tt
tested (b ∷ bs) e = let p = and_parts (nat_lt 10 b) (are_above bs) e in (other b (ltb-true 10 b p.0), tested bs p.1)

-- ---- numbers

glyph_above : (d : ℕ) → 10 < digit_glyph false d
glyph_above d = elim (nat_lt d 10) as (λ t. 10 < (if t then 48 + d else 87 + d)) [ true ↦ omega arith | false ↦ omega arith ]

digits_open : (k n : ℕ) (behind : List ℕ) → NoNewline behind → NoNewline (digits_onto k 10 false n behind)
digits_open zero n behind h = h
digits_open (suc k) n behind h =
    let longer : List ℕ = digit_glyph false (n % 10) ∷ behind in
    let here : NoNewline longer = (other (digit_glyph false (n % 10)) (glyph_above (n % 10)), h) in
    elim (n / 10 == 0) as (λ t. NoNewline (if t then longer else digits_onto k 10 false (n / 10) longer)) [ true ↦ here | false ↦ digits_open k (n / 10) longer here ]

decimal_open : (n : ℕ) → NoNewline (decimal n)
unfolding digits
decimal_open n = digits_open 64 n [] tt

-- ---- texts

abbrev escapes_below : ℕ → Bool
escapes_below zero = true
escapes_below (suc n) = are_above (escape_byte n) && escapes_below n

escape_below : (n : ℕ) → escapes_below n ≡ true → (x : ℕ) → x < n → are_above (escape_byte x) ≡ true
escape_below zero e x h = absurd (omega arith)
escape_below (suc n) e x h =
    let p = and_parts (are_above (escape_byte n)) (escapes_below n) e in
    elim (cases_eq x n) [ inl same ↦ rw same p.0 | inr differ ↦ escape_below n p.1 x (omega arith) ]

all_above : escapes_below 128 ≡ true
unfolding escape_byte
all_above = refl

byte_open : (x : ℕ) → NoNewline (escape_byte x)
byte_open x = elim (cases_lt x 128) [
  | inl small ↦ tested (escape_byte x) (escape_below 128 all_above x small)
  | inr large ↦ rw (escape_byte_plain x (λ e. omega arith) (λ e. omega arith) (omega arith)) (other x (omega arith), tt)
]

escape_open : (text : List ℕ) → NoNewline (escape text)
escape_open [] = tt
escape_open (x ∷ xs) = both (escape_byte x) (escape xs) (byte_open x) (escape_open xs)

quoted_open : (text : List ℕ) → NoNewline (quoted text)
quoted_open text = (other 34 (omega arith), both (escape text) (34 ∷ []) (escape_open text) (tested (34 ∷ []) refl))

-- ---- values

comma_open : (later : Bool) → NoNewline (comma_if later)
comma_open true = tested (44 ∷ []) refl
comma_open false = tt

mutual
  pub text_open : (d : Data) → NoNewline (compact_text d)
  text_open null = tested (compact_text null) refl
  text_open (boolean true) = tested (compact_text (boolean true)) refl
  text_open (boolean false) = tested (compact_text (boolean false)) refl
  text_open (number (unsigned n)) = decimal_open n
  text_open (number (negative (pos n))) = decimal_open n
  text_open (number (negative (negsuc n))) = (other 45 (omega arith), decimal_open (suc n))
  text_open (number (float x)) = tt
  text_open (string s) = quoted_open s
  text_open (array ds) = (other 91 (omega arith), items_open false ds)
  text_open (object ms) = (other 123 (omega arith), members_open false ms)

  items_open : (later : Bool) (ds : Items) → NoNewline (items_text later ds)
  items_open later no_items = tested (93 ∷ []) refl
  items_open later (item d ds) = both (comma_if later) _ (comma_open later) (both (compact_text d) _ (text_open d) (items_open true ds))

  members_open : (later : Bool) (ms : Members) → NoNewline (members_text later ms)
  members_open later no_members = tested (125 ∷ []) refl
  members_open later (member k d ms) =
      both (comma_if later) _ (comma_open later)
      (both (quoted k) _ (quoted_open k) (other 58 (omega arith), both (compact_text d) _ (text_open d) (members_open true ms)))

-- ---- lines

pub entry_is_open : (names : List (List ℕ)) (edits : List Edit) (e : Entry) → NoNewline (compact_text (entry_json names edits e))
entry_is_open names edits e = text_open (entry_json names edits e)

object_line : (d : Data) (ms : Members) → d ≡ object ms → IsLine (compact_text d ++ 10 ∷ [])
object_line d ms is = rw is (record { between = members_text false ms; is = refl; one_newline = members_open false ms })

pub entry_is_one_line : (names : List (List ℕ)) (edits : List Edit) (e : Entry) → IsLine (entry_line names edits e)
entry_is_one_line names edits (entry.Name text) = object_line (entry_json names edits (entry.Name text)) _ refl
entry_is_one_line names edits (entry.Define name parent slots) = object_line (entry_json names edits (entry.Define name parent slots)) _ refl
entry_is_one_line names edits (entry.Install class source) = object_line (entry_json names edits (entry.Install class source)) _ refl
entry_is_one_line names edits (entry.Remove class selector) = object_line (entry_json names edits (entry.Remove class selector)) _ refl
entry_is_one_line names edits (entry.Reparent class parent) = object_line (entry_json names edits (entry.Reparent class parent)) _ refl
entry_is_one_line names edits (entry.Created class) = object_line (entry_json names edits (entry.Created class)) _ refl
entry_is_one_line names edits (entry.Posted actor message) = object_line (entry_json names edits (entry.Posted actor message)) _ refl
entry_is_one_line names edits (entry.Closed actor) = object_line (entry_json names edits (entry.Closed actor)) _ refl
entry_is_one_line names edits (entry.Begun actor) = object_line (entry_json names edits (entry.Begun actor)) _ refl
entry_is_one_line names edits (entry.Ran actor steps) = object_line (entry_json names edits (entry.Ran actor steps)) _ refl
entry_is_one_line names edits entry.Checkpoint = object_line (entry_json names edits entry.Checkpoint) _ refl
