-- The compact text of a value is read as the value.
use Rattle.std.proofs.Common.{◌≡◌, ℕ, suc, ◌≤◌, ◌<◌, ◌^◌, ◌&&◌, max, pos, negsuc, List, [], true, false, Ordering, Less, Equal, Greater, nat_cmp, Some, option_map, option_and_then, refl, sym, ap, ap₂, ◌∙◌, arith, append-nil}
use Rattle.std.specs.Ordering.{match_ordering, ordering_reverse}
use Rattle.std.specs.Cmp.Lexicographic.{slice_cmp}
use Rattle.std.proofs.lemmas.Bool.{and_parts}
use Rattle.std.proofs.lemmas.Cmp.{nat_list_cmp_total}
use Rattle.json.specs.Lex.{tokens}
use Rattle.json.specs.Json as json
use Rattle.json.specs.Tree.{json_tokens, depth as tree_depth, items_depth as tree_items_depth, members_depth as tree_members_depth, HasNumbers, ItemsHaveNumbers, MembersHaveNumbers}
use Rattle.json.proofs.Printed.Decimals.{IsNumber-decimal, IsNumber-signed_decimal}
use Rattle.json.proofs.Printed.Tokens.{tokens-print}
use Rattle.json.proofs.Printed.Trees.{ArePrintable-json_tokens, value-json_tokens}
use Rattle.json.specs.Print.{IsNumber}
use Rattle.serde_json.specs.Data.{Num, unsigned, negative, float, Data, null, boolean, number, string, array, object, Items, no_items, item, Members, no_members, member, put, depth, items_depth, members_depth}
use Rattle.serde_json.specs.Read.{max_depth, number_of, of_items, of_json, of_members, read}
use Rattle.serde_json.specs.Written.{compact_text, items_outline, members_outline, number_text, outline}
use Rattle.serde_json.proofs.Numbers.{number_of-decimal, number_of-negative}
use Rattle.serde_json.proofs.Texts.{print-outline}
use Rattle.st_wire.specs.Json.{comes_first, keys_rise, keys_rise_in_items, keys_rise_in_members}

-- ---- whole numbers

-- a number of 64 bits, with a sign only below zero
abbrev pub IsWhole : Num → Type 0
IsWhole (unsigned n) = n < 2 ^ 64
IsWhole (negative (pos n)) = ⊥
IsWhole (negative (negsuc n)) = n < 2 ^ 63
IsWhole (float x) = ⊥

-- all numbers of a value are such numbers
abbrev mutual
  pub HasWholeNumbers : Data → Type 0
  HasWholeNumbers null = Unit {0}
  HasWholeNumbers (boolean b) = Unit {0}
  HasWholeNumbers (number n) = IsWhole n
  HasWholeNumbers (string s) = Unit {0}
  HasWholeNumbers (array ds) = ItemsHaveWholeNumbers ds
  HasWholeNumbers (object ms) = MembersHaveWholeNumbers ms

  pub ItemsHaveWholeNumbers : Items → Type 0
  ItemsHaveWholeNumbers no_items = Unit {0}
  ItemsHaveWholeNumbers (item d ds) = HasWholeNumbers d × ItemsHaveWholeNumbers ds

  pub MembersHaveWholeNumbers : Members → Type 0
  MembersHaveWholeNumbers no_members = Unit {0}
  MembersHaveWholeNumbers (member k d ms) = HasWholeNumbers d × MembersHaveWholeNumbers ms

is_number : (n : Num) → IsWhole n → IsNumber (number_text n)
is_number (unsigned n) h = IsNumber-decimal n h
is_number (negative (pos n)) h = absurd h
is_number (negative (negsuc n)) h = IsNumber-signed_decimal (negsuc n) h
is_number (float x) h = absurd h

number_again : (n : Num) → IsWhole n → number_of (number_text n) ≡ Some n
number_again (unsigned n) h = number_of-decimal n h
number_again (negative (pos n)) h = absurd h
number_again (negative (negsuc n)) h = number_of-negative n h
number_again (float x) h = absurd h

mutual
  has_numbers : (d : Data) → HasWholeNumbers d → HasNumbers (outline d)
  has_numbers null h = tt
  has_numbers (boolean b) h = tt
  has_numbers (number n) h = is_number n h
  has_numbers (string s) h = tt
  has_numbers (array ds) h = items_have_numbers ds h
  has_numbers (object ms) h = members_have_numbers ms h

  items_have_numbers : (ds : Items) → ItemsHaveWholeNumbers ds → ItemsHaveNumbers (items_outline ds)
  items_have_numbers no_items h = tt
  items_have_numbers (item d ds) h = (has_numbers d h.0, items_have_numbers ds h.1)

  members_have_numbers : (ms : Members) → MembersHaveWholeNumbers ms → MembersHaveNumbers (members_outline ms)
  members_have_numbers no_members h = tt
  members_have_numbers (member k d ms) h = (has_numbers d h.0, members_have_numbers ms h.1)

-- ---- depth

mutual
  depth_outline : (d : Data) → tree_depth (outline d) ≡ depth d
  depth_outline null = refl
  depth_outline (boolean b) = refl
  depth_outline (number n) = refl
  depth_outline (string s) = refl
  depth_outline (array ds) = ap suc (depth_items ds)
  depth_outline (object ms) = ap suc (depth_members ms)

  depth_items : (ds : Items) → tree_items_depth (items_outline ds) ≡ items_depth ds
  depth_items no_items = refl
  depth_items (item d ds) = ap₂ max (depth_outline d) (depth_items ds)

  depth_members : (ms : Members) → tree_members_depth (members_outline ms) ≡ members_depth ms
  depth_members no_members = refl
  depth_members (member k d ms) = ap₂ max (depth_outline d) (depth_members ms)

-- ---- members that are put one after the other

abbrev joined : Members → Members → Members
joined no_members more = more
joined (member k d ms) more = member k d (joined ms more)

joined_none : (found : Members) → joined found no_members ≡ found
joined_none no_members = refl
joined_none (member k d found) = ap (member k d) (joined_none found)

joined_assoc : (found : Members) (k : List ℕ) (d : Data) (ms : Members) → joined (joined found (member k d no_members)) ms ≡ joined found (member k d ms)
joined_assoc no_members k d ms = refl
joined_assoc (member l e found) k d ms = ap (member l e) (joined_assoc found k d ms)

-- the parts of rising keys
rising : (k : List ℕ) (d : Data) (ms : Members) → keys_rise_in_members (member k d ms) ≡ true → (keys_rise d ≡ true) × (comes_first k ms ≡ true) × (keys_rise_in_members ms ≡ true)
rising k d ms h =
    let outer = and_parts (keys_rise d && comes_first k ms) (keys_rise_in_members ms) h in
    let inner = and_parts (keys_rise d) (comes_first k ms) outer.0 in
    (inner.0, inner.1, outer.1)

behind_rise : (found ms : Members) → keys_rise_in_members (joined found ms) ≡ true → keys_rise_in_members ms ≡ true
behind_rise no_members ms h = h
behind_rise (member k d found) ms h = behind_rise found ms (rising k d (joined found ms) h).2

is_less : (o : Ordering) → match_ordering o true false false ≡ true → o ≡ Less
is_less Less h = refl
is_less Equal h = cc
is_less Greater h = cc

-- a key comes before all those behind it
comes_before : (l : List ℕ) (found : Members) (k : List ℕ) (d : Data) (ms : Members) → comes_first l (joined found (member k d ms)) ≡ true → keys_rise_in_members (joined found (member k d ms)) ≡ true
    → slice_cmp nat_cmp l k ≡ Less
comes_before l no_members k d ms first h = is_less (slice_cmp nat_cmp l k) first
comes_before l (member m e found) k d ms first h =
    let rest = rising m e (joined found (member k d ms)) h in
    nat_list_cmp_total.trans l m k (is_less (slice_cmp nat_cmp l m) first) (comes_before m found k d ms rest.1 rest.2)

put_behind : (found : Members) (k : List ℕ) (d : Data) (ms : Members) → keys_rise_in_members (joined found (member k d ms)) ≡ true → put k d found ≡ joined found (member k d no_members)
put_behind no_members k d ms h = refl
put_behind (member l e found) k d ms h =
    let rest = rising l e (joined found (member k d ms)) h in
    let above : slice_cmp nat_cmp k l ≡ Greater = nat_list_cmp_total.antisymm k l ∙ ap ordering_reverse (comes_before l found k d ms rest.1 rest.2) in
    rw above (ap (member l e) (put_behind found k d ms rest.2))

-- ---- values

mutual
  of_outline : (d : Data) → HasWholeNumbers d → keys_rise d ≡ true → of_json (outline d) ≡ Some d
  of_outline null w h = refl
  of_outline (boolean b) w h = refl
  of_outline (number n) w h = ap (option_map number) (number_again n w)
  of_outline (string s) w h = refl
  of_outline (array ds) w h = ap (option_map array) (of_items_outline ds w h)
  of_outline (object ms) w h = ap (option_map object) (of_members_outline ms no_members w h)

  of_items_outline : (ds : Items) → ItemsHaveWholeNumbers ds → keys_rise_in_items ds ≡ true → of_items (items_outline ds) ≡ Some ds
  of_items_outline no_items w h = refl
  of_items_outline (item d ds) w h =
      let both = and_parts (keys_rise d) (keys_rise_in_items ds) h in
      rw (of_outline d w.0 both.0, of_items_outline ds w.1 both.1) refl

  of_members_outline : (ms found : Members) → MembersHaveWholeNumbers ms → keys_rise_in_members (joined found ms) ≡ true → of_members (members_outline ms) found ≡ Some (joined found ms)
  of_members_outline no_members found w h = ap Some (sym (joined_none found))
  of_members_outline (member k d ms) found w h =
      let one = of_outline d w.0 (rising k d ms (behind_rise found (member k d ms) h)).0 in
      let same = joined_assoc found k d ms in
      rw (one, put_behind found k d ms h) (of_members_outline ms (joined found (member k d no_members)) w.1 (ap keys_rise_in_members same ∙ h) ∙ ap Some same)

pub read_again : (d : Data) → HasWholeNumbers d → keys_rise d ≡ true → depth d ≤ 127 → read (compact_text d) ≡ Some d
read_again d w h shallow =
    let j = outline d in
    let lexed : tokens (compact_text d) ≡ json_tokens j = ap tokens (sym (print-outline d)) ∙ tokens-print (json_tokens j) (ArePrintable-json_tokens j (has_numbers d w)) in
    let parsed : json.value max_depth (tokens (compact_text d)) ≡ Some (j, []) =
    ap (json.value max_depth) (lexed ∙ sym (append-nil (json_tokens j))) ∙ value-json_tokens j max_depth [] (omega (arith, depth_outline d, shallow)) in
    ap (λ o. option_and_then of_json (option_and_then (λ p. json.if_last p.0 p.1) o)) parsed ∙ of_outline d w h
