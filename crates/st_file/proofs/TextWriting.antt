-- Texts that are put into a writer one after the other.
use Rattle.std.proofs.Common.{◌≡◌, ℕ, ◌+◌, ◌<◌, Bool, false, true, List, [], ◌∷◌, ◌++◌, length, drop, slice_get, map, refl, sym, ap, ◌∙◌, subst, append_assoc, append-nil, add-one, arith, None, Some, inl, inr, Result, Ok, Err, MatchResult}
use Rattle.std.proofs.KnownBytes.{Appends-trans}
use Rattle.std.specs.Io.KnownBytes.{Appends}
use mathlib.Core.List.{IsPrefix}
use Rattle.std.proofs.lemmas.List.{length-append}
use Rattle.std.proofs.lemmas.Option.{slice_get_cases}
use Rattle.std.proofs.lemmas.Str.{IsUtf8-append}
use Rattle.json.specs.Print.{quoted}
use Rattle.serde_json.specs.Data.{Data, array, Items, item}
use Rattle.serde_json.specs.View.{items_of}
use Rattle.serde_json.specs.Written.{comma_if, compact_text, items_text}
use Rattle.st_wire.specs.Streams.{one_more}
use Rattle.st_image.proofs.OneMore.{rest_at}
use Rattle.st_file.specs.declared.saving.text_writer.TextWriter.{TextWriter}
use Rattle.st_file.specs.TextWriters.{DeviceView, EndsAt, Leaves, PutsTo, SendsTo, StoresTo, Takes}

-- ---- bytes behind bytes

along : (held mid after sent more xs ys : List ℕ) → sent ++ mid ≡ held ++ xs → more ++ after ≡ mid ++ ys → (sent ++ more) ++ after ≡ held ++ (xs ++ ys)
along held mid after sent more xs ys a b =
    append_assoc sent more after
    ∙ ap (λ (l : List ℕ). sent ++ l) b
    ∙ sym (append_assoc sent mid ys)
    ∙ ap (λ (l : List ℕ). l ++ ys) a
    ∙ append_assoc held xs ys

takes_then : (x y z : Bool) (held mid after xs ys sent more : List ℕ) (f g h : ℕ) → Takes x y held mid xs sent f g → Takes y z mid after ys more g h → Takes x z held after (xs ++ ys) (sent ++ more) f h
takes_then false false false held mid after xs ys sent more f g h a b = (along held mid after sent more xs ys a.0 b.0, b.1 ∙ a.1)
takes_then false false true held mid after xs ys sent more f g h a b = ((b.0.0, along held mid b.0.0 sent more xs ys a.0 b.0.1), b.1 ∙ ap one_more a.1)
takes_then false true true held mid after xs ys sent more f g h a b = (
  (
    a.0.0 ++ ys,
    ap (λ (l : List ℕ). (sent ++ l) ++ (a.0.0 ++ ys)) b.0
        ∙ ap (λ (l : List ℕ). l ++ (a.0.0 ++ ys)) (append-nil sent)
        ∙ sym (append_assoc sent a.0.0 ys)
        ∙ ap (λ (l : List ℕ). l ++ ys) a.0.1
        ∙ append_assoc held xs ys,
  ),
  b.1 ∙ a.1,
)
takes_then false true false held mid after xs ys sent more f g h a b = absurd b
takes_then true true true held mid after xs ys sent more f g h a b =
    (ap (λ (l : List ℕ). l ++ more) a.0 ∙ b.0, b.1 ∙ a.1)
takes_then true true false held mid after xs ys sent more f g h a b = absurd b
takes_then true false z held mid after xs ys sent more f g h a b = absurd a

pub stores_then : {a b c : DeviceView} {p q r : TextWriter} {xs ys : List ℕ} → StoresTo a b p q xs → StoresTo b c q r ys → StoresTo a c p r (xs ++ ys)
stores_then {a} {b} {c} {p} {q} {r} {xs} {ys} first more = record {
  sent = first.sent ++ more.sent;
  appended = Appends-trans a.contents b.contents c.contents first.sent more.sent first.appended more.appended;
  taken = takes_then p.has_failed q.has_failed r.has_failed p.held.items q.held.items r.held.items xs ys first.sent more.sent a.failures b.failures c.failures first.taken more.taken;
  unflushed = more.unflushed ∙ first.unflushed;
}

-- the same of a writer that has failed alike and holds the same
pub stores_same : {a b : DeviceView} {q r : TextWriter} {bytes : List ℕ} (p : TextWriter) → q.has_failed ≡ p.has_failed → q.held.items ≡ p.held.items → StoresTo a b q r bytes → StoresTo a b p r bytes
stores_same {a} {b} {q} {r} {bytes} p failed held h = record {
  sent = h.sent;
  appended = h.appended;
  taken = rw (← failed, ← held) h.taken;
  unflushed = h.unflushed;
}

-- what a device refused may be followed by more
refused_more : (x y : Bool) (held after bytes sent : List ℕ) (f g : ℕ) → y ≡ true → Takes x y held after [] sent f g → Takes x y held after bytes sent f g
refused_more false true held after bytes sent f g e t =
    ((t.0.0 ++ bytes, sym (append_assoc sent t.0.0 bytes) ∙ ap (λ (l : List ℕ). l ++ bytes) (t.0.1 ∙ append-nil held)), t.1)
refused_more true true held after bytes sent f g e t = t
refused_more false false held after bytes sent f g e t = let never : false ≡ true = e in cc
refused_more true false held after bytes sent f g e t = absurd t

pub sends_refused : {a b : DeviceView} {p q : TextWriter} (bytes : List ℕ) → q.has_failed ≡ true → StoresTo a b p q [] → SendsTo a b p q bytes
sends_refused {a} {b} {p} {q} bytes failed h = record {
  stores = record {
    sent = h.sent;
    appended = h.appended;
    taken = refused_more p.has_failed q.has_failed p.held.items q.held.items bytes h.sent a.failures b.failures failed h.taken;
    unflushed = h.unflushed;
  };
  counted = λ e. let never : true ≡ false = sym failed ∙ e in cc;
}

-- a device that has not failed had not failed
not_before : (y z : Bool) (held after xs sent : List ℕ) (f g : ℕ) → Takes y z held after xs sent f g → z ≡ false → y ≡ false
not_before false z held after xs sent f g t e = refl
not_before true false held after xs sent f g t e = absurd t
not_before true true held after xs sent f g t e = cc

pub sends_then : {a b c : DeviceView} {p q r : TextWriter} {xs ys : List ℕ} → SendsTo a b p q xs → SendsTo b c q r ys → SendsTo a c p r (xs ++ ys)
sends_then {p = p} {q = q} {r = r} {xs = xs} {ys = ys} first more = record {
  stores = stores_then first.stores more.stores;
  counted = λ e.
      let one = first.counted (not_before q.has_failed r.has_failed _ _ _ _ _ _ more.stores.taken e) in
      let two = more.counted e in
      let sum = length-append xs ys in
      omega (arith, one, two, sum);
}

-- ---- the end

ends_by : {E : Type 0} (y : Bool) (r : Result ℕ E) (after sent more text : List ℕ) (count f g : ℕ) (b c : DeviceView) → Takes false y [] after text sent f g → (y ≡ false → count ≡ length text) → Leaves y r count after more b c
    → MatchResult r (λ n. (sent ++ more ≡ text) × (n ≡ length (sent ++ more))) (λ _. IsPrefix (sent ++ more) text)
ends_by false (Ok n) after sent more text count f g b c taken counted left =
    let whole : sent ++ more ≡ text = ap (λ (l : List ℕ). sent ++ l) left.0 ∙ taken.0 in
    (whole, left.1 ∙ counted refl ∙ ap length (sym whole))
ends_by false (Err e) after sent more text count f g b c taken counted left =
    (left.0.0, append_assoc sent more left.0.0 ∙ ap (λ (l : List ℕ). sent ++ l) left.0.1 ∙ taken.0)
ends_by true (Ok n) after sent more text count f g b c taken counted left = absurd left
ends_by true (Err e) after sent more text count f g b c taken counted left =
    (taken.0.0, ap (λ (l : List ℕ). l ++ taken.0.0) (ap (λ (l : List ℕ). sent ++ l) left.0 ∙ append-nil sent) ∙ taken.0.1)

-- what was put into a new writer is written when it is finished, or a front of it is
pub finished : {E : Type 0} {a b c : DeviceView} {p q : TextWriter} (r : Result ℕ E) (text : List ℕ) → p.has_failed ≡ false → p.held.items ≡ [] → p.count ≡ 0 → SendsTo a b p q text → EndsAt b c q r
    → (part : List ℕ) × Appends a.contents c.contents part × MatchResult r (λ n. (part ≡ text) × (n ≡ length part)) (λ _. IsPrefix part text)
finished {a = a} {b} {c} {p} {q} r text unfailed nothing none sends ends =
    let taken : Takes false q.has_failed [] q.held.items text sends.stores.sent a.failures b.failures = rw (unfailed, nothing) at sends.stores.taken in
    let counted : q.has_failed ≡ false → q.count ≡ length text = λ e. omega (arith, sends.counted e, none) in (
      sends.stores.sent ++ ends.sent,
      Appends-trans a.contents b.contents c.contents sends.stores.sent ends.sent sends.stores.appended ends.appended,
      ends_by q.has_failed r q.held.items sends.stores.sent ends.sent text q.count a.failures b.failures b c taken counted ends.left,
    )

-- ---- texts behind texts

pub puts_then : {a b c : DeviceView} {p q r : TextWriter} {xs ys : List ℕ} → PutsTo a b p q xs → PutsTo b c q r ys → PutsTo a c p r (xs ++ ys)
puts_then {xs = xs} {ys = ys} first more = record { sends = sends_then first.sends more.sends; utf8 = IsUtf8-append xs ys first.utf8 more.utf8 }

-- a member of an object, and what follows
pub puts_member : {a b c d : DeviceView} {p q r s : TextWriter} {value rest : List ℕ} (later : Bool) (key : List ℕ)
    → PutsTo a b p q (comma_if later ++ (quoted key ++ 58 ∷ []))
    → PutsTo b c q r value
    → PutsTo c d r s rest
    → PutsTo a d p s (comma_if later ++ (quoted key ++ 58 ∷ (value ++ rest)))
puts_member {a} {d = d} {p} {s = s} {value} {rest} later key first then more =
    let same : (comma_if later ++ (quoted key ++ 58 ∷ [])) ++ (value ++ rest) ≡ comma_if later ++ (quoted key ++ 58 ∷ (value ++ rest)) =
    append_assoc (comma_if later) (quoted key ++ 58 ∷ []) (value ++ rest) ∙ ap (λ (l : List ℕ). comma_if later ++ l) (append_assoc (quoted key) (58 ∷ []) (value ++ rest)) in
    subst (PutsTo a d p s) same (puts_then first (puts_then then more))

-- an item of a list, and what follows
pub puts_item : {a b c d : DeviceView} {p q r s : TextWriter} (later : Bool) (value : Data) (more : Items)
    → PutsTo a b p q (comma_if later)
    → PutsTo b c q r (compact_text value)
    → PutsTo c d r s (items_text true more)
    → PutsTo a d p s (items_text later (item value more))
puts_item later value more first then rest = puts_then first (puts_then then rest)

-- a list, behind its opening bracket
pub puts_array : {a b c : DeviceView} {p q r : TextWriter} (ds : Items) → PutsTo a b p q (91 ∷ []) → PutsTo b c q r (items_text false ds) → PutsTo a c p r (compact_text (array ds))
puts_array ds first more = puts_then first more

-- ---- items by their places

-- the next of some items, and what follows
pub puts_next : {X : Type 0} {a b c d : DeviceView} {p q r s : TextWriter} (later : Bool) (json : X → Data) (xs : List X) (n : ℕ) (x : X) → slice_get xs n ≡ Some x
    → PutsTo a b p q (comma_if later)
    → PutsTo b c q r (compact_text (json x))
    → PutsTo c d r s (items_text true (items_of (map json (drop (n + 1) xs))))
    → PutsTo a d p s (items_text later (items_of (map json (drop n xs))))
puts_next later json xs n x at first then rest = rw (rest_at xs n x at) (puts_item later (json x) _ first then (rw (add-one) at rest))

-- the same of items before others
pub puts_before : {X : Type 0} {a b c d : DeviceView} {p q r s : TextWriter} (later : Bool) (json : X → Data) (xs others : List X) (n : ℕ) (x : X) → slice_get xs n ≡ Some x
    → PutsTo a b p q (comma_if later)
    → PutsTo b c q r (compact_text (json x))
    → PutsTo c d r s (items_text true (items_of (map json (drop (n + 1) xs ++ others))))
    → PutsTo a d p s (items_text later (items_of (map json (drop n xs ++ others))))
puts_before later json xs others n x at first then rest = rw (rest_at xs n x at) (puts_item later (json x) _ first then (rw (add-one) at rest))

-- an item within a list is there
pub is_there : {X : Type 0} (xs : List X) (n : ℕ) → n < length xs → slice_get xs n ≡ None → ⊥
is_there xs n h none = elim (slice_get_cases xs n).1 [
  | inl found ↦ let never : None ≡ Some found.0 = sym none ∙ found.2 in cc
  | inr past ↦ omega (arith, h, past.0)
]
