-- What is told of an image from time to time tells what happened to it.
use Rattle.std.proofs.Common.{◌≡◌, ℕ, List, [], ◌∷◌, ◌++◌, Some, map, refl, sym, ap, subst, ◌∙◌, append_assoc, append-nil}
use Rattle.std.specs.Prelude.{All}
use Rattle.std.specs.Str.{IsUtf8}
use Rattle.std.proofs.lemmas.List.{map-append}
use Rattle.std.proofs.lemmas.List.Elements.{All-cons, All-head, All-nil, All-tail}
use Rattle.std.proofs.lemmas.Option.{same_Some}
use Rattle.serde_json.specs.Written.{compact_text}
use Rattle.st_classes.specs.declared.edits.Edit.{Edit}
use Rattle.st_classes.specs.declared.edits.Edit.TheVariants.{Define, Install, Remove, Reparent}
use Rattle.st_classes.specs.EditLists.{AllSound, AreLawful}
use Rattle.st_classes.specs.Names.{AreNames}
use Rattle.st_wire.proofs.Lines.{value-line}
use Rattle.st_image.specs.declared.history.Item.TheVariants.{Edited, Created, Posted, Closed, Begun, Ran}
use Rattle.st_image.specs.CompiledEdits.{AllCompiled}
use Rattle.st_image.specs.Images.{ImageView, constants, world}
use Rattle.st_image.specs.WorldInvariant.{IsLawful, IsWorld}
use Rattle.st_image.specs.Worlds.{Constants, World}
use Rattle.st_image.proofs.Lasting.{named_more, names_keep}
use Rattle.st_image.proofs.Stepping.{bound}
use Rattle.st_journal.specs.declared.entries.Entry.{Entry}
use Rattle.st_journal.specs.declared.entries.Entry.TheVariants as entry
use Rattle.st_journal.specs.declared.texts.EntryText.TheVariants as text_of
use Rattle.st_journal.specs.Crashes.{IsToldBy, Place, Takes, Told}
use Rattle.st_journal.specs.Entries.{told}
use Rattle.st_journal.specs.EntryForms.{EntryIsInRange, EntryIsNamed}
use Rattle.st_journal.specs.EntryJson.{entry_json}
use Rattle.st_journal.specs.EntryLines.{SaysEntry, entries_text, entry_text}
use Rattle.st_journal.specs.EntryTexts.{lines_of}
use Rattle.st_journal.specs.Marks.{Mark, did, emptied, after, after_all}
use Rattle.st_journal.specs.Recovery.{Tells, but_names, names_in, told_mark}
use Rattle.st_journal.specs.Telling.{TellingGoesOn, WasWritten, WentOn, lines_told, telling}
use Rattle.st_journal.proofs.ItemsNamed.{mark_named}
use Rattle.st_journal.proofs.LaterTables.{told_later}
use Rattle.st_journal.proofs.LedBack.{led_on}
use Rattle.st_journal.proofs.LinesSaid.{says_again}
use Rattle.st_journal.proofs.MarksMore.{edits_behind, lead_both, mark_more, marks_more}
use Rattle.st_journal.proofs.OneLine.{entry_is_open}
use Rattle.st_journal.proofs.OneText.{front_line}
use Rattle.st_journal.proofs.Recovered.{one_mark}
use Rattle.st_journal.proofs.TextsAgain.{entry_text_again}
use Rattle.st_journal.proofs.WhatTells.{marks_behind, marks_others, marks_unnamed, names_first, told_items}

-- ---- entries one behind the other

names_both : (es fs : List Entry) → names_in (es ++ fs) ≡ names_in es ++ names_in fs
names_both [] fs = refl
names_both (entry.Name text ∷ es) fs = ap (λ (ts : List (List ℕ)). text ∷ ts) (names_both es fs)
names_both (entry.Define name parent slots ∷ es) fs = names_both es fs
names_both (entry.Install class source ∷ es) fs = names_both es fs
names_both (entry.Remove class selector ∷ es) fs = names_both es fs
names_both (entry.Reparent class parent ∷ es) fs = names_both es fs
names_both (entry.Created class ∷ es) fs = names_both es fs
names_both (entry.Posted actor message ∷ es) fs = names_both es fs
names_both (entry.Closed actor ∷ es) fs = names_both es fs
names_both (entry.Begun actor ∷ es) fs = names_both es fs
names_both (entry.Ran actor steps ∷ es) fs = names_both es fs
names_both (entry.Checkpoint ∷ es) fs = names_both es fs

others_both : (es fs : List Entry) → but_names (es ++ fs) ≡ but_names es ++ but_names fs
others_both [] fs = refl
others_both (entry.Name text ∷ es) fs = others_both es fs
others_both (entry.Define name parent slots ∷ es) fs = ap (λ (xs : List Entry). entry.Define name parent slots ∷ xs) (others_both es fs)
others_both (entry.Install class source ∷ es) fs = ap (λ (xs : List Entry). entry.Install class source ∷ xs) (others_both es fs)
others_both (entry.Remove class selector ∷ es) fs = ap (λ (xs : List Entry). entry.Remove class selector ∷ xs) (others_both es fs)
others_both (entry.Reparent class parent ∷ es) fs = ap (λ (xs : List Entry). entry.Reparent class parent ∷ xs) (others_both es fs)
others_both (entry.Created class ∷ es) fs = ap (λ (xs : List Entry). entry.Created class ∷ xs) (others_both es fs)
others_both (entry.Posted actor message ∷ es) fs = ap (λ (xs : List Entry). entry.Posted actor message ∷ xs) (others_both es fs)
others_both (entry.Closed actor ∷ es) fs = ap (λ (xs : List Entry). entry.Closed actor ∷ xs) (others_both es fs)
others_both (entry.Begun actor ∷ es) fs = ap (λ (xs : List Entry). entry.Begun actor ∷ xs) (others_both es fs)
others_both (entry.Ran actor steps ∷ es) fs = ap (λ (xs : List Entry). entry.Ran actor steps ∷ xs) (others_both es fs)
others_both (entry.Checkpoint ∷ es) fs = ap (λ (xs : List Entry). entry.Checkpoint ∷ xs) (others_both es fs)

tells_both : (here names more : List (List ℕ)) (es : List Entry) (ms ns : List Mark) → Tells here es ms names → Tells here (es ++ telling more ns) (ms ++ ns) (names ++ more)
tells_both here names more es ms ns t =
    let new : names_in (telling more ns) ≡ more = names_first more (map told_mark ns) ∙ ap (λ (ts : List (List ℕ)). more ++ ts) (marks_unnamed ns) ∙ append-nil more in
    let others : but_names (telling more ns) ≡ map told_mark ns = marks_behind more (map told_mark ns) ∙ marks_others ns in
    record {
      named =
          ap (λ (ts : List (List ℕ)). ts ++ more) t.named
          ∙ append_assoc here (names_in es) more
          ∙ ap (λ (ts : List (List ℕ)). here ++ ts) (ap (λ (ts : List (List ℕ)). names_in es ++ ts) (sym new) ∙ sym (names_both es (telling more ns)));
      marks =
          others_both es (telling more ns)
          ∙ ap (λ (xs : List Entry). xs ++ but_names (telling more ns)) t.marks
          ∙ ap (λ (xs : List Entry). map told_mark ms ++ xs) others
          ∙ sym (map-append told_mark ms ns);
    }

-- ---- what all have

all_front : {X : Type 0} (P : X → Type 0) (xs ys : List X) → All P (xs ++ ys) → All P xs
all_front P [] ys h = All-nil P
all_front P (x ∷ xs) ys h = All-cons P x xs (All-head P x (xs ++ ys) h) (all_front P xs ys (All-tail P x (xs ++ ys) h))

all_back : {X : Type 0} (P : X → Type 0) (xs ys : List X) → All P (xs ++ ys) → All P ys
all_back P [] ys h = h
all_back P (x ∷ xs) ys h = all_back P xs ys (All-tail P x (xs ++ ys) h)

-- ---- lines

each_line : (names : List (List ℕ)) (edits : List Edit) (es : List Entry) → lines_told names edits es ≡ map (entry_text names edits) es
each_line names edits [] = refl
each_line names edits (e ∷ es) =
    let front = entry_text names edits e in
    let rest = entries_text names edits es in
    ap lines_of (append_assoc front (10 ∷ []) rest)
    ∙ front_line front rest (entry_is_open names edits e)
    ∙ ap (λ (ls : List (List ℕ)). front ∷ ls) (each_line names edits es)

-- the line of an entry says it by the class table of then, though it was written by a later one
says_then : (names : List (List ℕ)) (edits later all : List Edit) (e : Entry) → AreNames names → AreLawful edits → all ≡ edits ++ later → EntryIsNamed names edits e → EntryIsInRange e
    → WasWritten names all e → SaysEntry names edits (entry_text names all e) e
says_then names edits later all e are lawful is named range written =
    let json : entry_json names all e ≡ entry_json names edits e =
    ap (λ (es : List Edit). entry_json names es e) is
    ∙ ap (λ (ns : List (List ℕ)). entry_json ns (edits ++ later) e) (sym (append-nil names))
    ∙ told_later names [] edits later e lawful named in
    let text : entry_text names all e ≡ entry_text names edits e = ap compact_text json in
    subst (λ (t : List ℕ). SaysEntry names edits t e) (sym text)
    (says_again names edits e are lawful (subst IsUtf8 text written.1) (record { named = named; text = written.0; in_range = range }))

says_name : (here names : List (List ℕ)) (edits all : List Edit) (text : List ℕ) → WasWritten names all (entry.Name text) → SaysEntry here edits (entry_text names all (entry.Name text)) (entry.Name text)
says_name here names edits all text written = record {
  value = entry_json names all (entry.Name text);
  json = value-line (entry_text names all (entry.Name text)) (entry_json names all (entry.Name text)) (written.1, entry_text_again names all (entry.Name text) tt);
  tells = record { text = text_of.Name text; read = refl; meant = refl };
}

-- ---- what went on is told

mark_takes : (c : Constants) (p q : Place) (m : Mark) → p.marks ≡ m ∷ q.marks → after c p.world m ≡ Some q.world → q.names ≡ p.names → Takes c p (told_mark m) q
mark_takes c p q (did (Edited (Define name parent slots))) first led same = (did (Edited (Define name parent slots)), first, led, same)
mark_takes c p q (did (Edited (Install k m))) first led same = (did (Edited (Install k m)), first, led, same)
mark_takes c p q (did (Edited (Remove k s))) first led same = (did (Edited (Remove k s)), first, led, same)
mark_takes c p q (did (Edited (Reparent k l))) first led same = (did (Edited (Reparent k l)), first, led, same)
mark_takes c p q (did (Created k)) first led same = (did (Created k), first, led, same)
mark_takes c p q (did (Posted a m)) first led same = (did (Posted a m), first, led, same)
mark_takes c p q (did (Closed a)) first led same = (did (Closed a), first, led, same)
mark_takes c p q (did (Begun a)) first led same = (did (Begun a), first, led, same)
mark_takes c p q (did (Ran a n)) first led same = (did (Ran a n), first, led, same)
mark_takes c p q emptied first led same = (emptied, first, led, same)

abbrev at_place : List (List ℕ) → World → List Mark → Place
at_place names w ms = record { names = names; world = w; marks = ms }

module _ (c : Constants) (edits : List Edit) (sound : AllSound edits) (are : AreNames c.names) where
  abbrev lines_by : List Entry → List (List ℕ)
  lines_by es = map (entry_text c.names edits) es

  told_marks : (ms : List Mark) (w v : World) (later : List Edit) → IsWorld c w → after_all c w ms ≡ Some v → edits ≡ v.edits ++ later
      → All EntryIsInRange (map told_mark ms) → All (WasWritten c.names edits) (map told_mark ms) → Told c (at_place c.names w ms) (map told_mark ms) (lines_by (map told_mark ms))
  told_marks [] w v later h led is range written = refl
  told_marks (m ∷ ms) w v later h led is range written =
      let p = bound (λ u. after_all c u ms) (after c w m) v led in
      let first = one_mark c w p.0 m p.1 in
      let behind = edits_behind c [] edits sound p.0 v ms later p.2 is in
      let here : edits ≡ w.edits ++ (first.0 ++ behind.0) = behind.1 ∙ ap (λ (es : List Edit). es ++ behind.0) first.1 ∙ append_assoc w.edits first.0 behind.0 in
      let on = mark_more c [] edits sound w p.0 m behind.0 h p.1 behind.1 in
      let rest = map told_mark ms in (
        says_then c.names w.edits (first.0 ++ behind.0) edits (told_mark m) are h.lawful here (mark_named c w h p.0 m p.1)
            (All-head EntryIsInRange (told_mark m) rest range) (All-head (WasWritten c.names edits) (told_mark m) rest written),
        at_place c.names p.0 ms,
        mark_takes c (at_place c.names w (m ∷ ms)) (at_place c.names p.0 ms) m refl p.1 refl,
        told_marks ms p.0 v later on.1 p.2 is (All-tail EntryIsInRange (told_mark m) rest range) (All-tail (WasWritten c.names edits) (told_mark m) rest written),
      )

  told_names : (more here : List (List ℕ)) (w : World) (ms : List Mark) (es : List Entry) (lines : List (List ℕ)) → All (WasWritten c.names edits) (map entry.Name more)
      → Told c (at_place (here ++ more) w ms) es lines → Told c (at_place here w ms) (map entry.Name more ++ es) (lines_by (map entry.Name more) ++ lines)
  told_names [] here w ms es lines written told = subst (λ (ns : List (List ℕ)). Told c (at_place ns w ms) es lines) (append-nil here) told
  told_names (text ∷ more) here w ms es lines written told =
      let rest = map entry.Name more in (
        says_name here c.names w.edits edits text (All-head (WasWritten c.names edits) (entry.Name text) rest written),
        at_place (here ++ text ∷ []) w ms,
        refl,
        told_names more (here ++ text ∷ []) w ms es lines (All-tail (WasWritten c.names edits) (entry.Name text) rest written)
            (subst (λ (ns : List (List ℕ)). Told c (at_place ns w ms) es lines) (sym (append_assoc here (text ∷ []) more)) told),
      )

-- ---- what was told so far, with more names, and what is told behind it

abbrev further : List Mark → Place → Place
further ns p = record p { marks = p.marks ++ ns }

-- what holds at a place: the entries that are left tell what led from there to a world, of whose edits the later ones are known
record Before (c : Constants) (p : Place) (es : List Entry) (names : List (List ℕ)) (w : World) : Type 0 where
  is_world : IsWorld c p.world
  named : names ≡ p.names ++ names_in es
  led : after_all c p.world p.marks ≡ Some w

module _ (c : Constants) (more : List (List ℕ)) (edits later : List Edit) (sound : AllSound edits) (w : World) (all : edits ≡ w.edits ++ later) (names : List (List ℕ)) (ns : List Mark) where
  abbrev Next : Place → Entry → List Entry → Place → Type 0
  Next p e es q = Takes (named_more c more) (further ns p) e (further ns q) × Before c q es names w

  -- the next mark is taken
  abbrev TakesMark : Constants → Place → Place → Type 0
  TakesMark k p q = (m : Mark) × (p.marks ≡ m ∷ q.marks) × (after k p.world m ≡ Some q.world) × (q.names ≡ p.names)

  mark_on : (p q : Place) (es : List Entry) → IsWorld c p.world → names ≡ p.names ++ names_in es → after_all c p.world p.marks ≡ Some w → TakesMark c p q
      → TakesMark (named_more c more) (further ns p) (further ns q) × Before c q es names w
  mark_on p q es h named led takes =
      let m : Mark = takes.0 in
      let rest : after_all c q.world q.marks ≡ Some w = led_on c p.world q.world w m q.marks takes.2 (ap (λ (ms : List Mark). after_all c p.world ms) (sym takes.1) ∙ led) in
      let behind = edits_behind c more edits sound q.world w q.marks later rest all in
      let on = mark_more c more edits sound p.world q.world m behind.0 h takes.2 behind.1 in (
        (m, ap (λ (ms : List Mark). ms ++ ns) takes.1, on.0, takes.3),
        record { is_world = on.1; named = named ∙ ap (λ (ts : List (List ℕ)). ts ++ names_in es) (sym takes.3); led = rest },
      )

  name_on : (p q : Place) (text : List ℕ) (es : List Entry) → Before c p (entry.Name text ∷ es) names w → q ≡ record p { names = p.names ++ text ∷ [] } → Next p (entry.Name text) es q
  name_on p q text es b takes = (
    ap (further ns) takes,
    subst (λ (r : Place). Before c r es names w) (sym takes)
        (record { is_world = b.is_world; named = b.named ∙ sym (append_assoc p.names (text ∷ []) (names_in es)); led = b.led }),
  )

  next_on : (p q : Place) (e : Entry) (es : List Entry) → Before c p (e ∷ es) names w → Takes c p e q → Next p e es q
  next_on p q (entry.Name text) es b takes = name_on p q text es b takes
  next_on p q (entry.Define name parent slots) es b takes = mark_on p q es b.is_world b.named b.led takes
  next_on p q (entry.Install class source) es b takes = mark_on p q es b.is_world b.named b.led takes
  next_on p q (entry.Remove class selector) es b takes = mark_on p q es b.is_world b.named b.led takes
  next_on p q (entry.Reparent class parent) es b takes = mark_on p q es b.is_world b.named b.led takes
  next_on p q (entry.Created class) es b takes = mark_on p q es b.is_world b.named b.led takes
  next_on p q (entry.Posted actor message) es b takes = mark_on p q es b.is_world b.named b.led takes
  next_on p q (entry.Closed actor) es b takes = mark_on p q es b.is_world b.named b.led takes
  next_on p q (entry.Begun actor) es b takes = mark_on p q es b.is_world b.named b.led takes
  next_on p q (entry.Ran actor steps) es b takes = mark_on p q es b.is_world b.named b.led takes
  next_on p q entry.Checkpoint es b takes = mark_on p q es b.is_world b.named b.led takes

  -- the place where all was told
  at_end : (p : Place) → Before c p [] names w → p.marks ≡ [] → at_place names w ns ≡ further ns p
  at_end p b none =
      let there : w ≡ p.world = sym (same_Some p.world w (ap (λ (ms : List Mark). after_all c p.world ms) (sym none) ∙ b.led)) in
      ap (λ (ts : List (List ℕ)). at_place ts w ns) (b.named ∙ append-nil p.names)
      ∙ ap (λ (v : World). at_place p.names v ns) there
      ∙ ap (λ (ms : List Mark). at_place p.names p.world (ms ++ ns)) (sym none)

  told_on : (es : List Entry) (lines : List (List ℕ)) (p : Place) (fs : List Entry) (rest : List (List ℕ)) → Before c p es names w → Told c p es lines
      → Told (named_more c more) (at_place names w ns) fs rest → Told (named_more c more) (further ns p) (es ++ fs) (lines ++ rest)
  told_on [] [] p fs rest b told behind = subst (λ (q : Place). Told (named_more c more) q fs rest) (at_end p b told) behind
  told_on [] (line ∷ lines) p fs rest b told behind = absurd told
  told_on (e ∷ es) [] p fs rest b told behind = absurd told
  told_on (e ∷ es) (line ∷ lines) p fs rest b told behind =
      let on = next_on p told.1 e es b told.2 in
      (told.0, further ns told.1, on.0, told_on es lines told.1 fs rest on.1 told.3 behind)

-- ---- an image

told_nothing : (i : ImageView) → AllCompiled i.names (world i).edits → IsToldBy i [] i.names (world i)
told_nothing i compiled = record {
  entries = [];
  marks = [];
  tells = record { named = sym (append-nil i.names); marks = refl };
  happened = record { led = refl; compiled = compiled };
  told = refl;
}

-- the world of an image is one with all names that there will be
is_world_with : (i : ImageView) (names more : List (List ℕ)) → IsLawful i → names ≡ i.names ++ more → IsWorld (record { names = names; capacity = i.capacity }) (world i)
is_world_with i names more lawful is =
    subst (λ (ns : List (List ℕ)). IsWorld (record { names = ns; capacity = i.capacity }) (world i)) (sym is) (names_keep (constants i) more (world i) lawful.standing)

told_more : (i : ImageView) (lines : List (List ℕ)) (names more : List (List ℕ)) (w : World) (ms : List Mark) (v : World) (edits : List Edit) → IsLawful i → IsToldBy i lines names w
    → WentOn i names more w ms v edits → IsToldBy i (lines ++ lines_told (names ++ more) edits (telling more ms)) (names ++ more) v
told_more i lines names more w ms v edits lawful t g =
    let c : Constants = record { names = names; capacity = i.capacity } in
    let k : Constants = named_more c more in
    let here : IsWorld c (world i) = is_world_with i names (names_in t.entries) lawful t.tells.named in
    let behind = edits_behind k [] edits g.sound w v ms g.later.0 g.led g.later.1 in
    let so_far = marks_more c more edits g.sound t.marks (world i) w behind.0 here t.happened.led behind.1 in
    let marks = map told_mark ms in
    let named = map entry.Name more in
    let new : Told k (at_place names w ms) (telling more ms) (map (entry_text k.names edits) named ++ map (entry_text k.names edits) marks) =
    told_names k edits g.sound g.are_names more names w ms marks (map (entry_text k.names edits) marks) (all_front (WasWritten k.names edits) named marks g.written)
    (told_marks k edits g.sound g.are_names ms w v g.later.0 (names_keep c more w so_far.1) g.led g.later.1
    (all_back EntryIsInRange named marks g.in_range) (all_back (WasWritten k.names edits) named marks g.written)) in
    let lines_are : map (entry_text k.names edits) named ++ map (entry_text k.names edits) marks ≡ lines_told k.names edits (telling more ms) =
    sym (map-append (entry_text k.names edits) named marks) ∙ sym (each_line k.names edits (telling more ms)) in
    record {
      entries = t.entries ++ telling more ms;
      marks = t.marks ++ ms;
      tells = tells_both i.names names more t.entries t.marks ms t.tells;
      happened = record { led = lead_both k t.marks ms (world i) w v so_far.0 g.led; compiled = g.compiled };
      told = told_on c more edits behind.0 g.sound w behind.1 names ms t.entries lines (at_place i.names (world i) t.marks) (telling more ms) (lines_told k.names edits (telling more ms))
          (record { is_world = here; named = t.tells.named; led = t.happened.led })
          t.told
          (subst (λ (ls : List (List ℕ)). Told k (at_place names w ms) (telling more ms) ls) lines_are new);
    }

pub telling_goes_on : TellingGoesOn
telling_goes_on = record { items = told_items; nothing = told_nothing; more = told_more }
