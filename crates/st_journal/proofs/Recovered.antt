-- Entries that tell what happened lead to where it led.
use Rattle.std.proofs.Common.{◌≡◌, ℕ, List, [], ◌∷◌, ◌++◌, length, take, false, Option, Some, None, option_and_then, refl, sym, ap, subst, ◌∙◌, append_assoc, append-nil}
use Rattle.std.specs.Prelude.{All, map, slice_get}
use Rattle.std.proofs.lemmas.List.Elements.{All-cons, All-nil}
use Rattle.std.proofs.lemmas.Option.{same_Some}
use Rattle.st_classes.specs.declared.edits.Edit.{Edit}
use Rattle.st_classes.specs.declared.edits.Edit.TheVariants.{Define, Install, Remove, Reparent}
use Rattle.st_classes.specs.EditLists.{AllSound, IsSoundEdit}
use Rattle.st_classes.specs.Names.{interned, is_name}
use Rattle.st_classes.proofs.LawLists.{slice_get_here, take_whole}
use Rattle.st_reader.specs.Spelling.{OneReading}
use Rattle.st_image.specs.declared.history.Item.{Item}
use Rattle.st_image.specs.declared.history.Item.TheVariants.{Edited, Created, Posted, Closed, Begun, Ran}
use Rattle.st_image.specs.Checkpoints.{BeginsAnew}
use Rattle.st_image.specs.CompiledEdits.{AllCompiled, IsCompiledEdit, IsCompiledFrom}
use Rattle.st_image.specs.Images.{ImageView, constants, world, world_of}
use Rattle.st_image.specs.Parts.{rebase}
use Rattle.st_image.specs.RanTargets.{edits_among}
use Rattle.st_image.specs.Replay.{next, replay}
use Rattle.st_image.specs.WorldInvariant.{IsLawful, IsSoundItem, IsWorld}
use Rattle.st_image.specs.Worlds.{Constants, World}
use Rattle.st_image.proofs.GrowingEdits.{replay_edits}
use Rattle.st_image.proofs.GrowingNames.{replay_more}
use Rattle.st_image.proofs.Lasting.{named_more}
use Rattle.st_image.proofs.Stepping.{bound}
use Rattle.st_journal.specs.declared.entries.Entry.{Entry}
use Rattle.st_journal.specs.declared.entries.Entry.TheVariants as entry
use Rattle.st_journal.specs.Entries.{Does, IsCompiledItem, IsNamed, LeadsAll, told}
use Rattle.st_journal.specs.Marks.{Mark, did, emptied, after, after_all}
use Rattle.st_journal.specs.Recovery.{ComesToTheImage, Happened, RedoneIsWhatWasTold, Tells, but_names, names_in, told_mark}
use Rattle.st_journal.proofs.GoingOn.{free_where_ready, goes_on, same_counts}
use Rattle.st_journal.proofs.Methods.{never_emptied, same_item}

-- ---- edits

-- the edits behind an item
item_edits : (c : Constants) (w u : World) (x : Item) → next c w x ≡ Some u → u.edits ≡ w.edits ++ edits_among (x ∷ [])
item_edits c w u x e = replay_edits c w u (x ∷ []) (ap (λ (o : Option World). option_and_then (λ v. replay c v []) o) e)

pub one_mark : (c : Constants) (w u : World) (m : Mark) → after c w m ≡ Some u → (more : List Edit) × (u.edits ≡ w.edits ++ more)
one_mark c w u (did x) e = (edits_among (x ∷ []), item_edits c w u x e)
one_mark c w u emptied e = ([], ap (λ (v : World). v.edits) (sym (same_Some (rebase w) u e)) ∙ sym (append-nil w.edits))

pub more_edits : (c : Constants) (w v : World) (ms : List Mark) → after_all c w ms ≡ Some v → (more : List Edit) × (v.edits ≡ w.edits ++ more)
more_edits c w v [] e = ([], ap (λ (u : World). u.edits) (sym (same_Some w v e)) ∙ sym (append-nil w.edits))
more_edits c w v (m ∷ ms) e =
    let p = bound (λ u. after_all c u ms) (after c w m) v e in
    let first = one_mark c w p.0 m p.1 in
    let rest = more_edits c p.0 v ms p.2 in
    (first.0 ++ rest.0, rest.1 ∙ ap (λ (es : List Edit). es ++ rest.0) first.1 ∙ append_assoc w.edits first.0 rest.0)

-- an edit among compiled ones is compiled, and one among sound ones is sound
compiled_there : (names : List (List ℕ)) (edits more : List Edit) (e : Edit) (all : List Edit) → all ≡ edits ++ e ∷ more → AllCompiled names all → IsCompiledEdit names edits e
compiled_there names edits more (Define name parent slots) all is h = tt
compiled_there names edits more (Install c m) all is h =
    let at : slice_get all (length edits) ≡ Some (Install c m) = ap (λ (es : List Edit). slice_get es (length edits)) is ∙ slice_get_here edits (Install c m) more in
    let before : take (length edits) all ≡ edits = ap (λ (es : List Edit). take (length edits) es) is ∙ take_whole edits (Install c m ∷ more) in
    subst (λ (es : List Edit). IsCompiledFrom names es c m) before (h (length edits) c m at)
compiled_there names edits more (Remove c s) all is h = tt
compiled_there names edits more (Reparent c p) all is h = tt

sound_there : (edits more : List Edit) (e : Edit) (all : List Edit) → all ≡ edits ++ e ∷ more → AllSound all → IsSoundEdit e
sound_there edits more (Define name parent slots) all is h = tt
sound_there edits more (Install c m) all is h = h (length edits) c m (ap (λ (es : List Edit). slice_get es (length edits)) is ∙ slice_get_here edits (Install c m) more)
sound_there edits more (Remove c s) all is h = tt
sound_there edits more (Reparent c p) all is h = tt

pub compiled_item : (names : List (List ℕ)) (c : Constants) (w u : World) (x : Item) (more : List Edit) (all : List Edit) → next c w x ≡ Some u → all ≡ u.edits ++ more → AllCompiled names all → IsCompiledItem names w.edits x
compiled_item names c w u (Edited e) more all n is h =
    compiled_there names w.edits more e all (is ∙ ap (λ (es : List Edit). es ++ more) (item_edits c w u (Edited e) n) ∙ append_assoc w.edits (e ∷ []) more) h
compiled_item names c w u (Created class) more all n is h = tt
compiled_item names c w u (Posted a m) more all n is h = tt
compiled_item names c w u (Closed a) more all n is h = tt
compiled_item names c w u (Begun a) more all n is h = tt
compiled_item names c w u (Ran a k) more all n is h = tt

pub sound_item : (c : Constants) (w u : World) (x : Item) (more : List Edit) (all : List Edit) → next c w x ≡ Some u → all ≡ u.edits ++ more → AllSound all → IsSoundItem x
sound_item c w u (Edited e) more all n is h =
    sound_there w.edits more e all (is ∙ ap (λ (es : List Edit). es ++ more) (item_edits c w u (Edited e) n) ∙ append_assoc w.edits (e ∷ []) more) h
sound_item c w u (Created class) more all n is h = tt
sound_item c w u (Posted a m) more all n is h = tt
sound_item c w u (Closed a) more all n is h = tt
sound_item c w u (Begun a) more all n is h = tt
sound_item c w u (Ran a k) more all n is h = tt

-- ---- one entry

-- where an item leads, it leads with more names
pub item_more : (c : Constants) (more : List (List ℕ)) (w u : World) (x : Item) → IsWorld c w → IsSoundItem x → next c w x ≡ Some u → next (named_more c more) w x ≡ Some u
item_more c more w u x is_world sound e =
    let k = named_more c more in
    let whole : replay c w (x ∷ []) ≡ Some u = ap (λ (o : Option World). option_and_then (λ v. replay c v []) o) e in
    let all : All IsSoundItem (x ∷ []) = All-cons IsSoundItem x [] sound (All-nil IsSoundItem) in
    let p = bound (λ v. replay k v []) (next k w x) u (replay_more c more w u (x ∷ []) is_world all whole) in
    p.1 ∙ p.2

pub grown : (i m : ImageView) (more : List (List ℕ)) (x : Item) → IsLawful i → IsLawful m → next (constants i) (world i) x ≡ Some (world m) → next (named_more (constants i) more) (world i) x ≡ Some (world m)
grown i m more x before behind e =
    let sound : IsSoundItem x = sound_item (constants i) (world i) (world m) x [] (world m).edits e (sym (append-nil (world m).edits)) behind.standing.sound in
    item_more (constants i) more (world i) (world m) x before.standing sound e

-- what is still to be done behind an entry: it tells the rest of what happened
record Rest (m : ImageView) (es : List Entry) (names : List (List ℕ)) (v : World) : Type 0 where
  marks : List Mark
  tells : Tells m.names es marks names
  happened : Happened (record { names = names; capacity = m.capacity }) (world m) marks v

happened_there : (names : List (List ℕ)) (n k : ℕ) (w u : World) (ms : List Mark) (v : World) → n ≡ k → w ≡ u → after_all (record { names = names; capacity = n }) w ms ≡ Some v → after_all (record { names = names; capacity = k }) u ms ≡ Some v
happened_there names n k w u ms v capacities worlds e =
    ap (λ (x : ℕ). after_all (record { names = names; capacity = x }) u ms) (sym capacities)
    ∙ ap (λ (x : World). after_all (record { names = names; capacity = n }) x ms) (sym worlds)
    ∙ e

did_one : (i m : ImageView) (e : Entry) (es : List Entry) (y : Item) (ms : List Mark) (names : List (List ℕ)) (v : World) → OneReading → IsLawful i → IsLawful m → Does i e m
    → names ≡ i.names ++ names_in es → e ≡ told y → but_names es ≡ map told_mark ms → Happened (record { names = names; capacity = i.capacity }) (world i) (did y ∷ ms) v → Rest m es names v
did_one i m e es y ms names v one before behind d named is rest h =
    let c : Constants = record { names = names; capacity = i.capacity } in
    let all : Constants = named_more (constants i) (names_in es) in
    let constants_are : c ≡ all = ap (λ (ns : List (List ℕ)). let k : Constants = record { names = ns; capacity = i.capacity } in k) named in
    let p = bound (λ u. after_all c u ms) (next c (world i) y) v h.led in
    let later = more_edits c p.0 v ms p.2 in
    let compiled : IsCompiledItem names (world i).edits y = compiled_item names c (world i) p.0 y later.0 v.edits p.1 later.1 h.compiled in
    let same : d.happened ≡ y = same_item i.names (names_in es) (world i).edits d.happened y one (d.telling ∙ is) d.compiled (subst (λ (ns : List (List ℕ)). IsCompiledItem ns (world i).edits y) named compiled) in
    let here : next all (world i) d.happened ≡ Some (world m) = grown i m (names_in es) d.happened before behind d.redone.world in
    let there : next c (world i) y ≡ Some (world m) = ap (λ (k : Constants). next k (world i) y) constants_are ∙ ap (λ (x : Item). next all (world i) x) (sym same) ∙ here in
    let worlds : p.0 ≡ world m = same_Some p.0 (world m) (sym p.1 ∙ there) in
    record {
      marks = ms;
      tells = record { named = named ∙ ap (λ (ns : List (List ℕ)). ns ++ names_in es) (sym (ap (λ (k : ImageView). k.names) d.redone.image)); marks = rest };
      happened = record {
        led = happened_there names i.capacity m.capacity p.0 (world m) ms v (sym (ap (λ (k : ImageView). k.capacity) d.redone.image)) worlds p.2;
        compiled = h.compiled;
      };
    }

item_done : (i m : ImageView) (e : Entry) (es : List Entry) (ms : List Mark) (names : List (List ℕ)) (v : World) → OneReading → IsLawful i → IsLawful m → Does i e m
    → names ≡ i.names ++ names_in es → e ∷ but_names es ≡ map told_mark ms → Happened (record { names = names; capacity = i.capacity }) (world i) ms v → Rest m es names v
item_done i m e es [] names v one before behind d named marks h = absurd (cc marks)
item_done i m e es (did y ∷ ms) names v one before behind d named marks h =
    let is : e ≡ told y = cc in
    let rest : but_names es ≡ map told_mark ms = cc in
    did_one i m e es y ms names v one before behind d named is rest h
item_done i m e es (emptied ∷ ms) names v one before behind d named marks h =
    let is : e ≡ entry.Checkpoint = cc in
    absurd (never_emptied d.happened (d.telling ∙ is))

-- a checkpoint
pub anew_world : (i m : ImageView) → BeginsAnew i m → world m ≡ rebase (world i)
unfolding world_of
anew_world i m h = ap (λ (k : ImageView). world k) h.image

emptied_done : (i m : ImageView) (es : List Entry) (ms : List Mark) (names : List (List ℕ)) (v : World) → BeginsAnew i m
    → names ≡ i.names ++ names_in es → entry.Checkpoint ∷ but_names es ≡ map told_mark ms → Happened (record { names = names; capacity = i.capacity }) (world i) ms v → Rest m es names v
emptied_done i m es [] names v d named marks h = absurd (cc marks)
emptied_done i m es (did y ∷ ms) names v d named marks h =
    let is : told y ≡ entry.Checkpoint = cc in
    absurd (never_emptied y is)
emptied_done i m es (emptied ∷ ms) names v d named marks h =
    let rest : but_names es ≡ map told_mark ms = cc in
    record {
      marks = ms;
      tells = record { named = named ∙ ap (λ (ns : List (List ℕ)). ns ++ names_in es) (sym (ap (λ (k : ImageView). k.names) d.image)); marks = rest };
      happened = record {
        led = happened_there names i.capacity m.capacity (rebase (world i)) (world m) ms v (sym (ap (λ (k : ImageView). k.capacity) d.image)) (sym (anew_world i m d)) h.led;
        compiled = h.compiled;
      };
    }

-- a name
pub new_last : (names : List (List ℕ)) (text : List ℕ) → is_name names text ≡ false → interned names text ≡ names ++ text ∷ []
new_last names text new = rw new refl

name_done : (i m : ImageView) (text : List ℕ) (es : List Entry) (ms : List Mark) (names : List (List ℕ)) (v : World) → IsNamed i text m
    → names ≡ i.names ++ text ∷ names_in es → but_names es ≡ map told_mark ms → Happened (record { names = names; capacity = i.capacity }) (world i) ms v → Rest m es names v
name_done i m text es ms names v d named marks h =
    let longer : m.names ≡ i.names ++ text ∷ [] = ap (λ (k : ImageView). k.names) d.image ∙ new_last i.names text d.new in
    record {
      marks = ms;
      tells = record { named = named ∙ sym (append_assoc i.names (text ∷ []) (names_in es)) ∙ ap (λ (ns : List (List ℕ)). ns ++ names_in es) (sym longer); marks = marks };
      happened = record {
        led = happened_there names i.capacity m.capacity (world i) (world m) ms v (sym (ap (λ (k : ImageView). k.capacity) d.image)) (sym d.world) h.led;
        compiled = h.compiled;
      };
    }

-- ---- all entries

recovered_by : OneReading → (es : List Entry) (i j : ImageView) (ms : List Mark) (names : List (List ℕ)) (v : World) → IsLawful i → Tells i.names es ms names
    → Happened (record { names = names; capacity = i.capacity }) (world i) ms v → LeadsAll i es j → (j.names ≡ names) × (world j ≡ v)
recovered_by one [] i j [] names v lawful t h l =
    (ap (λ (k : ImageView). k.names) l ∙ sym (append-nil i.names) ∙ sym t.named, ap (λ (k : ImageView). world k) l ∙ same_Some (world i) v h.led)
recovered_by one [] i j (m ∷ ms) names v lawful t h l = absurd (cc t.marks)
recovered_by one (entry.Name text ∷ es) i j ms names v lawful t h l =
    let r = name_done i l.0 text es ms names v l.1 t.named t.marks h in
    recovered_by one es l.0 j r.marks names v l.2 r.tells r.happened l.3
recovered_by one (entry.Checkpoint ∷ es) i j ms names v lawful t h l =
    let r = emptied_done i l.0 es ms names v l.1 t.named t.marks h in
    recovered_by one es l.0 j r.marks names v l.2 r.tells r.happened l.3
recovered_by one (entry.Define name parent slots ∷ es) i j ms names v lawful t h l =
    let r = item_done i l.0 (entry.Define name parent slots) es ms names v one lawful l.2 l.1 t.named t.marks h in
    recovered_by one es l.0 j r.marks names v l.2 r.tells r.happened l.3
recovered_by one (entry.Install class source ∷ es) i j ms names v lawful t h l =
    let r = item_done i l.0 (entry.Install class source) es ms names v one lawful l.2 l.1 t.named t.marks h in
    recovered_by one es l.0 j r.marks names v l.2 r.tells r.happened l.3
recovered_by one (entry.Remove class selector ∷ es) i j ms names v lawful t h l =
    let r = item_done i l.0 (entry.Remove class selector) es ms names v one lawful l.2 l.1 t.named t.marks h in
    recovered_by one es l.0 j r.marks names v l.2 r.tells r.happened l.3
recovered_by one (entry.Reparent class parent ∷ es) i j ms names v lawful t h l =
    let r = item_done i l.0 (entry.Reparent class parent) es ms names v one lawful l.2 l.1 t.named t.marks h in
    recovered_by one es l.0 j r.marks names v l.2 r.tells r.happened l.3
recovered_by one (entry.Created class ∷ es) i j ms names v lawful t h l =
    let r = item_done i l.0 (entry.Created class) es ms names v one lawful l.2 l.1 t.named t.marks h in
    recovered_by one es l.0 j r.marks names v l.2 r.tells r.happened l.3
recovered_by one (entry.Posted actor message ∷ es) i j ms names v lawful t h l =
    let r = item_done i l.0 (entry.Posted actor message) es ms names v one lawful l.2 l.1 t.named t.marks h in
    recovered_by one es l.0 j r.marks names v l.2 r.tells r.happened l.3
recovered_by one (entry.Closed actor ∷ es) i j ms names v lawful t h l =
    let r = item_done i l.0 (entry.Closed actor) es ms names v one lawful l.2 l.1 t.named t.marks h in
    recovered_by one es l.0 j r.marks names v l.2 r.tells r.happened l.3
recovered_by one (entry.Begun actor ∷ es) i j ms names v lawful t h l =
    let r = item_done i l.0 (entry.Begun actor) es ms names v one lawful l.2 l.1 t.named t.marks h in
    recovered_by one es l.0 j r.marks names v l.2 r.tells r.happened l.3
recovered_by one (entry.Ran actor steps ∷ es) i j ms names v lawful t h l =
    let r = item_done i l.0 (entry.Ran actor steps) es ms names v one lawful l.2 l.1 t.named t.marks h in
    recovered_by one es l.0 j r.marks names v l.2 r.tells r.happened l.3

pub recovered : OneReading → RedoneIsWhatWasTold
recovered one i j es ms names v lawful t h l = recovered_by one es i j ms names v lawful t h l

-- ---- the history of an image

on_each : (o : Option World) (f g : World → Option World) → ((v : World) → f v ≡ g v) → option_and_then f o ≡ option_and_then g o
on_each None f g h = refl
on_each (Some v) f g h = h v

after_items : (c : Constants) (w : World) (h : List Item) → after_all c w (map did h) ≡ replay c w h
after_items c w [] = refl
after_items c w (x ∷ h) = on_each (next c w x) (λ v. after_all c v (map did h)) (λ v. replay c v h) (λ v. after_items c v h)

pub comes_to_the_image : OneReading → ComesToTheImage
comes_to_the_image one i j k es at lawful compiled t l =
    let come : (j.names ≡ k.names) × (world j ≡ world k) =
    recovered one i j es (map did k.history) k.names (world k) at.lawful t
    (record {
      led = happened_there k.names k.capacity i.capacity k.base (world i) (map did k.history) (world k) (sym at.capacity) (sym at.world) (after_items (constants k) k.base k.history ∙ lawful.lawful);
      compiled = compiled;
    })
    l
    in
    let on = goes_on i j es l in
    record {
      names = come.0;
      world = come.1;
      counts = λ began. same_counts i j k es on t.marks began;
      free = λ none a. free_where_ready i j k on.out come.1 none a;
    }
