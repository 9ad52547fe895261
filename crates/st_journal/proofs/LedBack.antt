-- Lines that tell what happened are read as the very entries, and so lead back.
use Rattle.std.proofs.Common.{◌≡◌, ℕ, List, [], ◌∷◌, ◌++◌, Option, Some, option_and_then, refl, sym, ap, subst, take, inl, inr, ◌∙◌, append_assoc}
use Rattle.std.specs.Prelude.{map}
use Rattle.std.proofs.lemmas.Option.{same_Some}
use Rattle.st_reader.specs.Spelling.{OneReading}
use Rattle.st_log.specs.Lines.{whole_lines, lines_of as batch_lines}
use Rattle.st_image.specs.declared.history.Item.{Item}
use Rattle.st_image.specs.CompiledEdits.{AllCompiled}
use Rattle.st_image.specs.Checkpoints.{BeginsAnew}
use Rattle.st_image.specs.Images.{ImageView, constants, world}
use Rattle.st_image.specs.Parts.{rebase}
use Rattle.st_image.specs.Replay.{next}
use Rattle.st_image.specs.WorldInvariant.{IsLawful}
use Rattle.st_image.specs.Worlds.{Constants, World}
use Rattle.st_image.proofs.Lasting.{named_more}
use Rattle.st_journal.specs.declared.entries.Entry.{Entry}
use Rattle.st_journal.specs.declared.entries.Entry.TheVariants as entry
use Rattle.st_journal.specs.Crashes.{CrashesLeadBack, CrashLeadsBack, LinesLeadBack, Place, Takes, Told}
use Rattle.st_journal.specs.Entries.{Does, IsCompiledItem, IsNamed, Leads, told}
use Rattle.st_journal.specs.EntryLines.{SaysEntry}
use Rattle.st_journal.specs.EntryTexts.{ReadsAll, SaysAt, lines_of}
use Rattle.st_journal.specs.Marks.{Mark, did, emptied, after, after_all}
use Rattle.st_journal.specs.Recovery.{Tells, but_names, names_in, told_mark}
use Rattle.st_journal.proofs.Methods.{never_emptied, same_item}
use Rattle.st_journal.proofs.OneText.{says_one}
use Rattle.st_journal.proofs.Recovered.{anew_world, compiled_item, grown, more_edits, new_last, recovered}
use Rattle.st_journal.proofs.SaidLines.{reading_leads}

-- ---- where an image stands

-- the constants of a run with all names that there will be
abbrev with_all : List (List ℕ) → ℕ → Constants
with_all names n = record { names = names; capacity = n }

-- an image has these names, this world and this capacity
record Stands (i : ImageView) (here : List (List ℕ)) (w : World) (n : ℕ) : Type 0 where
  lawful : IsLawful i
  names : i.names ≡ here
  world_is : world i ≡ w
  capacity : i.capacity ≡ n

says_here : (i : ImageView) (here : List (List ℕ)) (w : World) (n : ℕ) (line : List ℕ) (e f : Entry) → Stands i here w n → SaysEntry here w.edits line e → SaysAt i line f → f ≡ e
says_here i here w n line e f at says read =
    let there : SaysEntry here w.edits line f = subst (λ (v : World). SaysEntry here v.edits line f) at.world_is (subst (λ (ns : List (List ℕ)). SaysEntry ns (world i).edits line f) at.names read) in
    sym (says_one here w.edits line e f says there)

-- ---- where an entry leads

constants_are : (i : ImageView) (here names more : List (List ℕ)) (w : World) (n : ℕ) → Stands i here w n → names ≡ here ++ more → with_all names n ≡ named_more (constants i) more
constants_are i here names more w n at named =
    ap (λ (ns : List (List ℕ)). with_all ns n) (named ∙ ap (λ (ns : List (List ℕ)). ns ++ more) (sym at.names))
    ∙ ap (λ (k : ℕ). with_all (i.names ++ more) k) (sym at.capacity)

did_stands : (i m : ImageView) (e : Entry) (es : List Entry) (y : Item) (ms : List Mark) (here names : List (List ℕ)) (w u v : World) (n : ℕ) → OneReading → Stands i here w n → IsLawful m → Does i e m
    → names ≡ here ++ names_in es → e ≡ told y → next (with_all names n) w y ≡ Some u → after_all (with_all names n) u ms ≡ Some v → AllCompiled names v.edits → Stands m here u n
did_stands i m e es y ms here names w u v n one at behind d named is step rest all =
    let c : Constants = with_all names n in
    let later = more_edits c u v ms rest in
    let compiled : IsCompiledItem names w.edits y = compiled_item names c w u y later.0 v.edits step later.1 all in
    let there : IsCompiledItem (i.names ++ names_in es) (world i).edits y =
    subst (λ (x : World). IsCompiledItem (i.names ++ names_in es) x.edits y) (sym at.world_is) (subst (λ (ns : List (List ℕ)). IsCompiledItem ns w.edits y) (named ∙ ap (λ (ns : List (List ℕ)). ns ++ names_in es) (sym at.names)) compiled)
    in
    let same : d.happened ≡ y = same_item i.names (names_in es) (world i).edits d.happened y one (d.telling ∙ is) d.compiled there in
    let went : next (named_more (constants i) (names_in es)) (world i) d.happened ≡ Some (world m) = grown i m (names_in es) d.happened at.lawful behind d.redone.world in
    let goes : next c w y ≡ Some (world m) =
    ap (λ (k : Constants). next k w y) (constants_are i here names (names_in es) w n at named)
    ∙ ap (λ (x : World). next (named_more (constants i) (names_in es)) x y) (sym at.world_is)
    ∙ ap (λ (x : Item). next (named_more (constants i) (names_in es)) (world i) x) (sym same)
    ∙ went
    in
    record {
      lawful = behind;
      names = ap (λ (k : ImageView). k.names) d.redone.image ∙ at.names;
      world_is = same_Some (world m) u (sym goes ∙ step);
      capacity = ap (λ (k : ImageView). k.capacity) d.redone.image ∙ at.capacity;
    }

item_stands : (i m : ImageView) (e : Entry) (es : List Entry) (x : Mark) (ms : List Mark) (here names : List (List ℕ)) (w u v : World) (n : ℕ) → OneReading → Stands i here w n → IsLawful m → Does i e m
    → names ≡ here ++ names_in es → e ≡ told_mark x → after (with_all names n) w x ≡ Some u → after_all (with_all names n) u ms ≡ Some v → AllCompiled names v.edits → Stands m here u n
item_stands i m e es (did y) ms here names w u v n one at behind d named is step rest all = did_stands i m e es y ms here names w u v n one at behind d named is step rest all
item_stands i m e es emptied ms here names w u v n one at behind d named is step rest all = absurd (never_emptied d.happened (d.telling ∙ is))

anew_stands : (i m : ImageView) (x : Mark) (here names : List (List ℕ)) (w u : World) (n : ℕ) → Stands i here w n → IsLawful m → BeginsAnew i m → entry.Checkpoint ≡ told_mark x → after (with_all names n) w x ≡ Some u → Stands m here u n
anew_stands i m (did y) here names w u n at behind d is step = absurd (never_emptied y (sym is))
anew_stands i m emptied here names w u n at behind d is step = record {
  lawful = behind;
  names = ap (λ (k : ImageView). k.names) d.image ∙ at.names;
  world_is = anew_world i m d ∙ ap rebase at.world_is ∙ same_Some (rebase w) u step;
  capacity = ap (λ (k : ImageView). k.capacity) d.image ∙ at.capacity;
}

name_stands : (i m : ImageView) (text : List ℕ) (here : List (List ℕ)) (w : World) (n : ℕ) → Stands i here w n → IsLawful m → IsNamed i text m → Stands m (here ++ text ∷ []) w n
name_stands i m text here w n at behind d = record {
  lawful = behind;
  names = ap (λ (k : ImageView). k.names) d.image ∙ new_last i.names text d.new ∙ ap (λ (ns : List (List ℕ)). ns ++ text ∷ []) at.names;
  world_is = d.world ∙ at.world_is;
  capacity = ap (λ (k : ImageView). k.capacity) d.image ∙ at.capacity;
}

-- what is left of what happened behind a mark that led to a world
pub led_on : (c : Constants) (w u v : World) (x : Mark) (ms : List Mark) → after c w x ≡ Some u → after_all c w (x ∷ ms) ≡ Some v → after_all c u ms ≡ Some v
led_on c w u v x ms step all = sym (ap (λ (o : Option World). option_and_then (λ z. after_all c z ms) o) step) ∙ all

-- ---- one entry

-- what holds at a place: an image stands there, and what is still to be told leads on
record At (i : ImageView) (p : Place) (es : List Entry) (n : ℕ) (names : List (List ℕ)) (v : World) : Type 0 where
  stands : Stands i p.names p.world n
  named : names ≡ p.names ++ names_in es
  marks : but_names es ≡ map told_mark p.marks
  led : after_all (with_all names n) p.world p.marks ≡ Some v
  compiled : AllCompiled names v.edits

-- the next mark is taken
taken : (c : Constants) (p q : Place) (e : Entry) (es : List Entry) (x : Mark) (v : World) → p.marks ≡ x ∷ q.marks → e ∷ but_names es ≡ map told_mark p.marks → after c p.world x ≡ Some q.world → after_all c p.world p.marks ≡ Some v
    → (e ≡ told_mark x) × (but_names es ≡ map told_mark q.marks) × (after_all c q.world q.marks ≡ Some v)
taken c p q e es x v first marks step led =
    let all : e ∷ but_names es ≡ told_mark x ∷ map told_mark q.marks = marks ∙ ap (λ (ms : List Mark). map told_mark ms) first in
    (cc, cc, led_on c p.world q.world v x q.marks step (ap (λ (ms : List Mark). after_all c p.world ms) (sym first) ∙ led))

item_on : (i m : ImageView) (e : Entry) (es : List Entry) (p q : Place) (n : ℕ) (names : List (List ℕ)) (v : World) → OneReading → Stands i p.names p.world n → IsLawful m → Does i e m
    → names ≡ p.names ++ names_in es → e ∷ but_names es ≡ map told_mark p.marks → after_all (with_all names n) p.world p.marks ≡ Some v → AllCompiled names v.edits
    → ((x : Mark) × (p.marks ≡ x ∷ q.marks) × (after (with_all names n) p.world x ≡ Some q.world) × (q.names ≡ p.names)) → At m q es n names v
item_on i m e es p q n names v one at behind d named marks led all takes =
    let t = taken (with_all names n) p q e es takes.0 v takes.1 marks takes.2 led in
    record {
      stands = subst (λ (ns : List (List ℕ)). Stands m ns q.world n) (sym takes.3) (item_stands i m e es takes.0 q.marks p.names names p.world q.world v n one at behind d named t.0 takes.2 t.2 all);
      named = named ∙ ap (λ (ns : List (List ℕ)). ns ++ names_in es) (sym takes.3);
      marks = t.1;
      led = t.2;
      compiled = all;
    }

one_on : (i m : ImageView) (e : Entry) (es : List Entry) (p q : Place) (n : ℕ) (names : List (List ℕ)) (v : World) → OneReading → At i p (e ∷ es) n names v → IsLawful m → Leads i e m → Takes (with_all names n) p e q → At m q es n names v
one_on i m (entry.Name text) es p q n names v one a behind leads takes =
    let at : Stands m (p.names ++ text ∷ []) p.world n = name_stands i m text p.names p.world n a.stands behind leads in
    let named : names ≡ (p.names ++ text ∷ []) ++ names_in es = a.named ∙ sym (append_assoc p.names (text ∷ []) (names_in es)) in
    subst (λ (r : Place). At m r es n names v) (sym takes) (record { stands = at; named = named; marks = a.marks; led = a.led; compiled = a.compiled })
one_on i m entry.Checkpoint es p q n names v one a behind leads takes =
    let t = taken (with_all names n) p q entry.Checkpoint es takes.0 v takes.1 a.marks takes.2 a.led in
    record {
      stands = subst (λ (ns : List (List ℕ)). Stands m ns q.world n) (sym takes.3) (anew_stands i m takes.0 p.names names p.world q.world n a.stands behind leads t.0 takes.2);
      named = a.named ∙ ap (λ (ns : List (List ℕ)). ns ++ names_in es) (sym takes.3);
      marks = t.1;
      led = t.2;
      compiled = a.compiled;
    }
one_on i m (entry.Define name parent slots) es p q n names v one a behind leads takes = item_on i m (entry.Define name parent slots) es p q n names v one a.stands behind leads a.named a.marks a.led a.compiled takes
one_on i m (entry.Install class source) es p q n names v one a behind leads takes = item_on i m (entry.Install class source) es p q n names v one a.stands behind leads a.named a.marks a.led a.compiled takes
one_on i m (entry.Remove class selector) es p q n names v one a behind leads takes = item_on i m (entry.Remove class selector) es p q n names v one a.stands behind leads a.named a.marks a.led a.compiled takes
one_on i m (entry.Reparent class parent) es p q n names v one a behind leads takes = item_on i m (entry.Reparent class parent) es p q n names v one a.stands behind leads a.named a.marks a.led a.compiled takes
one_on i m (entry.Created class) es p q n names v one a behind leads takes = item_on i m (entry.Created class) es p q n names v one a.stands behind leads a.named a.marks a.led a.compiled takes
one_on i m (entry.Posted actor message) es p q n names v one a behind leads takes = item_on i m (entry.Posted actor message) es p q n names v one a.stands behind leads a.named a.marks a.led a.compiled takes
one_on i m (entry.Closed actor) es p q n names v one a behind leads takes = item_on i m (entry.Closed actor) es p q n names v one a.stands behind leads a.named a.marks a.led a.compiled takes
one_on i m (entry.Begun actor) es p q n names v one a behind leads takes = item_on i m (entry.Begun actor) es p q n names v one a.stands behind leads a.named a.marks a.led a.compiled takes
one_on i m (entry.Ran actor steps) es p q n names v one a behind leads takes = item_on i m (entry.Ran actor steps) es p q n names v one a.stands behind leads a.named a.marks a.led a.compiled takes

-- ---- all entries

same_entries : OneReading → (es : List Entry) (lines : List (List ℕ)) (fs : List Entry) (i j : ImageView) (p : Place) (n : ℕ) (names : List (List ℕ)) (v : World) → At i p es n names v → Told (with_all names n) p es lines → ReadsAll i lines fs j → fs ≡ es
same_entries one [] [] [] i j p n names v a t r = refl
same_entries one [] [] (f ∷ fs) i j p n names v a t r = absurd r
same_entries one [] (line ∷ lines) fs i j p n names v a t r = absurd t
same_entries one (e ∷ es) [] fs i j p n names v a t r = absurd t
same_entries one (e ∷ es) (line ∷ lines) [] i j p n names v a t r = absurd r
same_entries one (e ∷ es) (line ∷ lines) (f ∷ fs) i j p n names v a t r =
    let same : f ≡ e = says_here i p.names p.world n line e f a.stands t.0 r.1 in
    let b : At r.0 t.1 es n names v = one_on i r.0 e es p t.1 n names v one a r.3 (subst (λ (x : Entry). Leads i x r.0) same r.2) t.2 in
    let rest : fs ≡ es = same_entries one es lines fs r.0 j t.1 n names v b t.3 r.4 in
    ap (λ (x : Entry). x ∷ fs) same ∙ ap (λ (xs : List Entry). e ∷ xs) rest

pub lead_back : OneReading → LinesLeadBack
lead_back one i j lines es names v lawful t r =
    let p : Place = record { names = i.names; world = world i; marks = t.marks } in
    let a : At i p t.entries i.capacity names v = record {
      stands = record { lawful = lawful; names = refl; world_is = refl; capacity = refl };
      named = t.tells.named;
      marks = t.tells.marks;
      led = t.happened.led;
      compiled = t.happened.compiled;
    } in
    let same : es ≡ t.entries = same_entries one t.entries lines es i j p i.capacity names v a t.told r in
    recovered one i j es t.marks names v lawful (subst (λ (xs : List Entry). Tells i.names xs t.marks names) (sym same) t.tells) t.happened (reading_leads i j lines es r)

-- ---- crashes

pub crashes_lead_back : OneReading → CrashesLeadBack
crashes_lead_back one i old batches names worlds lawful told text h =
    (h.0, h.1, λ j es r. lead_back one i j (lines_of (old ++ batch_lines (take h.0 batches))) es (names h.0) (worlds h.0) lawful (told h.0 h.1) (subst (λ (t : List ℕ). ReadsAll i (lines_of t) es j) h.2 r))

pub crash_leads_back : OneReading → CrashLeadsBack
crash_leads_back one i j old batch text names_before names_behind before behind es lawful was is (inl same) r = inl (lead_back one i j (lines_of old) es names_before before lawful was (subst (λ (t : List ℕ). ReadsAll i (lines_of t) es j) same r))
crash_leads_back one i j old batch text names_before names_behind before behind es lawful was is (inr all) r = inr (lead_back one i j (lines_of (old ++ whole_lines batch)) es names_behind behind lawful is (subst (λ (t : List ℕ). ReadsAll i (lines_of t) es j) all r))
