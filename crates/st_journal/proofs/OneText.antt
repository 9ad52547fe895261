-- A text says one list of entries, which leads to one world; and what is told as a text is what the text says.
use Rattle.std.proofs.Common.{◌≡◌, ℕ, List, [], ◌∷◌, ◌++◌, refl, sym, ap, ap₂, ◌∙◌, subst, append_assoc, append-nil}
use Rattle.std.proofs.lemmas.Bool.{ne_eqb}
use Rattle.std.proofs.lemmas.Option.{same_Some}
use Rattle.st_classes.specs.declared.edits.Edit.{Edit}
use Rattle.st_classes.specs.Names.{interned}
use Rattle.st_reader.specs.Spelling.{OneReading}
use Rattle.st_image.specs.Checkpoints.{BeginsAnew}
use Rattle.st_image.specs.Images.{ImageView, constants, world}
use Rattle.st_image.specs.Parts.{rebase}
use Rattle.st_image.specs.Replay.{next}
use Rattle.st_image.specs.Worlds.{World}
use Rattle.st_journal.specs.declared.entries.Entry.{Entry}
use Rattle.st_journal.specs.declared.entries.Entry.TheVariants as entry
use Rattle.st_journal.specs.Entries.{Does, IsCompiledItem, IsNamed, Leads}
use Rattle.st_journal.specs.EntryLines.{SaysEntry, entry_text}
use Rattle.st_journal.specs.EntryMeanings.{entry_meant}
use Rattle.st_journal.specs.EntryShapes.{entry_in}
use Rattle.st_journal.specs.EntryTexts.{ReadsAll, ReadsOne, SaysAt, ToldIsRead, lines_of}
use Rattle.st_journal.proofs.Methods.{same_item}
use Rattle.st_journal.proofs.Recovered.{anew_world}
use Rattle.st_journal.proofs.OneLine.{NoNewline, entry_is_open}

-- ---- one line

pub says_one : (names : List (List ℕ)) (edits : List Edit) (text : List ℕ) (e f : Entry) → SaysEntry names edits text e → SaysEntry names edits text f → e ≡ f
says_one names edits text e f p q =
    let values : p.value ≡ q.value = same_Some p.value q.value (sym p.json ∙ q.json) in
    let texts : p.tells.text ≡ q.tells.text = same_Some p.tells.text q.tells.text (sym p.tells.read ∙ ap entry_in values ∙ q.tells.read) in
    same_Some e f (sym p.tells.meant ∙ ap (entry_meant names edits) texts ∙ q.tells.meant)

-- two images have the same names, mailboxes of the same size, and the same world
record Same (i k : ImageView) : Type 0 where
  names : i.names ≡ k.names
  capacity : i.capacity ≡ k.capacity
  world : world i ≡ world k

says_same : (i k : ImageView) (line : List ℕ) (e f : Entry) → Same i k → SaysAt i line e → SaysAt k line f → e ≡ f
says_same i k line e f same p q =
    let named : SaysEntry i.names (world k).edits line f = subst (λ (ns : List (List ℕ)). SaysEntry ns (world k).edits line f) (sym same.names) q in
    let here : SaysEntry i.names (world i).edits line f = subst (λ (w : World). SaysEntry i.names w.edits line f) (sym same.world) named in
    says_one i.names (world i).edits line e f p here

-- ---- one step

same_constants : (i k : ImageView) → Same i k → constants i ≡ constants k
same_constants i k same = ap₂ (λ ns n. record { names = ns; capacity = n }) same.names same.capacity

does_same : (i j k l : ImageView) (e : Entry) → OneReading → Same i k → Does i e j → Does k e l → Same j l
does_same i j k l e one same p q =
    let named : IsCompiledItem i.names (world k).edits q.happened = subst (λ (ns : List (List ℕ)). IsCompiledItem ns (world k).edits q.happened) (sym same.names) q.compiled in
    let here : IsCompiledItem i.names (world i).edits q.happened = subst (λ (w : World). IsCompiledItem i.names w.edits q.happened) (sym same.world) named in
    let longer : IsCompiledItem (i.names ++ []) (world i).edits q.happened = subst (λ (ns : List (List ℕ)). IsCompiledItem ns (world i).edits q.happened) (sym (append-nil i.names)) here in
    let items : p.happened ≡ q.happened = same_item i.names [] (world i).edits p.happened q.happened one (p.telling ∙ sym q.telling) p.compiled longer in
    let there : next (constants i) (world i) p.happened ≡ next (constants k) (world k) q.happened =
    ap (λ c. next c (world i) p.happened) (same_constants i k same) ∙ ap (λ w. next (constants k) w p.happened) same.world ∙ ap (next (constants k) (world k)) items in
    record {
      names = ap (λ (x : ImageView). x.names) p.redone.image ∙ same.names ∙ sym (ap (λ (x : ImageView). x.names) q.redone.image);
      capacity = ap (λ (x : ImageView). x.capacity) p.redone.image ∙ same.capacity ∙ sym (ap (λ (x : ImageView). x.capacity) q.redone.image);
      world = same_Some (world j) (world l) (sym p.redone.world ∙ there ∙ q.redone.world);
    }

named_same : (i j k l : ImageView) (text : List ℕ) → Same i k → IsNamed i text j → IsNamed k text l → Same j l
named_same i j k l text same p q = record {
  names = ap (λ (x : ImageView). x.names) p.image ∙ ap (λ ns. interned ns text) same.names ∙ sym (ap (λ (x : ImageView). x.names) q.image);
  capacity = ap (λ (x : ImageView). x.capacity) p.image ∙ same.capacity ∙ sym (ap (λ (x : ImageView). x.capacity) q.image);
  world = p.world ∙ same.world ∙ sym q.world;
}

anew_same : (i j k l : ImageView) → Same i k → BeginsAnew i j → BeginsAnew k l → Same j l
anew_same i j k l same p q = record {
  names = ap (λ (x : ImageView). x.names) p.image ∙ same.names ∙ sym (ap (λ (x : ImageView). x.names) q.image);
  capacity = ap (λ (x : ImageView). x.capacity) p.image ∙ same.capacity ∙ sym (ap (λ (x : ImageView). x.capacity) q.image);
  world = anew_world i j p ∙ ap rebase same.world ∙ sym (anew_world k l q);
}

leads_same : (i j k l : ImageView) (e : Entry) → OneReading → Same i k → Leads i e j → Leads k e l → Same j l
leads_same i j k l (entry.Name text) one same p q = named_same i j k l text same p q
leads_same i j k l (entry.Define name parent slots) one same p q = does_same i j k l (entry.Define name parent slots) one same p q
leads_same i j k l (entry.Install class source) one same p q = does_same i j k l (entry.Install class source) one same p q
leads_same i j k l (entry.Remove class selector) one same p q = does_same i j k l (entry.Remove class selector) one same p q
leads_same i j k l (entry.Reparent class parent) one same p q = does_same i j k l (entry.Reparent class parent) one same p q
leads_same i j k l (entry.Created class) one same p q = does_same i j k l (entry.Created class) one same p q
leads_same i j k l (entry.Posted actor message) one same p q = does_same i j k l (entry.Posted actor message) one same p q
leads_same i j k l (entry.Closed actor) one same p q = does_same i j k l (entry.Closed actor) one same p q
leads_same i j k l (entry.Begun actor) one same p q = does_same i j k l (entry.Begun actor) one same p q
leads_same i j k l (entry.Ran actor steps) one same p q = does_same i j k l (entry.Ran actor steps) one same p q
leads_same i j k l entry.Checkpoint one same p q = anew_same i j k l same p q

-- ---- one text

reads_same : (i j k l : ImageView) (lines : List (List ℕ)) (es fs : List Entry) → OneReading → Same i k → ReadsAll i lines es j → ReadsAll k lines fs l → (es ≡ fs) × Same j l
reads_same i j k l [] [] [] one same p q = (
  refl,
  record {
    names = ap (λ (x : ImageView). x.names) p ∙ same.names ∙ sym (ap (λ (x : ImageView). x.names) q);
    capacity = ap (λ (x : ImageView). x.capacity) p ∙ same.capacity ∙ sym (ap (λ (x : ImageView). x.capacity) q);
    world = ap world p ∙ same.world ∙ sym (ap world q);
  },
)
reads_same i j k l [] [] (f ∷ fs) one same p q = absurd q
reads_same i j k l [] (e ∷ es) fs one same p q = absurd p
reads_same i j k l (line ∷ lines) [] fs one same p q = absurd p
reads_same i j k l (line ∷ lines) (e ∷ es) [] one same p q = absurd q
reads_same i j k l (line ∷ lines) (e ∷ es) (f ∷ fs) one same p q =
    let firsts : e ≡ f = says_same i k line e f same p.1 q.1 in
    let next_same = leads_same i p.0 k q.0 e one same p.2 (subst (λ (x : Entry). Leads k x q.0) (sym firsts) q.2) in
    let rest = reads_same p.0 j q.0 l lines es fs one next_same p.4 q.4 in
    (ap₂ (λ (x : Entry) (xs : List Entry). x ∷ xs) firsts rest.0, rest.1)

pub reads_one : OneReading → ReadsOne
reads_one one i j k lines es fs p q =
    let both = reads_same i j i k lines es fs one (record { names = refl; capacity = refl; world = refl }) p q in
    (both.0, both.1.names, both.1.world)

-- ---- what is told

pub front_line : (front rest : List ℕ) → NoNewline front → lines_of (front ++ 10 ∷ rest) ≡ front ∷ lines_of rest
front_line [] rest h = refl
front_line (b ∷ bs) rest h = rw (ne_eqb b 10 h.0, front_line bs rest h.1) refl

pub told_is_read : ToldIsRead
told_is_read i k [] text h = rw h.0 h.1
told_is_read i k (e ∷ es) text h =
    let front = entry_text i.names (world i).edits e in
    let rest = h.1 in
    let lines : lines_of text ≡ front ∷ lines_of rest =
    ap lines_of (h.2 ∙ append_assoc front (10 ∷ []) rest) ∙ front_line front rest (entry_is_open i.names (world i).edits e) in
    subst (λ ls. ReadsAll i ls (e ∷ es) k) (sym lines) (h.0, h.3, h.4, h.5, told_is_read h.0 k es rest h.6)
