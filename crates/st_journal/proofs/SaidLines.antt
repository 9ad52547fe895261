-- Lines that say entries, one after the other.
use Rattle.std.proofs.Common.{◌≡◌, ◌⊎◌, ℕ, ◌+◌, true, false, Option, is_some, List, [], ◌∷◌, ◌++◌, length, take, None, Some, slice_get, refl, sym, ap, ◌∙◌, subst, append_assoc, append-nil, length-append, arith, inl, inr}
use Rattle.serde_json.specs.Data.{Data}
use Rattle.st_classes.specs.declared.edits.Edit.{Edit}
use Rattle.st_classes.specs.declared.refusals.ImagePlace.TheVariants.{Actors, Shape}
use Rattle.st_classes.specs.declared.refusals.Refusal.{Refusal}
use Rattle.st_classes.specs.declared.refusals.Refusal.TheVariants.{BadImage, NoMemory}
use Rattle.st_image.specs.Images.{ImageView}
use Rattle.st_image.specs.WorldInvariant.{IsLawful}
use Rattle.st_journal.specs.declared.entries.Entry.{Entry}
use Rattle.st_journal.specs.declared.redo_error.RefusedLine.{RefusedLine}
use Rattle.st_journal.specs.Entries.{Leads}
use Rattle.st_journal.specs.EntryMeanings.{IsMeaningless, TellsEntry, entry_meant}
use Rattle.st_journal.specs.EntryShapes.{entry_in}
use Rattle.st_journal.specs.EntryTexts.{ReadingLeads, ReadsAll, RefusesLine, SaysAt, StopsAtLine, lines_of}
use Rattle.st_journal.specs.Replays.{DoesOrLeaves, StandsAt}

-- ---- values that tell no entry

formless : (names : List (List ℕ)) (edits : List Edit) (d : Data) → entry_in d ≡ None → (e : Entry) → TellsEntry names edits d e → ⊥
formless names edits d none e tells = let never : None ≡ Some tells.text = sym none ∙ tells.read in cc

meaningless : (names : List (List ℕ)) (edits : List Edit) (d : Data) → IsMeaningless names edits d → (e : Entry) → TellsEntry names edits d e → ⊥
meaningless names edits d less e tells =
    let texts : Some less.text ≡ Some tells.text = sym less.read ∙ tells.read in
    let same : less.text ≡ tells.text = cc in
    let never : None ≡ Some e = sym less.none ∙ ap (λ t. entry_meant names edits t) same ∙ tells.meant in
    cc

-- a value from which no entry was read tells none, unless memory ran out
pub tells_none : (names : List (List ℕ)) (edits : List Edit) (d : Data) (refusal : Refusal) → (refusal ≡ NoMemory → ⊥)
    → (refusal ≡ NoMemory) ⊎ ((refusal ≡ BadImage Shape) × (entry_in d ≡ None)) ⊎ ((refusal ≡ BadImage Actors) × IsMeaningless names edits d)
    → (e : Entry) → TellsEntry names edits d e → ⊥
tells_none names edits d refusal enough (inl none) e tells = enough none
tells_none names edits d refusal enough (inr (inl form)) e tells = formless names edits d form.1 e tells
tells_none names edits d refusal enough (inr (inr meaning)) e tells = meaningless names edits d meaning.1 e tells

-- ---- lines that are read

reads_push : (i j k : ImageView) (lines : List (List ℕ)) (es : List Entry) (line : List ℕ) (e : Entry) → ReadsAll i lines es j → SaysAt j line e → Leads j e k → IsLawful k
    → ReadsAll i (lines ++ line ∷ []) (es ++ e ∷ []) k
reads_push i j k [] [] line e so_far says leads lawful =
    (k, subst (λ (x : ImageView). SaysAt x line e) so_far says, subst (λ (x : ImageView). Leads x e k) so_far leads, lawful, refl)
reads_push i j k [] (x ∷ es) line e so_far says leads lawful = absurd so_far
reads_push i j k (l ∷ lines) [] line e so_far says leads lawful = absurd so_far
reads_push i j k (l ∷ lines) (x ∷ es) line e so_far says leads lawful =
    (so_far.0, so_far.1, so_far.2, so_far.3, reads_push so_far.0 j k lines es line e so_far.4 says leads lawful)

pub reading_leads : ReadingLeads
reading_leads i k [] [] h = h
reading_leads i k [] (e ∷ es) h = absurd h
reading_leads i k (line ∷ lines) [] h = absurd h
reading_leads i k (line ∷ lines) (e ∷ es) h = (h.0, h.2, h.3, reading_leads h.0 k lines es h.4)

-- so many lines of a text were read, and led to an image; and this is the rest of the text
pub record HasRead (i : ImageView) (text : List ℕ) (place : ℕ) (rest : List ℕ) (j : ImageView) : Type 0 where
  pub lines : List (List ℕ)
  pub entries : List Entry
  pub reads : ReadsAll i lines entries j
  pub all : lines_of text ≡ lines ++ lines_of rest
  pub counted : place ≡ length lines

pub read_none : (i : ImageView) (text : List ℕ) → HasRead i text 0 text i
read_none i text = record { lines = []; entries = []; reads = refl; all = refl; counted = refl }

-- one line more
pub read_more : (i j k : ImageView) (text rest line behind : List ℕ) (place : ℕ) (e : Entry) → HasRead i text place rest j → lines_of rest ≡ line ∷ lines_of behind
    → SaysAt j line e → Leads j e k → IsLawful k → HasRead i text (place + 1) behind k
read_more i j k text rest line behind place e h next says leads lawful = record {
  lines = h.lines ++ line ∷ [];
  entries = h.entries ++ e ∷ [];
  reads = reads_push i j k h.lines h.entries line e h.reads says leads lawful;
  all = h.all ∙ ap (λ ls. h.lines ++ ls) next ∙ sym (append_assoc h.lines (line ∷ []) (lines_of behind));
  counted = ap (λ n. n + 1) h.counted ∙ sym (length-append h.lines (line ∷ []));
}

-- all lines were read
pub read_all : (i j : ImageView) (text rest : List ℕ) (place : ℕ) → HasRead i text place rest j → length rest ≡ 0 → (es : List Entry) × ReadsAll i (lines_of text) es j
read_all i j text [] place h none = (h.entries, subst (λ ls. ReadsAll i ls h.entries j) (sym (h.all ∙ append-nil h.lines)) h.reads)
read_all i j text (b ∷ rest) place h none = absurd (omega (arith, none))

-- the front of a list, and the item behind it
front : {X : Type 0} (xs ys : List X) (x : X) → (take (length xs) (xs ++ x ∷ ys) ≡ xs) × (slice_get (xs ++ x ∷ ys) (length xs) ≡ Some x)
front [] ys x = (refl, refl)
front (y ∷ xs) ys x = (ap (λ zs. y ∷ zs) (front xs ys x).0, (front xs ys x).1)

-- the next line is refused
pub read_stops : (i j : ImageView) (text rest line behind : List ℕ) (place : ℕ) (r : RefusedLine) → HasRead i text place rest j → lines_of rest ≡ line ∷ lines_of behind
    → r.place ≡ place → RefusesLine j line r.error → StopsAtLine i (lines_of text) r
read_stops i j text rest line behind place r h next at refuses =
    let all : lines_of text ≡ h.lines ++ line ∷ lines_of behind = h.all ∙ ap (λ ls. h.lines ++ ls) next in
    let here : r.place ≡ length h.lines = at ∙ h.counted in
    let parts = front h.lines (lines_of behind) line in
    record {
      image = j;
      entries = h.entries;
      done = rw (all, here, parts.0) h.reads;
      last = line;
      there = rw (all, here) parts.1;
      refused = refuses;
    }

-- the next line says an entry
pub read_at : (i j : ImageView) (text rest line behind : List ℕ) (place : ℕ) (e : Entry) → HasRead i text place rest j → lines_of rest ≡ line ∷ lines_of behind
    → SaysAt j line e → StandsAt i (lines_of text) place (Some e) j
read_at i j text rest line behind place e h next says =
    let all : lines_of text ≡ h.lines ++ line ∷ lines_of behind = h.all ∙ ap (λ ls. h.lines ++ ls) next in
    let parts = front h.lines (lines_of behind) line in
    record {
      entries = h.entries;
      reads = rw (all, h.counted, parts.0) h.reads;
      behind = (line, rw (all, h.counted) parts.1, says);
    }

whole : {X : Type 0} (xs : List X) → take (length xs) xs ≡ xs
whole [] = refl
whole (x ∷ xs) = ap (λ ys. x ∷ ys) (whole xs)

-- there is no further line
pub read_to_end : (i j : ImageView) (text rest : List ℕ) (place : ℕ) → HasRead i text place rest j → length rest ≡ 0 → StandsAt i (lines_of text) place None j
read_to_end i j text [] place h none =
    let all : lines_of text ≡ h.lines = h.all ∙ append-nil h.lines in
    record {
      entries = h.entries;
      reads = rw (all, h.counted, whole h.lines) h.reads;
      behind = rw all h.counted;
    }
read_to_end i j text (b ∷ rest) place h none = absurd (omega (arith, none))

-- the entry of the next line lies behind
pub read_left : (i j k : ImageView) (text rest line behind : List ℕ) (place : ℕ) (next : Option Entry) → HasRead i text place rest j
    → lines_of rest ≡ line ∷ lines_of behind → is_some next ≡ true → DoesOrLeaves j line next k → StandsAt i (lines_of text) place next k
read_left i j k text rest line behind place (Some e) h at there left =
    subst (λ (x : ImageView). StandsAt i (lines_of text) place (Some e) x) (sym left.1) (read_at i j text rest line behind place e h at left.0)
read_left i j k text rest line behind place None h at there left = let never : false ≡ true = there in cc

-- the entry of the next line was done
pub read_next : (i j k : ImageView) (text rest line behind : List ℕ) (place : ℕ) (next : Option Entry) → HasRead i text place rest j
    → lines_of rest ≡ line ∷ lines_of behind → is_some next ≡ false → DoesOrLeaves j line next k → IsLawful k → HasRead i text (place + 1) behind k
read_next i j k text rest line behind place None h at there did lawful = read_more i j k text rest line behind place did.0 h at did.1 did.2 lawful
read_next i j k text rest line behind place (Some e) h at there did lawful = let never : true ≡ false = there in cc
