-- What the lines of a journal lead to, and what they lead to after a crash.
use Rattle.std.specs.Prelude.{◌≡◌, ◌⊎◌, ℕ, ◌≤◌, List, [], ◌∷◌, ◌++◌, length, take, Some, Vec}
use Rattle.std.specs.declared.alloc.Global.{Global}
use Rattle.st_image.specs.Images.{ImageView, world}
use Rattle.st_image.specs.WorldInvariant.{IsLawful}
use Rattle.st_image.specs.Worlds.{Constants, World}
use Rattle.st_log.specs.Lines.{HasFirst, IsBeforeOrAfter, whole_lines, lines_of as batch_lines}
use Rattle.st_journal.specs.declared.entries.Entry.{Entry}
use Rattle.st_journal.specs.declared.entries.Entry.TheVariants as entry
use Rattle.st_journal.specs.EntryLines.{SaysEntry}
use Rattle.st_journal.specs.EntryTexts.{ReadsAll, lines_of}
use Rattle.st_journal.specs.Marks.{Mark, after}
use Rattle.st_journal.specs.Recovery.{Happened, Tells}

-- where a journal stands: the names and the world so far, and the marks that are still to be told
pub record Place : Type 0 where
  pub names : List (List ℕ)
  pub world : World
  pub marks : List Mark

-- Any entry but a name takes the next mark, and the world is then the one to which that leads. A name is added behind the others.
abbrev pub Takes : Constants → Place → Entry → Place → Type 0
Takes c p (entry.Name text) q = q ≡ record p { names = p.names ++ text ∷ [] }
Takes c p e q = (m : Mark) × (p.marks ≡ m ∷ q.marks) × (after c p.world m ≡ Some q.world) × (q.names ≡ p.names)

-- Lines tell entries, one each, with which all marks are taken. Each says its entry by the names and the class table at its place.
abbrev pub Told : Constants → Place → List Entry → List (List ℕ) → Type 0
Told c p [] [] = p.marks ≡ []
Told c p (e ∷ es) (line ∷ lines) = SaysEntry p.names p.world.edits line e × (q : Place) × Takes c p e q × Told c q es lines
Told c p [] (line ∷ lines) = ⊥
Told c p (e ∷ es) [] = ⊥

-- lines tell what happened to an image from some moment on: to these names and this world it led
pub record IsToldBy (i : ImageView) (lines : List (List ℕ)) (names : List (List ℕ)) (v : World) : Type 0 where
  pub entries : List Entry
  pub marks : List Mark
  pub tells : Tells i.names entries marks names
  pub happened : Happened (record { names = names; capacity = i.capacity }) (world i) marks v
  pub told : Told (record { names = names; capacity = i.capacity }) (record { names = i.names; world = world i; marks = marks }) entries lines

-- Lines that tell what happened to an image, done again from there, lead to the very names and the very world to which it led.
abbrev pub LinesLeadBack : Type 0
LinesLeadBack = (i j : ImageView) (lines : List (List ℕ)) (es : List Entry) (names : List (List ℕ)) (v : World)
    → IsLawful i
    → IsToldBy i lines names v
    → ReadsAll i lines es j
    → (j.names ≡ names) × (world j ≡ v)

-- ---- crashes

-- The lines so far, and those of any first batches behind them, tell what happened to an image: to these names and worlds it led.
abbrev pub AreToldBy : ImageView → List ℕ → List (Vec ℕ Global) → (ℕ → List (List ℕ)) → (ℕ → World) → Type 0
AreToldBy i old batches names worlds =
    (n : ℕ) → n ≤ length batches → IsToldBy i (lines_of (old ++ batch_lines (take n batches))) (names n) (worlds n)

-- Whatever a crash leaves of a journal while batches are added, its lines, done again, lead back to where the lines so far and some first
-- batches led: no batch is done in part, and none is skipped. Those that were acknowledged are among the lines so far.
abbrev pub CrashesLeadBack : Type 0
CrashesLeadBack = (i : ImageView) (old : List ℕ) (batches : List (Vec ℕ Global)) (names : ℕ → List (List ℕ)) (worlds : ℕ → World)
    → IsLawful i
    → AreToldBy i old batches names worlds
    → (text : List ℕ) → HasFirst old batches text
    → (n : ℕ) × (n ≤ length batches)
    × ((j : ImageView) (es : List Entry) → ReadsAll i (lines_of (whole_lines text)) es j → (j.names ≡ names n) × (world j ≡ worlds n))

-- the same where one batch was being added: all of it was done, or nothing
abbrev pub CrashLeadsBack : Type 0
CrashLeadsBack = (i j : ImageView) (old batch text : List ℕ) (names_before names_behind : List (List ℕ)) (before behind : World) (es : List Entry)
    → IsLawful i
    → IsToldBy i (lines_of old) names_before before
    → IsToldBy i (lines_of (old ++ whole_lines batch)) names_behind behind
    → IsBeforeOrAfter old batch text
    → ReadsAll i (lines_of (whole_lines text)) es j
    → ((j.names ≡ names_before) × (world j ≡ before)) ⊎ ((j.names ≡ names_behind) × (world j ≡ behind))
