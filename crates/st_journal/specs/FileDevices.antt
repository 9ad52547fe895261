-- What a file has by the changes that were made of it, and what a crash may leave of it. Here changes stand the newest first.
use Rattle.std.specs.Prelude.{◌≡◌, ℕ, zero, suc, ◌+◌, ◌≤◌, Bool, true, false, ◌&&◌, List, [], ◌∷◌, ◌++◌, length, take, drop, reverse, Vec, refl}
use Rattle.std.specs.Bool.{MatchBool}
use Rattle.std.specs.Coded.{×_prop, Unit-prop, le_prop}
use Rattle.std.proofs.Common.{sym, subst}
use Rattle.std.proofs.Math.Nat.{le_trans, not-suc-le_self, sub-le}
use Rattle.std.proofs.lemmas.List.{length-drop, length-reverse}
use Rattle.std.specs.declared.alloc.Global.{Global}
use Rattle.st_log.specs.Device.{TornTruncation, TornWrite}
use Rattle.st_journal.specs.declared.changes.Change.{Change}
use Rattle.st_journal.specs.declared.changes.Change.TheVariants as change

-- the bytes that were read when the file was opened; they are the only item
abbrev pub first_bytes : List (Vec ℕ Global) → List ℕ
first_bytes [] = []
first_bytes (v ∷ vs) = v.items

-- no call failed
abbrev pub all_done : List Change → Bool
all_done [] = true
all_done (change.Written at v done ∷ cs) = done && all_done cs
all_done (change.Cut n done ∷ cs) = done && all_done cs
all_done (change.Synced done ∷ cs) = done && all_done cs

-- What the file has: those bytes, and each change since that was done. A change that failed is taken for one that did nothing, since
-- nothing is read behind it.
abbrev pub contents_of : List ℕ → List Change → List ℕ
contents_of bytes [] = bytes
contents_of bytes (change.Written at v true ∷ cs) = take at (contents_of bytes cs) ++ v.items ++ drop (at + length v.items) (contents_of bytes cs)
contents_of bytes (change.Written at v false ∷ cs) = contents_of bytes cs
contents_of bytes (change.Cut n true ∷ cs) = take n (contents_of bytes cs)
contents_of bytes (change.Cut n false ∷ cs) = contents_of bytes cs
contents_of bytes (change.Synced done ∷ cs) = contents_of bytes cs

-- What a crash may leave of it. Of a file that was just opened nothing is known. What was changed since may be torn, whether the call
-- failed or not, until all is on the disk. Once a call has failed, a sync changes nothing of this: not all may be on the disk behind it.
abbrev pub may_leave_of : List ℕ → List Change → List ℕ → Type 0
may_leave_of bytes [] c = Unit {0}
may_leave_of bytes (change.Written at v done ∷ cs) c = (d : List ℕ) × may_leave_of bytes cs d × TornWrite at (length v.items) d c
may_leave_of bytes (change.Cut n done ∷ cs) c = (d : List ℕ) × may_leave_of bytes cs d × TornTruncation n d c
may_leave_of bytes (change.Synced done ∷ cs) c = MatchBool (done && all_done cs) (c ≡ contents_of bytes cs) (may_leave_of bytes cs c)

-- what a crash might have left at some moment since there were t changes
abbrev pub left_since_of : List ℕ → List Change → ℕ → List ℕ → Type 0
left_since_of bytes cs t c = (k : ℕ) × (t ≤ length (drop k cs)) × may_leave_of bytes (drop k cs) c

-- no write began behind the end
abbrev pub BeginWithin : List ℕ → List Change → Type 0
BeginWithin bytes [] = Unit {0}
BeginWithin bytes (change.Written at v done ∷ cs) = (at ≤ length (contents_of bytes cs)) × BeginWithin bytes cs
BeginWithin bytes (change.Cut n done ∷ cs) = BeginWithin bytes cs
BeginWithin bytes (change.Synced done ∷ cs) = BeginWithin bytes cs

pub BeginWithin-prop : (bytes : List ℕ) (cs : List Change) → IsProp (BeginWithin bytes cs)
BeginWithin-prop bytes [] = Unit-prop
BeginWithin-prop bytes (change.Written at v done ∷ cs) = ×_prop le_prop (BeginWithin-prop bytes cs)
BeginWithin-prop bytes (change.Cut n done ∷ cs) = BeginWithin-prop bytes cs
BeginWithin-prop bytes (change.Synced done ∷ cs) = BeginWithin-prop bytes cs

-- ---- what a device promises of its moments

pub counts_now : (bytes : List ℕ) (items : List Change) (t : ℕ) (c : List ℕ) → t ≤ length items → may_leave_of bytes (reverse items) c
    → left_since_of bytes (reverse items) t c
counts_now bytes items t c le now = (0, subst (λ (n : ℕ). t ≤ n) (sym (length-reverse items)) le, now)

drop_none : (k : ℕ) (cs : List Change) → length cs ≤ length (drop k cs) → drop k cs ≡ cs
drop_none zero cs le = refl
drop_none (suc k) [] le = refl
drop_none (suc k) (x ∷ cs) le =
    absurd (not-suc-le_self (length cs) (le_trans le (subst (λ (n : ℕ). n ≤ length cs) (sym (length-drop k cs)) (sub-le (length cs) k))))

pub only_now : (bytes : List ℕ) (items : List Change) (c : List ℕ) → left_since_of bytes (reverse items) (length items) c
    → may_leave_of bytes (reverse items) c
only_now bytes items c left =
    let cs = reverse items in
    let none = drop_none left.0 cs (subst (λ (n : ℕ). n ≤ length (drop left.0 cs)) (sym (length-reverse items)) left.1) in
    subst (λ (l : List Change). may_leave_of bytes l c) none left.2
