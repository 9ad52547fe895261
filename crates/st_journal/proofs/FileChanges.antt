-- One change more of a file.
use Rattle.std.proofs.Common.{◌≡◌, ◌⊎◌, inl, inr, ℕ, zero, suc, ◌+◌, ◌≤◌, Bool, true, false, ◌&&◌, List, [], ◌∷◌, ◌++◌, length, take, drop, reverse, refl, sym, ◌∙◌, ap, subst, arith, length-append, length-drop}
use Rattle.std.proofs.lemmas.List.{append_assoc, drop_at, length-take, length-take-le, reverse-append, take_all, take_at, take_min}
use Rattle.std.specs.Bool.{MatchBool}
use Rattle.st_log.specs.Device.{Elapses, TornTruncation, TornWrite}
use Rattle.st_journal.specs.FileDevices.{BeginWithin, all_done, contents_of, left_since_of, may_leave_of}
use Rattle.st_journal.specs.declared.changes.Change.{Change}
use Rattle.st_journal.specs.declared.changes.Change.TheVariants as change

newest : (items later : List Change) (x : Change) → later ≡ items ++ x ∷ [] → reverse later ≡ x ∷ reverse items
newest items later x is = ap (λ (l : List Change). reverse l) is ∙ reverse-append items (x ∷ [])

-- ---- time

module _ (bytes : List ℕ) where
  goes_on : (x : Change) (cs : List Change) (t : ℕ) (c : List ℕ) (k : ℕ) → t ≤ length (drop k (x ∷ cs)) → may_leave_of bytes (drop k (x ∷ cs)) c
      → left_since_of bytes cs t c ⊎ may_leave_of bytes (x ∷ cs) c
  goes_on x cs t c zero le left = inr left
  goes_on x cs t c (suc k) le left = inl (k, le, left)

  pub elapses_to : (items later : List Change) (x : Change) → later ≡ items ++ x ∷ []
      → Elapses (length items) (length later) (left_since_of bytes (reverse items)) (left_since_of bytes (reverse later)) (may_leave_of bytes (reverse later))
  elapses_to items later x is =
      let same : reverse later ≡ x ∷ reverse items = newest items later x is in
      record {
        later = omega (arith, ap (λ (l : List Change). length l) is, length-append items (x ∷ []));
        nothing_else = λ t c le left.
            let now = subst (λ (l : List Change). left_since_of bytes l t c) same left in
            subst (λ (l : List Change). left_since_of bytes (reverse items) t c ⊎ may_leave_of bytes l c) (sym same)
            (goes_on x (reverse items) t c now.0 now.1 now.2);
        keeps = λ t c le left. subst (λ (l : List Change). left_since_of bytes l t c) (sym same) (suc left.0, left.1, left.2);
      }

-- ---- what a sync leaves

same_is_torn : (at n : ℕ) (old : List ℕ) → TornWrite at n old old
same_is_torn at n old = record { before = refl; after = refl; no_shorter = omega arith; no_longer = omega arith }

written_is_torn : (at : ℕ) (bytes old : List ℕ) → at ≤ length old → TornWrite at (length bytes) old (take at old ++ bytes ++ drop (at + length bytes) old)
written_is_torn at bytes old le =
    let front : length (take at old) ≡ at = length-take-le at old le in
    let rest = drop (at + length bytes) old in
    let both : length (take at old ++ bytes) ≡ at + length bytes = omega (arith, front, length-append (take at old) bytes) in
    let all : length (take at old ++ bytes ++ rest) ≡ at + length bytes + length rest = omega (arith, both, length-append (take at old ++ bytes) rest) in
    record {
      before = ap (take at) (append_assoc (take at old) bytes rest) ∙ take_at (take at old) (bytes ++ rest) at front;
      after = drop_at (take at old ++ bytes) rest (at + length bytes) both;
      no_shorter = omega (arith, all, length-drop (at + length bytes) old);
      no_longer = omega (arith, all, length-drop (at + length bytes) old);
    }

same_is_cut : (n : ℕ) (old : List ℕ) → TornTruncation n old old
same_is_cut n old = record { no_shorter = omega arith; front = take_all (length old) old (omega arith) }

cut_is_torn : (n : ℕ) (old : List ℕ) → TornTruncation n old (take n old)
cut_is_torn n old = record {
  no_shorter = omega (arith, length-take n old);
  front = ap (λ (k : ℕ). take k old) (length-take n old) ∙ take_min n old;
}

either : {P Q : Type 0} (b : Bool) → P → Q → MatchBool b P Q
either true p q = p
either false p q = q

-- a crash may leave what is there
has_contents : (bytes : List ℕ) (cs : List Change) → BeginWithin bytes cs → may_leave_of bytes cs (contents_of bytes cs)
has_contents bytes [] within = tt
has_contents bytes (change.Written at v true ∷ cs) within = (contents_of bytes cs, has_contents bytes cs within.1, written_is_torn at v.items (contents_of bytes cs) within.0)
has_contents bytes (change.Written at v false ∷ cs) within = (contents_of bytes cs, has_contents bytes cs within.1, same_is_torn at (length v.items) (contents_of bytes cs))
has_contents bytes (change.Cut n true ∷ cs) within = (contents_of bytes cs, has_contents bytes cs within, cut_is_torn n (contents_of bytes cs))
has_contents bytes (change.Cut n false ∷ cs) within = (contents_of bytes cs, has_contents bytes cs within, same_is_cut n (contents_of bytes cs))
has_contents bytes (change.Synced done ∷ cs) within = either (done && all_done cs) refl (has_contents bytes cs within)

-- so a sync adds nothing to what a crash may leave, if no call has failed
pub adds_none : (bytes : List ℕ) (items later : List Change) (done : Bool) → later ≡ items ++ change.Synced done ∷ []
    → done ≡ true → all_done (reverse items) ≡ true → BeginWithin bytes (reverse items)
    → (c : List ℕ) → may_leave_of bytes (reverse later) c → may_leave_of bytes (reverse items) c
adds_none bytes items later done is now before within c left =
    let cs = reverse items in
    let here : MatchBool (done && all_done cs) (c ≡ contents_of bytes cs) (may_leave_of bytes cs c) =
    subst (λ (l : List Change). may_leave_of bytes l c) (newest items later (change.Synced done) is) left in
    let all : (done && all_done cs) ≡ true = ap (λ (b : Bool). b && all_done cs) now ∙ before in
    let same : c ≡ contents_of bytes cs = subst (λ (b : Bool). MatchBool b (c ≡ contents_of bytes cs) (may_leave_of bytes cs c)) all here in
    subst (may_leave_of bytes cs) (sym same) (has_contents bytes cs within)
