-- How far a session over devices has come, and how it ends.
use Rattle.std.proofs.Common.{◌≡◌, ℕ, ◌+◌, ◌*◌, ◌^◌, ◌≤◌, ◌<◌, Bool, true, false, List, [], ◌∷◌, ◌++◌, Option, Some, None, Ok, Err, length, refl, sym, ap, ◌∙◌, subst, inl, inr, arith, append-nil, length-append}
use Rattle.std.specs.Int.{from_bool}
use Rattle.std.specs.Io.KnownBytes.{Appends, Consumes, IsAtEnd, Keeps}
use Rattle.std.proofs.KnownBytes.{Appends-trans, Consumes-trans}
use Rattle.st_classes.specs.declared.refusals.Refusal.{Refusal}
use Rattle.st_classes.specs.declared.refusals.Refusal.TheVariants.{ReadFault}
use Rattle.st_wire.specs.declared.replies.Reply.{Reply}
use Rattle.st_wire.specs.Streams.{InputView, one_more, so_many_more}
use Rattle.st_session.specs.Lines.{lines, whole_lines}
use Rattle.st_session.specs.Sessions.{Session}
use Rattle.st_session.specs.DeviceSessions.{Gives, IsWhole, WhyStopped, DeviceSession}
use Rattle.st_session.specs.Cuts.{Holds, IsOpen}
use Rattle.st_session.specs.Answering.{Answered, AnswersLast, IsUnreadBy, TakesTurn}
use Rattle.st_session.specs.declared.unread.Unread.{Unread}
use Rattle.st_session.proofs.Counting.{so_many_then, one_then}
use Rattle.st_session.proofs.Going.{answered_start, answered_then, answered_more, answered_all, answered_whole, count_all, count_short, ends_then, session_one}

pub kept_nothing : (a b : Option (List ℕ)) → Keeps a b → Appends a b []
kept_nothing None b k = tt
kept_nothing (Some xs) None k = k
kept_nothing (Some xs) (Some ys) k = k ∙ sym (append-nil xs)

-- an empty piece leaves the unread bytes as they were
pub held_still : (pending piece : List ℕ) (n : ℕ) (u : Unread) → length piece ≡ n → n ≡ 0 → Holds (pending ++ piece) u → (piece ≡ []) × Holds pending u
held_still pending [] n u long none held = (refl, subst (λ (bytes : List ℕ). Holds bytes u) (append-nil pending) held)
held_still pending (b ∷ piece) n u long none held = absurd (omega arith)

-- these bytes were read so often, and all their whole lines are answered, so many
pub record Reached {S : Type 0} (replies : S → List ℕ → Reply → S → Type 0) (i : S) (before now : InputView) (out_before out : Option (List ℕ)) (k : S) (u : Unread) (count reads : ℕ) : Type 0 where
  pub taken : List ℕ
  pub written : List ℕ
  pub left : List ℕ
  pub consumed : Consumes before.remaining now.remaining taken
  pub appended : Appends out_before out written
  pub answered : Answered replies taken i written k left count
  pub whole : IsOpen left
  pub holds : Holds left u
  pub some : reads ≤ length taken
  pub most : length taken ≤ 8192 * reads
  pub unfailed : now.failures ≡ before.failures
  pub counted : now.reads ≡ so_many_more reads before.reads

nothing_consumed : (o : Option (List ℕ)) → Consumes o o []
nothing_consumed None = tt
nothing_consumed (Some xs) = refl

nothing_appended : (o : Option (List ℕ)) → Appends o o []
nothing_appended None = tt
nothing_appended (Some xs) = sym (append-nil xs)

empty_open : IsOpen []
empty_open = (refl, omega arith)

pub reached_start : {S : Type 0} (replies : S → List ℕ → Reply → S → Type 0) (i : S) (before : InputView) (out : Option (List ℕ)) (u : Unread) → Holds [] u → Reached replies i before before out out i u 0 0
reached_start replies i before out u h = record {
  taken = [];
  written = [];
  left = [];
  consumed = nothing_consumed before.remaining;
  appended = nothing_appended out;
  answered = answered_start replies [] i;
  whole = empty_open;
  holds = h;
  some = omega arith;
  most = omega arith;
  unfailed = refl;
  counted = refl;
}

-- a turn in which bytes came
pub reached_more : {S : Type 0} (replies : S → List ℕ → Reply → S → Type 0) (i : S) (before now after : InputView) (out_before out out_after : Option (List ℕ)) (k m : S) (u v : Unread) (count more reads : ℕ)
    (r : Reached replies i before now out_before out k u count reads) (piece part : List ℕ) → length piece ≤ 8192 → Consumes now.remaining after.remaining piece → Appends out out_after part
    → TakesTurn replies now.failures after.failures r.left piece k part m v (Ok (Some more)) → after.reads ≡ one_more now.reads
    → Reached replies i before after out_before out_after m v (count + more) (reads + 1)
reached_more replies i before now after out_before out out_after k m u v count more reads r piece part short consumed appended turn counted =
    let a = turn.2 in
    record {
      taken = r.taken ++ piece;
      written = r.written ++ part;
      left = a.0;
      consumed = Consumes-trans _ _ _ _ _ r.consumed consumed;
      appended = Appends-trans _ _ _ _ _ r.appended appended;
      answered = answered_then replies (r.taken ++ piece) (r.left ++ piece) a.0 i k m r.written part count more (answered_more replies r.taken piece r.left i k r.written count r.answered) a.1;
      whole = a.2;
      holds = a.3;
      some = omega (arith, r.some, turn.1, length-append r.taken piece);
      most = omega (arith, r.most, short, length-append r.taken piece);
      unfailed = turn.0 ∙ r.unfailed;
      counted = one_then reads now.reads before.reads after.reads r.counted counted;
    }

-- ---- what was read

consumed_nothing : (a b c : Option (List ℕ)) (taken piece : List ℕ) → Consumes a b taken → Consumes b c piece → piece ≡ [] → Consumes a c taken
consumed_nothing a b c taken piece f g none = subst (λ (xs : List ℕ). Consumes a c xs) (ap (λ xs. taken ++ xs) none ∙ append-nil taken) (Consumes-trans _ _ _ _ _ f g)

gives_more : {S : Type 0} (replies : S → List ℕ → Reply → S → Type 0) (i : S) (before now after : InputView) (out_before out : Option (List ℕ)) (k : S) (u : Unread) (count reads : ℕ)
    (r : Reached replies i before now out_before out k u count reads) (piece : List ℕ) (n : ℕ) → Consumes now.remaining after.remaining piece → reads < 2 ^ 32 → n ≤ 1 → after.reads ≡ so_many_more n now.reads → Gives before after (r.taken ++ piece)
gives_more replies i before now after out_before out k u count reads r piece n consumed bound one counted =
    (Consumes-trans _ _ _ _ _ r.consumed consumed, (reads + n, omega (arith, bound, one), omega (arith, r.some, one, length-append r.taken piece), counted ∙ ap (so_many_more n) r.counted ∙ so_many_then reads n before.reads))

gives_same : {S : Type 0} (replies : S → List ℕ → Reply → S → Type 0) (i : S) (before now after : InputView) (out_before out : Option (List ℕ)) (k : S) (u : Unread) (count reads : ℕ)
    (r : Reached replies i before now out_before out k u count reads) (piece : List ℕ) (n : ℕ) → Consumes now.remaining after.remaining piece → piece ≡ [] → reads < 2 ^ 32 → n ≤ 1 → after.reads ≡ so_many_more n now.reads → Gives before after r.taken
gives_same replies i before now after out_before out k u count reads r piece n consumed none bound one counted =
    subst (λ (xs : List ℕ). Gives before after xs) (ap (λ xs. r.taken ++ xs) none ∙ append-nil r.taken) (gives_more replies i before now after out_before out k u count reads r piece n consumed bound one counted)

whole_at : (a b : Option (List ℕ)) (taken : List ℕ) → Consumes a b taken → IsAtEnd b → IsWhole a b taken
whole_at None b taken c e = e
whole_at (Some xs) None taken c e = absurd c
whole_at (Some xs) (Some ys) taken c e = (sym (c ∙ ap (λ zs. taken ++ zs) e ∙ append-nil taken), ap Some e)

-- ---- a turn that ends the session

why_stopped : (before now after : InputView) (taken : List ℕ) (e : Refusal) → now.failures ≡ before.failures → IsUnreadBy now.failures after.failures e → WhyStopped before after taken e
why_stopped before now after taken e same (inl why) = inl (why.0, why.1 ∙ same)
why_stopped before now after taken e same (inr why) = inr (why.0, inl (why.1 ∙ ap one_more same))

pub stopped : {S : Type 0} (replies : S → List ℕ → Reply → S → Type 0) (i : S) (before now after : InputView) (out_before out out_after : Option (List ℕ)) (k m : S) (u v : Unread) (count reads n : ℕ)
    (r : Reached replies i before now out_before out k u count reads) (piece part : List ℕ) (e : Refusal) → Consumes now.remaining after.remaining piece → Appends out out_after part
    → TakesTurn replies now.failures after.failures r.left piece k part m v (Err e) → reads < 2 ^ 32 → n ≤ 1 → after.reads ≡ so_many_more n now.reads
    → (written : List ℕ) × Appends out_before out_after written × DeviceSession replies i before after written m (Err e)
stopped replies i before now after out_before out out_after k m u v count reads n r piece part e consumed appended (inl turn) bound one counted =
    let ends = ends_then replies (r.taken ++ piece) (r.left ++ piece) i k m r.written part count e (answered_more replies r.taken piece r.left i k r.written count r.answered) turn.1 in
    (r.written ++ part, Appends-trans _ _ _ _ _ r.appended appended, (r.taken ++ piece, gives_more replies i before now after out_before out k u count reads r piece n consumed bound one counted, inl (turn.0 ∙ r.unfailed, inl ends)))
stopped {S} replies i before now after out_before out out_after k m u v count reads n r piece part e consumed appended (inr turn) bound one counted =
    let done = answered_whole replies r.taken r.left i k r.written count r.answered r.whole in
    let s = subst (λ (x : S). Session replies i (whole_lines r.taken) r.written x None) (sym turn.2) done in
    let same = subst (λ (xs : List ℕ). Appends out_before out_after xs) (ap (λ xs. r.written ++ xs) turn.1 ∙ append-nil r.written) (Appends-trans _ _ _ _ _ r.appended appended) in
    (r.written, same, (r.taken, gives_same replies i before now after out_before out k u count reads r piece n consumed turn.0 bound one counted, inr (s, why_stopped before now after r.taken e r.unfailed turn.3)))

-- no end was found
pub endless : {S : Type 0} (replies : S → List ℕ → Reply → S → Type 0) (i : S) (before now : InputView) (out_before out : Option (List ℕ)) (k : S) (u : Unread) (count reads : ℕ)
    → Reached replies i before now out_before out k u count reads → reads ≡ 2 ^ 32
    → (written : List ℕ) × Appends out_before out written × DeviceSession replies i before now written k (Err ReadFault)
endless replies i before now out_before out k u count reads r all =
    let counted : now.reads ≡ so_many_more (2 ^ 32) before.reads = subst (λ (n : ℕ). now.reads ≡ so_many_more n before.reads) all r.counted in
    let long : 2 ^ 32 ≤ length r.taken = omega (arith, r.some, all) in
    let gives : Gives before now r.taken = (r.consumed, (reads, omega (arith, all), omega (arith, r.some), r.counted)) in
    (r.written, r.appended, (r.taken, gives, inr (answered_whole replies r.taken r.left i k r.written count r.answered r.whole, inr (refl, inr (r.unfailed, counted, long)))))

-- ---- the end of the input

-- the turn in which no byte came
pub record AtEnd {S : Type 0} (replies : S → List ℕ → Reply → S → Type 0) (i : S) (before after : InputView) (out_before out : Option (List ℕ)) (k : S) (u : Unread) (count : ℕ) : Type 0 where
  pub taken : List ℕ
  pub written : List ℕ
  pub left : List ℕ
  pub gives : Gives before after taken
  pub all : IsWhole before.remaining after.remaining taken
  pub appended : Appends out_before out written
  pub answered : Answered replies taken i written k left count
  pub whole : IsOpen left
  pub holds : Holds left u
  pub unfailed : after.failures ≡ before.failures
  pub few : length taken ≤ 8192 * 2 ^ 32

pub at_end : {S : Type 0} (replies : S → List ℕ → Reply → S → Type 0) (i : S) (before now after : InputView) (out_before out out_after : Option (List ℕ)) (k m : S) (u v : Unread) (count reads : ℕ)
    (r : Reached replies i before now out_before out k u count reads) (piece part : List ℕ) → Consumes now.remaining after.remaining piece → Appends out out_after part
    → TakesTurn replies now.failures after.failures r.left piece k part m v (Ok None) → reads < 2 ^ 32 → after.reads ≡ one_more now.reads → IsAtEnd after.remaining
    → AtEnd replies i before after out_before out_after m v count
at_end {S} replies i before now after out_before out out_after k m u v count reads r piece part consumed appended turn bound counted end = record {
  taken = r.taken;
  written = r.written;
  left = r.left;
  gives = gives_same replies i before now after out_before out k u count reads r piece 1 consumed turn.1 bound (omega arith) counted;
  all = whole_at _ _ r.taken (consumed_nothing _ _ _ r.taken piece r.consumed consumed turn.1) end;
  appended = subst (λ (xs : List ℕ). Appends out_before out_after xs) (ap (λ xs. r.written ++ xs) turn.2 ∙ append-nil r.written) (Appends-trans _ _ _ _ _ r.appended appended);
  answered = subst (λ (x : S). Answered replies r.taken i r.written x r.left count) (sym turn.3) r.answered;
  whole = r.whole;
  holds = turn.4;
  unfailed = turn.0 ∙ r.unfailed;
  few = omega (arith, r.most, bound);
}

last_session : {S : Type 0} (replies : S → List ℕ → Reply → S → Type 0) (left : List ℕ) (k m : S) (part : List ℕ) (b : Bool) → AnswersLast replies left k part m (Ok b) → Session replies k (lines left) part m None
last_session replies left k m part true a = rw a.0 (session_one replies left k m part a.1)
last_session replies left k m part false a = rw a.2 (a.0, a.1, refl)

pub done : {S : Type 0} (replies : S → List ℕ → Reply → S → Type 0) (i : S) (before after : InputView) (out_before out out_after : Option (List ℕ)) (k m : S) (u : Unread) (count last : ℕ) (b : Bool)
    (r : AtEnd replies i before after out_before out k u count) (part : List ℕ) → Appends out out_after part → AnswersLast replies r.left k part m (Ok b) → last ≡ length (lines r.left)
    → (written : List ℕ) × Appends out_before out_after written × DeviceSession replies i before after written m (Ok (count + last))
done replies i before after out_before out out_after k m u count last b r part appended a is =
    let s = answered_all replies r.taken r.left i k m r.written part count None r.answered (last_session replies r.left k m part b a) in
    let n = count_all replies r.taken r.left i k r.written count r.answered in
    (r.written ++ part, Appends-trans _ _ _ _ _ r.appended appended, (r.taken, r.gives, r.all, r.unfailed, s, omega (arith, n, is)))

pub ended : {S : Type 0} (replies : S → List ℕ → Reply → S → Type 0) (i : S) (before after : InputView) (out_before out out_after : Option (List ℕ)) (k m : S) (u : Unread) (count : ℕ) (e : Refusal)
    (r : AtEnd replies i before after out_before out k u count) (part : List ℕ) → Appends out out_after part → AnswersLast replies r.left k part m (Err e)
    → (written : List ℕ) × Appends out_before out_after written × DeviceSession replies i before after written m (Err e)
ended replies i before after out_before out out_after k m u count e r part appended (inl a) =
    let s : Session replies k (lines r.left) part m (Some e) = rw a.0 (inl (e, refl, a.1)) in
    (r.written ++ part, Appends-trans _ _ _ _ _ r.appended appended, (r.taken, r.gives, inl (r.unfailed, inr (r.all, answered_all replies r.taken r.left i k m r.written part count (Some e) r.answered s))))
ended {S} replies i before after out_before out out_after k m u count e r part appended (inr a) =
    let s = subst (λ (x : S). Session replies i (whole_lines r.taken) r.written x None) (sym a.1) (answered_whole replies r.taken r.left i k r.written count r.answered r.whole) in
    let same = subst (λ (xs : List ℕ). Appends out_before out_after xs) (ap (λ xs. r.written ++ xs) a.0 ∙ append-nil r.written) (Appends-trans _ _ _ _ _ r.appended appended) in
    (r.written, same, (r.taken, r.gives, inr (s, inl (inl a.2, r.unfailed))))

-- the number of the last line
pub last_count : {S : Type 0} (replies : S → List ℕ → Reply → S → Type 0) (left : List ℕ) (k m : S) (part : List ℕ) (b : Bool) → AnswersLast replies left k part m (Ok b) → from_bool b ≡ length (lines left)
last_count replies left k m part true a = sym (ap length a.0)
last_count replies left k m part false a = sym (ap length a.2)

-- ---- counts of lines

pub one_at_most : (b : Bool) → from_bool b ≤ 1
one_at_most true = omega arith
one_at_most false = omega arith

pub few_more : {S : Type 0} (replies : S → List ℕ → Reply → S → Type 0) (i : S) (before now after : InputView) (out_before out out_after : Option (List ℕ)) (k m : S) (u v : Unread) (count more reads : ℕ)
    (r : Reached replies i before now out_before out k u count reads) (piece part : List ℕ) → length piece ≤ 8192 → Consumes now.remaining after.remaining piece → Appends out out_after part
    → TakesTurn replies now.failures after.failures r.left piece k part m v (Ok (Some more)) → after.reads ≡ one_more now.reads
    → count + more ≤ 8192 * (reads + 1)
few_more replies i before now after out_before out out_after k m u v count more reads r piece part short consumed appended turn counted =
    let s = reached_more replies i before now after out_before out out_after k m u v count more reads r piece part short consumed appended turn counted in
    omega (arith, s.most, count_short replies s.taken s.left i m s.written (count + more) s.answered)

pub few_at_end : {S : Type 0} (replies : S → List ℕ → Reply → S → Type 0) (i : S) (before after : InputView) (out_before out : Option (List ℕ)) (k : S) (u : Unread) (count : ℕ)
    → AtEnd replies i before after out_before out k u count → count ≤ 8192 * 2 ^ 32
few_at_end replies i before after out_before out k u count r = omega (arith, r.few, count_short replies r.taken r.left i k r.written count r.answered)
