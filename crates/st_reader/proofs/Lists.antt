-- Runs of bytes of one sort.
use Rattle.std.proofs.Common.{◌≡◌, ℕ, zero, suc, ◌+◌, ◌<◌, Bool, true, false, ◌&&◌, List, [], ◌∷◌, ◌++◌, length, take, drop, refl, ap, arith}
use Rattle.std.specs.List.{list_all, prefix_len}
use Rattle.std.proofs.lemmas.Bool.{and_parts, and_from, eqb-true, eq-eqb}
use Rattle.st_reader.specs.Pieces.{begins, are_closed_by}

-- a run is as long as its bytes, where none follows
pub prefix_len-run : (p : ℕ → Bool) (bs behind : List ℕ) → list_all p bs ≡ true → begins p behind ≡ false → prefix_len p (bs ++ behind) ≡ length bs
prefix_len-run p [] [] all stop = refl
prefix_len-run p [] (c ∷ cs) all stop = rw stop refl
prefix_len-run p (b ∷ bs) behind all stop =
    let both = and_parts (p b) (list_all p bs) all in
    let here : p b ≡ true = both.0 in
    let more = prefix_len-run p bs behind both.1 stop in
    rw (here, more) (omega arith)

-- the bytes of a run pass
pub run_passes : (p : ℕ → Bool) (bs : List ℕ) → list_all p (take (prefix_len p bs) bs) ≡ true
run_passes p [] = refl
run_passes p (b ∷ bs) = by (run_passes p bs) (p b) refl
  where
    by : list_all p (take (prefix_len p bs) bs) ≡ true → (v : Bool) → p b ≡ v → list_all p (take (prefix_len p (b ∷ bs)) (b ∷ bs)) ≡ true
    by rest false e = rw e refl
    by rest true e =
        let one : 1 + prefix_len p bs ≡ suc (prefix_len p bs) = omega arith in
        let all : (p b && list_all p (take (prefix_len p bs) bs)) ≡ true = and_from _ _ e rest in
        rw (e, one) all

-- and none follows
pub run_stops : (p : ℕ → Bool) (bs : List ℕ) → begins p (drop (prefix_len p bs) bs) ≡ false
run_stops p [] = refl
run_stops p (b ∷ bs) = by (run_stops p bs) (p b) refl
  where
    by : begins p (drop (prefix_len p bs) bs) ≡ false → (v : Bool) → p b ≡ v → begins p (drop (prefix_len p (b ∷ bs)) (b ∷ bs)) ≡ false
    by rest false e = rw e e
    by rest true e =
        let one : 1 + prefix_len p bs ≡ suc (prefix_len p bs) = omega arith in
        rw (e, one) rest

-- a run and the byte that closes it
pub closed_cons : (c : ℕ) (p : ℕ → Bool) (b : ℕ) (bs : List ℕ) → p b ≡ true → are_closed_by c p bs ≡ true → are_closed_by c p (b ∷ bs) ≡ true
closed_cons c p b [] e f = absurd cc
closed_cons c p b (d ∷ ds) e f = and_from (p b) (are_closed_by c p (d ∷ ds)) e f

-- bytes that are closed: the run, and the byte alone
pub record IsClosed (c : ℕ) (p : ℕ → Bool) (bs : List ℕ) : Type 0 where
  pub inside : List ℕ
  pub all : list_all p inside ≡ true
  pub is : bs ≡ inside ++ c ∷ []

pub closed_parts : (c : ℕ) (p : ℕ → Bool) (bs : List ℕ) → are_closed_by c p bs ≡ true → IsClosed c p bs
closed_parts c p [] e = absurd cc
closed_parts c p (b ∷ []) e = record { inside = []; all = refl; is = ap (λ (n : ℕ). n ∷ []) (eqb-true b c e) }
closed_parts c p (b ∷ d ∷ ds) e =
    let both = and_parts (p b) (are_closed_by c p (d ∷ ds)) e in
    let rest = closed_parts c p (d ∷ ds) both.1 in
    record { inside = b ∷ rest.inside; all = and_from (p b) (list_all p rest.inside) both.0 rest.all; is = ap (λ (l : List ℕ). b ∷ l) rest.is }

-- the run of a text that begins with closed bytes
pub prefix_len-closed : (c : ℕ) (p : ℕ → Bool) (inside behind : List ℕ) → p c ≡ false → list_all p inside ≡ true → prefix_len p (inside ++ c ∷ behind) ≡ length inside
prefix_len-closed c p inside behind other all = prefix_len-run p inside (c ∷ behind) all other

-- the front of a text up to the byte that closes it
pub closed_take : (c : ℕ) (p : ℕ → Bool) (bs behind : List ℕ) → drop (prefix_len p bs) bs ≡ c ∷ behind → (are_closed_by c p (take (prefix_len p bs + 1) bs) ≡ true) × (drop (prefix_len p bs + 1) bs ≡ behind)
closed_take c p [] behind e = absurd cc
closed_take c p (b ∷ bs) behind e = by (closed_take c p bs behind) (p b) refl
  where
    by : (drop (prefix_len p bs) bs ≡ c ∷ behind → (are_closed_by c p (take (prefix_len p bs + 1) bs) ≡ true) × (drop (prefix_len p bs + 1) bs ≡ behind)) → (v : Bool) → p b ≡ v → (are_closed_by c p (take (prefix_len p (b ∷ bs) + 1) (b ∷ bs)) ≡ true) × (drop (prefix_len p (b ∷ bs) + 1) (b ∷ bs) ≡ behind)
    by rest false f =
        let at : b ∷ bs ≡ c ∷ behind = rw f at e in
        let same : b ≡ c = cc in
        let after : bs ≡ behind = cc in
        rw f (eq-eqb b c same, after)
    by rest true f =
        let one : 1 + prefix_len p bs ≡ suc (prefix_len p bs) = omega arith in
        let two : suc (prefix_len p bs) + 1 ≡ suc (prefix_len p bs + 1) = omega arith in
        let at : drop (prefix_len p bs) bs ≡ c ∷ behind = rw (f, one) at e in
        let more = rest at in
        rw (f, one, two) (closed_cons c p b (take (prefix_len p bs + 1) bs) f more.0, more.1)

-- where a byte begins the rest, the text is longer than what is before it
pub begins_below : (p : ℕ → Bool) (text : List ℕ) (n : ℕ) → begins p (drop n text) ≡ true → n < length text
begins_below p [] zero e = absurd cc
begins_below p [] (suc n) e = absurd cc
begins_below p (b ∷ bs) zero e = omega arith
begins_below p (b ∷ bs) (suc n) e = let h = begins_below p bs n e in omega (arith, h)
