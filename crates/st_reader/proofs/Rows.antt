-- Rows that are read item by item.
use Rattle.std.proofs.Common.{◌≡◌, List, [], ◌∷◌, ◌++◌, Some, None, refl, sym, ap, append_assoc}
use Rattle.std.proofs.lemmas.List.{append-nil}
use Rattle.st_reader.specs.Tokens.{Token}
use Rattle.st_reader.specs.Parser.{Read, in_front}

-- more in front of a row that is always read
abbrev pub ahead : {X : Type 0} → List X → List X × List Token → List X × List Token
ahead xs r = (xs ++ r.0, r.1)

pub ahead_more : {X : Type 0} (xs : List X) (x : X) (r : List X × List Token) → ahead xs (ahead (x ∷ []) r) ≡ ahead (xs ++ x ∷ []) r
ahead_more {X} xs x r = ap (λ (l : List X). (l, r.1)) (sym (append_assoc xs (x ∷ []) r.0))

pub ahead_none : {X : Type 0} (xs : List X) (ts : List Token) → ahead xs ([], ts) ≡ (xs, ts)
ahead_none {X} xs ts = ap (λ (l : List X). (l, ts)) (append-nil xs)

read_row : {X : Type 0} → List X → List Token → Read (List X)
read_row l ts = Some (l, ts)

pub in_front_more : {X : Type 0} (xs : List X) (x : X) (read : Read (List X)) → in_front xs (in_front (x ∷ []) read) ≡ in_front (xs ++ x ∷ []) read
unfolding read_row
in_front_more xs x None = refl
in_front_more {X} xs x (Some r) = ap (λ (l : List X). read_row l r.1) (sym (append_assoc xs (x ∷ []) r.0))

pub in_front_none : {X : Type 0} (xs : List X) (ts : List Token) → in_front xs (Some ([], ts)) ≡ Some (xs, ts)
unfolding read_row
in_front_none {X} xs ts = ap (λ (l : List X). read_row l ts) (append-nil xs)
