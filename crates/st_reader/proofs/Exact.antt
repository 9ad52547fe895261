-- The cutting gives just the cuts.
use Rattle.std.proofs.Common.{◌≡◌, ℕ, zero, suc, ◌+◌, true, false, List, [], ◌∷◌, ◌++◌, length, take, drop, Option, Some, None, refl, sym, subst, ap, ◌∙◌, arith, add-zero, add-one}
use Rattle.std.specs.Prelude.{option_map, option_and_then}
use Rattle.std.proofs.lemmas.List.{take-append-drop}
use Rattle.std.proofs.Math.Seq.{take-append_seam, drop-append_seam}
use Rattle.std.specs.Str.{bytes_eq}
use Rattle.st_reader.specs.declared.tokens.Mark.{Mark as Sign}
use Rattle.st_reader.specs.declared.tokens.Mark.TheVariants.{OpenParenthesis, CloseParenthesis, OpenBlock, CloseBlock, Caret, Period, Semicolon, Bar}
use Rattle.st_reader.specs.declared.tokens.Kind.TheVariants.{Identifier, Keyword, Assign, Binary, Number, Symbol, Mark}
use Rattle.st_reader.specs.declared.tokens.Piece.{Piece}
use Rattle.st_reader.specs.declared.tokens.Piece.TheVariants.{White, Comment, Token as Whole}
use Rattle.st_reader.specs.Pieces.{is_piece, may_stop, sign}
use Rattle.st_reader.specs.Tokens.{Token, span, piece_tokens, tokens_from, bytes_of, AreWhole, IsCut, CutsOneWay}
use Rattle.st_reader.specs.Lexer.{front, tokens_behind, tokens}
use Rattle.st_reader.proofs.Found.{front_found}
use Rattle.st_reader.proofs.Fronts.{front_is}
use Rattle.st_reader.proofs.Cutting.{tokens_behind-piece}

-- ---- a cut is what the cutting gives

no_mark : (m : Sign) → bytes_eq [] (sign m) ≡ false
no_mark OpenParenthesis = refl
no_mark CloseParenthesis = refl
no_mark OpenBlock = refl
no_mark CloseBlock = refl
no_mark Caret = refl
no_mark Period = refl
no_mark Semicolon = refl
no_mark Bar = refl

-- no piece is empty
pub some_byte : (p : Piece) → is_piece p [] ≡ false
some_byte White = refl
some_byte Comment = refl
some_byte (Whole Identifier) = refl
some_byte (Whole Keyword) = refl
some_byte (Whole Assign) = refl
some_byte (Whole Binary) = refl
some_byte (Whole Number) = refl
some_byte (Whole Symbol) = refl
some_byte (Whole (Mark m)) = no_mark m

pub pieces_cut : (place : ℕ) (ps : List (Piece × List ℕ)) → AreWhole ps [] → tokens_behind 0 place (bytes_of ps []) ≡ Some (tokens_from place ps)
unfolding tokens_behind
pieces_cut place [] whole = refl
pieces_cut place ((p, []) ∷ ps) whole = let none = some_byte p in let some = whole.0 in absurd cc
pieces_cut place ((p, b ∷ bs) ∷ ps) whole =
    let found : front (b ∷ bs ++ bytes_of ps []) ≡ Some (p, length bs) = front_found p b bs (bytes_of ps []) whole.0 whole.1 in
    let one : length bs + 1 ≡ suc (length bs) = add-one (length bs) in
    let here : take (length bs) (bs ++ bytes_of ps []) ≡ bs = take-append_seam bs (bytes_of ps []) in
    let there : drop (length bs) (bs ++ bytes_of ps []) ≡ bytes_of ps [] = drop-append_seam bs (bytes_of ps []) in
    let rest : tokens_behind 0 (place + suc (length bs)) (bytes_of ps []) ≡ Some (tokens_from (place + suc (length bs)) ps) = pieces_cut (place + suc (length bs)) ps whole.2 in
    tokens_behind-piece place (b ∷ bs ++ bytes_of ps []) p (length bs) found ∙ rw (one, here, there, rest) refl

-- ---- what the cutting gives is a cut

-- the rest of a text from a place on is a row of pieces, whose tokens these are
record IsCutFrom (place : ℕ) (text : List ℕ) (ts : List Token) : Type 0 where
  pieces : List (Piece × List ℕ)
  joined : bytes_of pieces [] ≡ text
  whole : AreWhole pieces []
  tokens : tokens_from place pieces ≡ ts

same_more : (p q : Piece) (m n : ℕ) → ◌≡◌ {A = Option (Piece × ℕ)} (Some (p, m)) (Some (q, n)) → n ≡ m
same_more p q m n e = ap more (sym e)
  where
    more : Option (Piece × ℕ) → ℕ
    more (Some x) = x.1
    more None = 0

-- what is found lies in the text
pub front_long : (b : ℕ) (bs : List ℕ) (p : Piece) (n : ℕ) → front (b ∷ bs) ≡ Some (p, n) → length (take n bs) ≡ n
front_long b bs p n e =
    let at = front_is b bs (p, n) e in
    let all : take n bs ++ drop n bs ≡ bs = take-append-drop n bs in
    let again : front (b ∷ take n bs ++ drop n bs) ≡ Some (p, length (take n bs)) = front_found p b (take n bs) (drop n bs) at.piece at.stops in
    let found : front (b ∷ bs) ≡ Some (p, length (take n bs)) = rw all at again in
    same_more p p n (length (take n bs)) (sym e ∙ found)

-- one piece more in front
one_piece : (place b : ℕ) (bs : List ℕ) (p : Piece) (n : ℕ) (ts : List Token) → front (b ∷ bs) ≡ Some (p, n) → IsCutFrom (place + suc n) (drop n bs) ts → IsCutFrom place (b ∷ bs) (piece_tokens p (b ∷ take n bs) (span place (place + suc n)) ++ ts)
one_piece place b bs p n ts e rest =
    let at = front_is b bs (p, n) e in
    let all : take n bs ++ drop n bs ≡ bs = take-append-drop n bs in
    let long : length (take n bs) ≡ n = front_long b bs p n e in
    let joined : bytes_of rest.pieces [] ≡ drop n bs = rest.joined in
    let stops : may_stop p (b ∷ take n bs) (bytes_of rest.pieces []) ≡ true = rw joined at.stops in
    record {
      pieces = (p, b ∷ take n bs) ∷ rest.pieces;
      joined = rw (joined, all) refl;
      whole = (at.piece, stops, rest.whole);
      tokens = rw (long, rest.tokens) refl;
    }

cut_pieces : (more place : ℕ) (text : List ℕ) (ts : List Token) → tokens_behind more place text ≡ Some ts → IsCutFrom (place + more) (drop more text) ts
unfolding tokens_behind
cut_pieces zero place [] ts e = let none : [] ≡ ts = cc in record { pieces = []; joined = refl; whole = tt; tokens = none }
cut_pieces (suc more) place [] ts e = let none : [] ≡ ts = cc in record { pieces = []; joined = refl; whole = tt; tokens = none }
cut_pieces (suc more) place (b ∷ bs) ts e =
    let there : place + 1 + more ≡ place + suc more = omega arith in
    subst (λ (n : ℕ). IsCutFrom n (drop more bs) ts) there (cut_pieces more (place + 1) bs ts e)
cut_pieces zero place (b ∷ bs) ts e = subst (λ (n : ℕ). IsCutFrom n (b ∷ bs) ts) (sym (add-zero place)) (by (front (b ∷ bs)) refl (λ more next. cut_pieces more (place + 1) bs next) e)
  where
    put : Piece × ℕ → List Token → List Token
    put p ts = piece_tokens p.0 (take (p.1 + 1) (b ∷ bs)) (span place (place + (p.1 + 1))) ++ ts

    last : (p : Piece) (n : ℕ) → front (b ∷ bs) ≡ Some (p, n) → (o : Option (List Token)) → ((next : List Token) → o ≡ Some next → IsCutFrom (place + 1 + n) (drop n bs) next) → option_map (put (p, n)) o ≡ Some ts → IsCutFrom place (b ∷ bs) ts
    last p n f None rest g = absurd cc
    last p n f (Some next) rest g =
        let one : n + 1 ≡ suc n = add-one n in
        let same : put (p, n) next ≡ ts = cc in
        let there : place + 1 + n ≡ place + suc n = omega arith in
        let after : IsCutFrom (place + suc n) (drop n bs) next = subst (λ (m : ℕ). IsCutFrom m (drop n bs) next) there (rest next refl) in
        let all : piece_tokens p (b ∷ take n bs) (span place (place + suc n)) ++ next ≡ ts = rw one at same in
        subst (λ (l : List Token). IsCutFrom place (b ∷ bs) l) all (one_piece place b bs p n next f after)

    by : (o : Option (Piece × ℕ)) → front (b ∷ bs) ≡ o → ((more : ℕ) (next : List Token) → tokens_behind more (place + 1) bs ≡ Some next → IsCutFrom (place + 1 + more) (drop more bs) next) → option_and_then (λ p. option_map (put p) (tokens_behind p.1 (place + 1) bs)) o ≡ Some ts → IsCutFrom place (b ∷ bs) ts
    by None f rest g = absurd cc
    by (Some (p, n)) f rest g = last p n f (tokens_behind n (place + 1) bs) (rest n) g

pub cut_tokens : (text : List ℕ) (ts : List Token) → IsCut text ts → tokens text ≡ Some ts
cut_tokens text ts c =
    let all : tokens_behind 0 0 (bytes_of c.pieces []) ≡ Some (tokens_from 0 c.pieces) = pieces_cut 0 c.pieces c.whole in
    rw (c.joined, c.tokens) at all

pub tokens_cut : (text : List ℕ) (ts : List Token) → tokens text ≡ Some ts → IsCut text ts
tokens_cut text ts e =
    let c : IsCutFrom 0 text ts = cut_pieces 0 0 text ts e in
    record { pieces = c.pieces; joined = c.joined; whole = c.whole; tokens = c.tokens }

pub one_way : CutsOneWay
one_way text a b x y =
    let first = cut_tokens text a x in
    let second = cut_tokens text b y in
    cc
