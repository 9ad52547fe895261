-- The pieces before the place where the cutting stops.
use Rattle.std.proofs.Common.{◌≡◌, ℕ, suc, ◌+◌, ◌<◌, true, List, [], ◌∷◌, ◌++◌, length, take, drop, Some, None, refl, sym, subst, ap, ◌∙◌, arith, add-zero, add-one, append_assoc, length-append}
use Rattle.std.proofs.lemmas.List.{append-nil, map-append, take-append-drop}
use Rattle.st_reader.specs.declared.trees.Span.{Span}
use Rattle.st_reader.specs.declared.tokens.Piece.{Piece}
use Rattle.st_reader.specs.declared.tokens.Piece.TheVariants.{White, Comment, Token as Whole}
use Rattle.st_reader.specs.declared.tokens.Lexeme.{Lexeme}
use Rattle.st_reader.specs.Pieces.{is_piece, may_stop}
use Rattle.st_reader.specs.Tokens.{Token, span, token, piece_tokens, tokens_from, bytes_of, AreWhole, IsCutBefore, BeginsNone, StopsAt}
use Rattle.st_reader.specs.Lexemes.{text_at, token_of, tokens_of, piece_lexemes}
use Rattle.st_reader.specs.Lexer.{front}
use Rattle.st_reader.proofs.Found.{front_found}
use Rattle.st_reader.proofs.Fronts.{front_is}
use Rattle.st_reader.proofs.Cutting.{text_of}
use Rattle.st_reader.proofs.Exact.{some_byte, front_long}

-- how many bytes pieces have
total : List (Piece × List ℕ) → ℕ
total [] = 0
total (p ∷ ps) = length p.1 + total ps

length-bytes_of : (ps : List (Piece × List ℕ)) (behind : List ℕ) → length (bytes_of ps behind) ≡ total ps + length behind
unfolding total
length-bytes_of [] behind = omega arith
length-bytes_of (p ∷ ps) behind = let h = length-bytes_of ps behind in omega (arith, h, length-append p.1 (bytes_of ps behind))

-- ---- one piece more behind others

bytes_of-more : (ps : List (Piece × List ℕ)) (p : Piece × List ℕ) (behind : List ℕ) → bytes_of (ps ++ p ∷ []) behind ≡ bytes_of ps (p.1 ++ behind)
bytes_of-more [] p behind = refl
bytes_of-more (q ∷ qs) p behind = ap (λ (l : List ℕ). q.1 ++ l) (bytes_of-more qs p behind)

AreWhole-more : (ps : List (Piece × List ℕ)) (p : Piece × List ℕ) (behind : List ℕ) → AreWhole ps (p.1 ++ behind) → is_piece p.0 p.1 ≡ true → may_stop p.0 p.1 behind ≡ true → AreWhole (ps ++ p ∷ []) behind
AreWhole-more [] p behind whole piece stops = (piece, stops, tt)
AreWhole-more (q ∷ qs) p behind whole piece stops =
    let same : bytes_of (qs ++ p ∷ []) behind ≡ bytes_of qs (p.1 ++ behind) = bytes_of-more qs p behind in
    let stop : may_stop q.0 q.1 (bytes_of (qs ++ p ∷ []) behind) ≡ true = ap (λ (l : List ℕ). may_stop q.0 q.1 l) same ∙ whole.1 in
    (whole.0, stop, AreWhole-more qs p behind whole.2 piece stops)

tokens_from-more : (place : ℕ) (ps : List (Piece × List ℕ)) (p : Piece × List ℕ) → tokens_from place (ps ++ p ∷ []) ≡ tokens_from place ps ++ piece_tokens p.0 p.1 (span (place + total ps) (place + total ps + length p.1))
unfolding total
tokens_from-more place [] p =
    let none : place + 0 ≡ place = add-zero place in
    append-nil (piece_tokens p.0 p.1 (span place (place + length p.1))) ∙ rw none refl
tokens_from-more place (q ∷ qs) p =
    let there : place + length q.1 + total qs ≡ place + (length q.1 + total qs) = omega arith in
    let rest = tokens_from-more (place + length q.1) qs p in
    let here : List Token = piece_tokens q.0 q.1 (span place (place + length q.1)) in
    ap (λ (ts : List Token). here ++ ts) rest ∙ sym (append_assoc here (tokens_from (place + length q.1) qs) (piece_tokens p.0 p.1 (span (place + length q.1 + total qs) (place + length q.1 + total qs + length p.1)))) ∙ ap (λ (n : ℕ). (here ++ tokens_from (place + length q.1) qs) ++ piece_tokens p.0 p.1 (span n (n + length p.1))) there

one_more : (text : List ℕ) (ts : List Token) (start : ℕ) (p : Piece) (bytes behind : List ℕ) → IsCutBefore text ts (bytes ++ behind) → is_piece p bytes ≡ true → may_stop p bytes behind ≡ true → start + length (bytes ++ behind) ≡ length text → IsCutBefore text (ts ++ piece_tokens p bytes (span start (start + length bytes))) behind
one_more text ts start p bytes behind c piece stops long =
    let all = ap length c.joined in
    let here : 0 + total c.pieces ≡ start = omega (arith, all, long, length-bytes_of c.pieces (bytes ++ behind)) in
    record {
      pieces = c.pieces ++ (p, bytes) ∷ [];
      joined = bytes_of-more c.pieces (p, bytes) behind ∙ c.joined;
      whole = AreWhole-more c.pieces (p, bytes) behind c.whole piece stops;
      tokens = tokens_from-more 0 c.pieces (p, bytes) ∙ ap (λ (n : ℕ). tokens_from 0 c.pieces ++ piece_tokens p bytes (span n (n + length bytes))) here ∙ ap (λ (l : List Token). l ++ piece_tokens p bytes (span start (start + length bytes))) c.tokens;
    }

-- ---- the loop over the pieces

put_tokens : (source : List ℕ) (items : List Lexeme) (piece : Piece) (text : List ℕ) (place : Span) → text ≡ text_at source place → tokens_of source items ++ piece_tokens piece text place ≡ tokens_of source (items ++ piece_lexemes piece place)
put_tokens source items White text place e = append-nil (tokens_of source items) ∙ ap (tokens_of source) (sym (append-nil items))
put_tokens source items Comment text place e = append-nil (tokens_of source items) ∙ ap (tokens_of source) (sym (append-nil items))
put_tokens source items (Whole kind) text place e =
    let l : Lexeme = record { kind = kind; span = place } in
    ap (λ (t : List ℕ). tokens_of source items ++ token kind t place ∷ []) e ∙ sym (map-append (token_of source) items (l ∷ []))

pub before_step : (source : List ℕ) (items : List Lexeme) (start : ℕ) (rest : List ℕ) (piece : Piece) (more : ℕ) → rest ≡ drop start source → front rest ≡ Some (piece, more) → start + length rest ≡ length source → IsCutBefore source (tokens_of source items) rest → IsCutBefore source (tokens_of source (items ++ piece_lexemes piece (span start (start + (more + 1))))) (drop (more + 1) rest)
before_step source items start [] piece more at e long c = absurd cc
before_step source items start (b ∷ bs) piece more at e long c =
    let found = front_is b bs (piece, more) e in
    let all : b ∷ take more bs ++ drop more bs ≡ b ∷ bs = ap (λ (l : List ℕ). b ∷ l) (take-append-drop more bs) in
    let whole : start + length (b ∷ take more bs ++ drop more bs) ≡ length source = ap (λ (l : List ℕ). start + length l) all ∙ long in
    let before : IsCutBefore source (tokens_of source items) (b ∷ take more bs ++ drop more bs) = subst (λ (l : List ℕ). IsCutBefore source (tokens_of source items) l) (sym all) c in
    let put = one_more source (tokens_of source items) start piece (b ∷ take more bs) (drop more bs) before found.piece found.stops whole in
    let same : length (take more bs) ≡ more = front_long b bs piece more e in
    let one : more + 1 ≡ suc more = add-one more in
    let text : take (more + 1) (b ∷ bs) ≡ text_at source (span start (start + (more + 1))) = text_of source (b ∷ bs) start (more + 1) at in
    let bytes : b ∷ take more bs ≡ text_at source (span start (start + suc more)) = rw one at text in
    let tokens = put_tokens source items piece (b ∷ take more bs) (span start (start + suc more)) bytes in
    let next : IsCutBefore source (tokens_of source items ++ piece_tokens piece (b ∷ take more bs) (span start (start + suc more))) (drop more bs) = rw same at put in
    rw one (subst (λ (ts : List Token). IsCutBefore source ts (drop more bs)) tokens next)

pub none_begins : (text : List ℕ) → front text ≡ None → BeginsNone text
none_begins text e p [] behind joined piece stops = let none = some_byte p in absurd cc
none_begins text e p (b ∷ bs) behind joined piece stops =
    let found : front (b ∷ bs ++ behind) ≡ Some (p, length bs) = front_found p b bs behind piece stops in
    let some : front text ≡ Some (p, length bs) = ap front (sym joined) ∙ found in
    absurd cc

pub stops_at : (source : List ℕ) (ts : List Token) (start : ℕ) (rest : List ℕ) → rest ≡ drop start source → start < length source → front rest ≡ None → IsCutBefore source ts rest → StopsAt source ts start
stops_at source ts start rest at inside e c =
    record {
      before = subst (λ (l : List ℕ). IsCutBefore source ts l) at c;
      inside = inside;
      stuck = subst BeginsNone at (none_begins rest e);
    }
