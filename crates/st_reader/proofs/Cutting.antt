-- A text is cut piece by piece.
use Rattle.std.proofs.Common.{◌≡◌, ℕ, zero, suc, ◌+◌, ◌-◌, ◌<◌, List, [], ◌∷◌, ◌++◌, length, take, drop, map, Option, Some, None, refl, sym, ap, ◌∙◌, arith, add-zero, add-one, append_assoc}
use Rattle.std.specs.Prelude.{option_map, option_and_then}
use Rattle.std.proofs.lemmas.List.{append-nil, map-append}
use Rattle.st_reader.specs.declared.trees.Span.{Span}
use Rattle.st_reader.specs.declared.tokens.Piece.{Piece}
use Rattle.st_reader.specs.declared.tokens.Piece.TheVariants.{White, Comment, Token as Whole}
use Rattle.st_reader.specs.declared.tokens.Lexeme.{Lexeme}
use Rattle.st_reader.specs.Tokens.{Token, token, span, piece_tokens}
use Rattle.st_reader.specs.Lexer.{front, tokens_behind, tokens}
use Rattle.st_reader.specs.Lexemes.{token_of, text_at, piece_lexemes}

-- the bytes of the piece before are skipped
pub tokens_behind-skip : (more place : ℕ) (text : List ℕ) → tokens_behind more place text ≡ tokens_behind 0 (place + more) (drop more text)
unfolding tokens_behind
tokens_behind-skip zero place [] = refl
tokens_behind-skip (suc more) place [] = refl
tokens_behind-skip zero place (b ∷ bs) = ap (λ n. tokens_behind 0 n (b ∷ bs)) (sym (add-zero place))
tokens_behind-skip (suc more) place (b ∷ bs) =
    let same : place + 1 + more ≡ place + suc more = omega arith in
    tokens_behind-skip more (place + 1) bs ∙ ap (λ n. tokens_behind 0 n (drop more bs)) same

skipped : (place more b : ℕ) (bs : List ℕ) → tokens_behind more (place + 1) bs ≡ tokens_behind 0 (place + (more + 1)) (drop (more + 1) (b ∷ bs))
skipped place more b bs =
    let there : place + 1 + more ≡ place + (more + 1) = omega arith in
    let rest : drop more bs ≡ drop (more + 1) (b ∷ bs) = ap (λ (n : ℕ). drop n (b ∷ bs)) (sym (add-one more)) in
    tokens_behind-skip more (place + 1) bs ∙ ap (λ (n : ℕ). tokens_behind 0 n (drop more bs)) there ∙ ap (λ (l : List ℕ). tokens_behind 0 (place + (more + 1)) l) rest

-- a piece's tokens in front of others
abbrev pub with_piece : Piece → List ℕ → Span → List Token → List Token
with_piece piece text place ts = piece_tokens piece text place ++ ts

-- the tokens of a text that begins with a piece
abbrev pub after_piece : ℕ → List ℕ → Piece → ℕ → Option (List Token)
after_piece place text piece long = option_map (with_piece piece (take long text) (span place (place + long))) (tokens_behind 0 (place + long) (drop long text))

pub tokens_behind-piece : (place : ℕ) (text : List ℕ) (piece : Piece) (more : ℕ) → front text ≡ Some (piece, more) → tokens_behind 0 place text ≡ after_piece place text piece (more + 1)
unfolding tokens_behind
tokens_behind-piece place [] piece more e = absurd cc
tokens_behind-piece place (b ∷ bs) piece more e =
    let both : (Piece × ℕ) → Option (List Token) = λ p. option_map (with_piece p.0 (take (p.1 + 1) (b ∷ bs)) (span place (place + (p.1 + 1)))) (tokens_behind p.1 (place + 1) bs) in
    ap (option_and_then both) e ∙ ap (option_map (with_piece piece (take (more + 1) (b ∷ bs)) (span place (place + (more + 1))))) (skipped place more b bs)

pub tokens_behind-none : (place : ℕ) (text : List ℕ) → 0 < length text → front text ≡ None → tokens_behind 0 place text ≡ None
unfolding tokens_behind
tokens_behind-none place [] lt e = absurd (omega arith)
tokens_behind-none place (b ∷ bs) lt e = ap (option_and_then (λ (p : Piece × ℕ). option_map (with_piece p.0 (take (p.1 + 1) (b ∷ bs)) (span place (place + (p.1 + 1)))) (tokens_behind p.1 (place + 1) bs))) e

-- ---- the loop over the pieces

abbrev pub behind : List ℕ → List Lexeme → List Token → List Token
behind source items ts = map (token_of source) items ++ ts

map_map : {A B C : Type 0} (f : B → C) (g : A → B) (h : A → C) (o : Option A) → ((x : A) → f (g x) ≡ h x) → option_map f (option_map g o) ≡ option_map h o
map_map f g h None same = refl
map_map {C = C} f g h (Some x) same = ap some (same x)
  where
    some : C → Option C
    some y = Some y

put_piece : (source : List ℕ) (items : List Lexeme) (piece : Piece) (text : List ℕ) (place : Span) → text ≡ text_at source place → (ts : List Token) → behind source items (with_piece piece text place ts) ≡ behind source (items ++ piece_lexemes piece place) ts
put_piece source items White text place e ts = ap (λ (l : List Lexeme). behind source l ts) (sym (append-nil items))
put_piece source items Comment text place e ts = ap (λ (l : List Lexeme). behind source l ts) (sym (append-nil items))
put_piece source items (Whole kind) text place e ts =
    let l : Lexeme = record { kind = kind; span = place } in
    ap (λ (t : List ℕ). map (token_of source) items ++ token kind t place ∷ ts) e ∙ sym (append_assoc (map (token_of source) items) (token_of source l ∷ []) ts) ∙ ap (λ (ts2 : List Token). ts2 ++ ts) (sym (map-append (token_of source) items (l ∷ [])))

pub text_of : (source rest : List ℕ) (start long : ℕ) → rest ≡ drop start source → take long rest ≡ text_at source (span start (start + long))
text_of source rest start long e =
    let same : long ≡ start + long - start = omega arith in
    ap (take long) e ∙ ap (λ (n : ℕ). take n (drop start source)) same

pub cut_step : (source : List ℕ) (items : List Lexeme) (start : ℕ) (rest : List ℕ) (piece : Piece) (more : ℕ) → rest ≡ drop start source → front rest ≡ Some (piece, more) → tokens source ≡ option_map (behind source items) (tokens_behind 0 start rest) → tokens source ≡ option_map (behind source (items ++ piece_lexemes piece (span start (start + (more + 1))))) (tokens_behind 0 (start + (more + 1)) (drop (more + 1) rest))
cut_step source items start rest piece more at e inv =
    let place : Span = span start (start + (more + 1)) in
    inv ∙ ap (option_map (behind source items)) (tokens_behind-piece start rest piece more e) ∙ map_map (behind source items) (with_piece piece (take (more + 1) rest) place) (behind source (items ++ piece_lexemes piece place)) (tokens_behind 0 (start + (more + 1)) (drop (more + 1) rest)) (put_piece source items piece (take (more + 1) rest) place (text_of source rest start (more + 1) at))

pub cut_none : (source : List ℕ) (items : List Lexeme) (start : ℕ) (rest : List ℕ) → 0 < length rest → front rest ≡ None → tokens source ≡ option_map (behind source items) (tokens_behind 0 start rest) → tokens source ≡ None
cut_none source items start rest some e inv = inv ∙ ap (option_map (behind source items)) (tokens_behind-none start rest some e)

pub cut_end : (source : List ℕ) (items : List Lexeme) (start : ℕ) (rest : List ℕ) → length rest ≡ 0 → tokens source ≡ option_map (behind source items) (tokens_behind 0 start rest) → tokens source ≡ Some (map (token_of source) items)
unfolding tokens_behind
cut_end source items start [] e inv = inv ∙ ap some (append-nil (map (token_of source) items))
  where
    some : List Token → Option (List Token)
    some ts = Some ts
cut_end source items start (b ∷ bs) e inv = absurd (omega arith)
