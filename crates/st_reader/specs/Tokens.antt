-- The tokens of a text.
use Rattle.std.specs.Prelude.{◌≡◌, ℕ, ◌+◌, ◌*◌, ◌-◌, ◌&&◌, ◌||◌, List, [], ◌∷◌, ◌++◌, ◌<◌, length, drop, Bool, true, nat_le}
use Rattle.std.specs.List.{fold}
use Rattle.st_classes.specs.Selectors.{is_selector}
use Rattle.st_reader.specs.declared.trees.Span.{Span}
use Rattle.st_reader.specs.declared.trees.Name.{Name}
use Rattle.st_reader.specs.declared.tokens.Mark.{Mark as Sign}
use Rattle.st_reader.specs.declared.tokens.Kind.{Kind}
use Rattle.st_reader.specs.declared.tokens.Kind.TheVariants.{Identifier, Keyword, Assign, Binary, Number, Symbol, Mark}
use Rattle.st_reader.specs.declared.tokens.Piece.{Piece}
use Rattle.st_reader.specs.declared.tokens.Piece.TheVariants.{White, Comment, Token as Whole}
use Rattle.st_reader.specs.Pieces.{is_white, is_piece, may_stop}

-- a token with its place; the text of a keyword includes its colon; a number is the value of its digits, and its
-- minus is a separate token `-`; the place of a symbol includes its `#`, its text does not
pub data Token : Type 0 where
  identifier : Name → Token
  keyword : Name → Token
  assign : Span → Token
  binary : Name → Token
  number : ℕ → Span → Token
  symbol : Name → Token
  mark : Sign → Span → Token

-- the number that decimal digits stand for
abbrev pub digits_value : List ℕ → ℕ
digits_value digits = fold (λ n d. n * 10 + (d - 48)) 0 digits

-- a span from its ends
abbrev pub span : ℕ → ℕ → Span
span start end = record { start = start; end = end }

-- a name from its text and its span
abbrev pub name : List ℕ → Span → Name
name text place = record { text = text; span = place }

-- the token of a kind with a text
abbrev pub token : Kind → List ℕ → Span → Token
token Identifier text place = identifier (name text place)
token Keyword text place = keyword (name text place)
token Assign text place = assign place
token Binary text place = binary (name text place)
token Number text place = number (digits_value text) place
token Symbol text place = symbol (name (drop 1 text) place)
token (Mark m) text place = mark m place

-- the token of a piece: white space and comments have none
abbrev pub piece_tokens : Piece → List ℕ → Span → List Token
piece_tokens White text place = []
piece_tokens Comment text place = []
piece_tokens (Whole kind) text place = token kind text place ∷ []

-- the tokens of pieces with their bytes, the first of which is at the given place
abbrev pub tokens_from : ℕ → List (Piece × List ℕ) → List Token
tokens_from place [] = []
tokens_from place (p ∷ ps) =
    piece_tokens p.0 p.1 (span place (place + length p.1))
    ++ tokens_from (place + length p.1) ps

-- the bytes of pieces, followed by other bytes
abbrev pub bytes_of : List (Piece × List ℕ) → List ℕ → List ℕ
bytes_of [] behind = behind
bytes_of (p ∷ ps) behind = p.1 ++ bytes_of ps behind

-- each piece has the bytes of its kind, and may end before what follows it
abbrev pub AreWhole : List (Piece × List ℕ) → List ℕ → Type 0
AreWhole [] behind = Unit {0}
AreWhole (p ∷ ps) behind =
    (is_piece p.0 p.1 ≡ true)
    × (may_stop p.0 p.1 (bytes_of ps behind) ≡ true)
    × AreWhole ps behind

-- a text is a sequence of pieces with these tokens, followed by these bytes
pub record IsCutBefore (text : List ℕ) (ts : List Token) (behind : List ℕ) : Type 0 where
  pub pieces : List (Piece × List ℕ)
  pub joined : bytes_of pieces behind ≡ text
  pub whole : AreWhole pieces behind
  pub tokens : tokens_from 0 pieces ≡ ts

-- a text is a sequence of pieces with these tokens
abbrev pub IsCut : List ℕ → List Token → Type 0
IsCut text ts = IsCutBefore text ts []

-- no piece is at the front of a text and may end where it does
abbrev pub BeginsNone : List ℕ → Type 0
BeginsNone text =
    (p : Piece) (bytes behind : List ℕ)
    → bytes ++ behind ≡ text
    → is_piece p bytes ≡ true
    → may_stop p bytes behind ≡ true
    → ⊥

-- a text is a sequence of pieces with these tokens up to a place in it where no piece begins
pub record StopsAt (text : List ℕ) (ts : List Token) (place : ℕ) : Type 0 where
  pub before : IsCutBefore text ts (drop place text)
  pub inside : place < length text
  pub stuck : BeginsNone (drop place text)

-- no text is cut in two ways
abbrev pub CutsOneWay : Type 0
CutsOneWay = (text : List ℕ) (a b : List Token) → IsCut text a → IsCut text b → a ≡ b

-- an identifier has at most 64 bytes, a keyword at most 65 with its colon, and the text of a symbol is a selector
abbrev pub token_fits : Token → Bool
token_fits (identifier n) = nat_le (length n.text) 64
token_fits (keyword n) = nat_le (length n.text) 65
token_fits (symbol n) = is_selector n.text
token_fits _ = true

-- a byte that may be in a source: white space or a visible character
abbrev pub is_character : ℕ → Bool
is_character b = is_white b || (nat_le 33 b && nat_le b 126)
