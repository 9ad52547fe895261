-- Cutting a text into tokens, as a function that reads it from the front.
-- It gives tokens exactly if they are a cut of the text.
use Rattle.std.specs.Prelude.{ℕ, zero, suc, ◌+◌, ◌==◌, ◌&&◌, ◌||◌, List, [], ◌∷◌, ◌++◌, length, take, drop, Bool, true, false, not, Option, Some, None, option_map, option_and_then, nat_lt, if◌then◌else◌}
use Rattle.std.specs.List.{prefix_len}
use Rattle.st_classes.specs.Selectors.{is_letter, is_digit, is_letter_or_digit, is_binary_character}
use Rattle.st_reader.specs.declared.tokens.Mark.{Mark as Sign}
use Rattle.st_reader.specs.declared.tokens.Mark.TheVariants.{OpenParenthesis, CloseParenthesis, OpenBlock, CloseBlock, Caret, Period, Semicolon, Bar}
use Rattle.st_reader.specs.declared.tokens.Kind.{Kind}
use Rattle.st_reader.specs.declared.tokens.Kind.TheVariants.{Identifier, Keyword, Assign, Binary, Number, Symbol, Mark}
use Rattle.st_reader.specs.declared.tokens.Piece.{Piece}
use Rattle.st_reader.specs.declared.tokens.Piece.TheVariants.{White, Comment, Token as Whole}
use Rattle.st_reader.specs.Pieces.{is_white, is_no_quote, begins, begins_equals, begins_colon, begins_fraction}
use Rattle.st_reader.specs.Tokens.{Token, span, piece_tokens}

-- a comment ends at the next quote
abbrev pub comment : List ℕ → Option (Piece × ℕ)
comment bs =
    if nat_lt (prefix_len is_no_quote bs) (length bs)
    then Some (Comment, prefix_len is_no_quote bs + 1)
    else None

-- the number of bytes of a keyword after its first letter; none if the word has no colon, or only that of a `:=`
abbrev pub keyword_more : List ℕ → Option ℕ
keyword_more bs =
    if begins_colon (drop (prefix_len is_letter_or_digit bs) bs)
    then Some (prefix_len is_letter_or_digit bs + 1)
    else None

-- a keyword, or else a word
abbrev pub word_or : ℕ → Option ℕ → Kind × ℕ
word_or length (Some more) = (Keyword, more)
word_or length None = (Identifier, length)

-- the longest prefix of letters and digits, and a colon if that makes it a keyword
abbrev pub word_front : List ℕ → Kind × ℕ
word_front bs = word_or (prefix_len is_letter_or_digit bs) (keyword_more bs)

-- a number is not a token before a letter, or before a period and a digit
abbrev pub number_behind : ℕ → List ℕ → Option (Piece × ℕ)
number_behind more after = if begins is_letter after || begins_fraction after then None else Some (Whole Number, more)

-- the longest prefix of digits
abbrev pub number_front : List ℕ → Option (Piece × ℕ)
number_front bs = number_behind (prefix_len is_digit bs) (drop (prefix_len is_digit bs) bs)

-- a binary selector has a second character if one follows that is not a minus
abbrev pub binary_more : List ℕ → ℕ
binary_more bs = if begins (λ b. is_binary_character b && not (b == 45)) bs then 1 else 0

-- the number of bytes of the keywords in front, from the start or the inside of a word; none if a word without a
-- colon ends them
unfoldable pub keywords_length : Bool → List ℕ → Option ℕ
keywords_length false [] = Some 0
keywords_length true [] = None
keywords_length false (b ∷ bs) = if is_letter b then option_map suc (keywords_length true bs) else Some 0
keywords_length true (b ∷ bs) =
    if is_letter_or_digit b then option_map suc (keywords_length true bs)
    else if begins_colon (b ∷ bs) then option_map suc (keywords_length false bs)
    else None

-- a symbol that starts with a word
abbrev pub word_symbol : Option ℕ → List ℕ → Option ℕ
word_symbol (Some more) bs = keywords_length false bs
word_symbol None bs = Some (prefix_len is_letter_or_digit bs)

-- the number of bytes of a symbol after its `#`
abbrev pub symbol_length : List ℕ → Option ℕ
symbol_length [] = None
symbol_length (b ∷ bs) =
    if is_letter b then word_symbol (keyword_more bs) (b ∷ bs)
    else if is_binary_character b then Some (binary_more bs + 1)
    else None

-- the mark of a byte
abbrev pub mark_of : ℕ → Option Sign
mark_of b =
    if b == 40 then Some OpenParenthesis
    else if b == 41 then Some CloseParenthesis
    else if b == 91 then Some OpenBlock
    else if b == 93 then Some CloseBlock
    else if b == 94 then Some Caret
    else if b == 46 then Some Period
    else if b == 59 then Some Semicolon
    else if b == 124 then Some Bar
    else None

-- a `:=` or a mark
abbrev pub mark_front : ℕ → List ℕ → Option (Piece × ℕ)
mark_front b bs =
    if (b == 58) && begins_equals bs then Some (Whole Assign, 1)
    else option_map (λ m. (Whole (Mark m), 0)) (mark_of b)

-- the longest piece at the front of a text, and the number of its bytes after the first; none if no piece can begin
-- there
abbrev pub front : List ℕ → Option (Piece × ℕ)
front [] = None
front (b ∷ bs) =
    if is_white b then Some (White, 0)
    else if b == 34 then comment bs
    else if is_letter b then Some (Whole (word_front bs).0, (word_front bs).1)
    else if is_digit b then number_front bs
    else if is_binary_character b then Some (Whole Binary, binary_more bs)
    else if b == 35 then option_map (λ n. (Whole Symbol, n)) (symbol_length bs)
    else mark_front b bs

-- the tokens of the rest of a text that begins at a place, after `more` bytes of the piece before
unfoldable pub tokens_behind : ℕ → ℕ → List ℕ → Option (List Token)
tokens_behind more place [] = Some []
tokens_behind (suc more) place (b ∷ bs) = tokens_behind more (place + 1) bs
tokens_behind zero place (b ∷ bs) =
    option_and_then
    (λ p. option_map
    (λ ts. piece_tokens p.0 (take (p.1 + 1) (b ∷ bs)) (span place (place + (p.1 + 1))) ++ ts)
    (tokens_behind p.1 (place + 1) bs))
    (front (b ∷ bs))

-- the tokens of a text; none if no piece begins at some place
abbrev pub tokens : List ℕ → Option (List Token)
tokens text = tokens_behind 0 0 text
