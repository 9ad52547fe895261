-- The pieces of a text: white space, comments and tokens.
use Rattle.std.specs.Prelude.{ℕ, ◌==◌, ◌&&◌, ◌||◌, List, [], ◌∷◌, drop, Bool, true, false, not, if◌then◌else◌, codes}
use Rattle.std.specs.List.{list_all}
use Rattle.std.specs.Str.{bytes_eq}
use Rattle.st_classes.specs.Selectors.{is_letter, is_digit, is_letter_or_digit, is_binary_character, is_binary, parts}
use Rattle.st_reader.specs.declared.tokens.Mark.{Mark as Sign}
use Rattle.st_reader.specs.declared.tokens.Mark.TheVariants.{OpenParenthesis, CloseParenthesis, OpenBlock, CloseBlock, Caret, Period, Semicolon, Bar}
use Rattle.st_reader.specs.declared.tokens.Kind.TheVariants.{Identifier, Keyword, Assign, Binary, Number, Symbol, Mark}
use Rattle.st_reader.specs.declared.tokens.Piece.{Piece}
use Rattle.st_reader.specs.declared.tokens.Piece.TheVariants.{White, Comment, Token as Whole}

-- tab, line feed, form feed, carriage return and space
abbrev pub is_white : ℕ → Bool
is_white b = b == 9 || b == 10 || b == 12 || b == 13 || b == 32

-- any byte other than a double quote
abbrev pub is_no_quote : ℕ → Bool
is_no_quote b = not (b == 34)

-- bytes of a sort, and then the closing byte
abbrev pub are_closed_by : ℕ → (ℕ → Bool) → List ℕ → Bool
are_closed_by closing sort [] = false
are_closed_by closing sort (b ∷ []) = b == closing
are_closed_by closing sort (b ∷ bs) = sort b && are_closed_by closing sort bs

-- double quotes around bytes that are not double quotes
abbrev pub is_comment : List ℕ → Bool
is_comment [] = false
is_comment (b ∷ bs) = (b == 34) && are_closed_by 34 is_no_quote bs

-- a letter, and then letters and digits
abbrev pub is_word : List ℕ → Bool
is_word [] = false
is_word (b ∷ bs) = is_letter b && list_all is_letter_or_digit bs

-- a word and a colon
abbrev pub is_keyword : List ℕ → Bool
is_keyword [] = false
is_keyword (b ∷ bs) = is_letter b && are_closed_by 58 is_letter_or_digit bs

-- words, each with a colon after it; nothing follows the last colon
abbrev pub are_closed_words : List (List ℕ) → Bool
are_closed_words [] = false
are_closed_words (word ∷ [] ∷ []) = is_word word
are_closed_words (word ∷ words) = is_word word && are_closed_words words

-- keywords without space between them
abbrev pub are_keywords : List ℕ → Bool
are_keywords text = are_closed_words (parts text)

-- at least one digit
abbrev pub are_digits : List ℕ → Bool
are_digits [] = false
are_digits (b ∷ bs) = is_digit b && list_all is_digit bs

-- a `#`, and then a word, keywords or a binary selector
abbrev pub is_symbol : List ℕ → Bool
is_symbol [] = false
is_symbol (b ∷ bs) = (b == 35) && (is_word bs || are_keywords bs || is_binary bs)

-- the characters that are tokens by themselves
abbrev pub sign : Sign → List ℕ
sign OpenParenthesis = codes "("
sign CloseParenthesis = codes ")"
sign OpenBlock = codes "["
sign CloseBlock = codes "]"
sign Caret = codes "^"
sign Period = codes "."
sign Semicolon = codes ";"
sign Bar = codes "|"

-- one byte of white space
abbrev pub is_space : List ℕ → Bool
is_space (b ∷ []) = is_white b
is_space _ = false

-- the bytes of a piece of each kind
abbrev pub is_piece : Piece → List ℕ → Bool
is_piece White text = is_space text
is_piece Comment text = is_comment text
is_piece (Whole Identifier) text = is_word text
is_piece (Whole Keyword) text = is_keyword text
is_piece (Whole Assign) text = bytes_eq text (codes ":=")
is_piece (Whole Binary) text = is_binary text
is_piece (Whole Number) text = are_digits text
is_piece (Whole Symbol) text = is_symbol text
is_piece (Whole (Mark m)) text = bytes_eq text (sign m)

-- the first byte is of a sort
abbrev pub begins : (ℕ → Bool) → List ℕ → Bool
begins sort [] = false
begins sort (b ∷ bs) = sort b

-- the first byte is `=`
abbrev pub begins_equals : List ℕ → Bool
begins_equals behind = begins (λ b. b == 61) behind

-- a colon that is not part of a `:=` comes first
abbrev pub begins_colon : List ℕ → Bool
begins_colon [] = false
begins_colon (b ∷ bs) = (b == 58) && not (begins_equals bs)

-- a period and a digit come first
abbrev pub begins_fraction : List ℕ → Bool
begins_fraction [] = false
begins_fraction (b ∷ bs) = (b == 46) && begins is_digit bs

-- a word ends before these bytes: they do not make it longer, and do not make it a keyword
abbrev pub word_stops : List ℕ → Bool
word_stops behind = not (begins is_letter_or_digit behind) && not (begins_colon behind)

-- a keyword ends before these bytes: its colon is not part of a `:=`
abbrev pub keyword_stops : List ℕ → Bool
keyword_stops behind = not (begins_equals behind)

-- a binary selector ends before these bytes: if it has one character, they do not begin with a second one for it
abbrev pub binary_stops : List ℕ → List ℕ → Bool
binary_stops (a ∷ []) behind = not (begins (λ b. is_binary_character b && not (b == 45)) behind)
binary_stops _ behind = true

-- a number ends before these bytes: they do not make it longer, and do not begin with a letter, or a period and a
-- digit
abbrev pub number_stops : List ℕ → Bool
number_stops behind = not (begins is_letter_or_digit behind) && not (begins_fraction behind)

-- a symbol ends where its word, binary selector or last keyword does, and keywords do not end before a letter
abbrev pub symbol_stops : List ℕ → List ℕ → Bool
symbol_stops text behind =
    if is_word text then word_stops behind
    else if is_binary text then binary_stops text behind
    else keyword_stops behind && not (begins is_letter behind)

-- a piece may end before these bytes: they begin with nothing that belongs to it or forbids it
abbrev pub may_stop : Piece → List ℕ → List ℕ → Bool
may_stop White text behind = true
may_stop Comment text behind = true
may_stop (Whole Identifier) text behind = word_stops behind
may_stop (Whole Keyword) text behind = keyword_stops behind
may_stop (Whole Assign) text behind = true
may_stop (Whole Binary) text behind = binary_stops text behind
may_stop (Whole Number) text behind = number_stops behind
may_stop (Whole Symbol) text behind = symbol_stops (drop 1 text) behind
may_stop (Whole (Mark m)) text behind = true
