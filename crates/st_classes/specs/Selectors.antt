-- What a name is, and how many arguments a selector takes.
use Rattle.std.specs.Prelude.{ℕ, ◌+◌, ◌==◌, ◌&&◌, ◌||◌, List, [], ◌∷◌, length, Bool, false, not, Option, Some, None, is_some, nat_le, if◌then◌else◌, codes, position, option_map}
use Rattle.std.specs.List.{list_any, list_all}
use Rattle.std.specs.Str.{bytes_eq}

-- A to Z
abbrev pub is_upper : ℕ → Bool
is_upper b = nat_le 65 b && nat_le b 90

-- a to z
abbrev pub is_lower : ℕ → Bool
is_lower b = nat_le 97 b && nat_le b 122

-- 0 to 9
abbrev pub is_digit : ℕ → Bool
is_digit b = nat_le 48 b && nat_le b 57

-- an ASCII letter
abbrev pub is_letter : ℕ → Bool
is_letter b = is_upper b || is_lower b

-- a byte after the first letter of an identifier
abbrev pub is_letter_or_digit : ℕ → Bool
is_letter_or_digit b = is_letter b || is_digit b

-- a letter and then letters and digits, at most 64 bytes in all
abbrev pub is_identifier : List ℕ → Bool
is_identifier [] = false
is_identifier (b ∷ bs) = is_letter b && list_all is_letter_or_digit bs && nat_le (length bs) 63

-- the first byte is a capital
abbrev pub begins_upper : List ℕ → Bool
begins_upper [] = false
begins_upper (b ∷ bs) = is_upper b

-- an identifier that starts with a capital
abbrev pub is_class_name : List ℕ → Bool
is_class_name text = is_identifier text && begins_upper text

-- the names that are reserved, because they mean something else in every method
abbrev pub reserved_names : List (List ℕ)
reserved_names = codes "self" ∷ codes "super" ∷ codes "nil" ∷ codes "true" ∷ codes "false" ∷ codes "thisActor" ∷ []

-- one of the reserved names
abbrev pub is_reserved : List ℕ → Bool
is_reserved text = list_any (bytes_eq text) reserved_names

-- the name of an instance variable
abbrev pub is_slot_name : List ℕ → Bool
is_slot_name text = is_identifier text && not (begins_upper text) && not (is_reserved text)

-- the characters of binary selectors
abbrev pub binary_characters : List ℕ
binary_characters = codes "+-*/\\<>=~&,"

-- one of those characters
abbrev pub is_binary_character : ℕ → Bool
is_binary_character b = list_any (λ c. c == b) binary_characters

-- one such character, or two if the second is not a minus
abbrev pub is_binary : List ℕ → Bool
is_binary (a ∷ []) = is_binary_character a
is_binary (a ∷ b ∷ []) = is_binary_character a && is_binary_character b && not (b == 45)
is_binary _ = false

-- a byte prepended to the first part
abbrev pub before_first_part : ℕ → List (List ℕ) → List (List ℕ)
before_first_part b [] = (b ∷ []) ∷ []
before_first_part b (part ∷ parts) = (b ∷ part) ∷ parts

-- the parts of a text, split at its colons
abbrev pub parts : List ℕ → List (List ℕ)
parts [] = [] ∷ []
parts (b ∷ bs) = if b == 58 then [] ∷ parts bs else before_first_part b (parts bs)

-- the number of keywords in the parts of a text: each but the last is an identifier, and the last is empty
abbrev pub keywords : List (List ℕ) → Option ℕ
keywords [] = None
keywords (part ∷ []) = if length part == 0 then Some 0 else None
keywords (part ∷ next ∷ rest) = if is_identifier part then option_map (λ n. n + 1) (keywords (next ∷ rest)) else None

-- the number of keywords, if it is from 1 to 8
abbrev pub keyword_arity : Option ℕ → Option ℕ
keyword_arity None = None
keyword_arity (Some n) = if nat_le 1 n && nat_le n 8 then Some n else None

-- the number of arguments of a selector; none if the text is not a selector
abbrev pub arity_of : List ℕ → Option ℕ
arity_of text =
    if is_identifier text then Some 0
    else (if is_binary text then Some 1 else keyword_arity (keywords (parts text)))

-- an identifier, a binary selector, or 1 to 8 keywords
abbrev pub is_selector : List ℕ → Bool
is_selector text = is_some (arity_of text)

-- the index of a text in a list of names
abbrev pub place_of : List (List ℕ) → List ℕ → Option ℕ
place_of names text = position (bytes_eq text) names
