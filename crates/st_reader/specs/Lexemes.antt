-- The tokens of the code: places in a text.
use Rattle.std.specs.Prelude.{◌≡◌, ◌≢◌, ℕ, List, [], ◌∷◌, Bool, drop, map, slice_range, MatchOption}
use Rattle.std.specs.Borrow.{Bor}
use Rattle.st_reader.specs.declared.trees.Name.{Name}
use Rattle.st_reader.specs.declared.tokens.Kind.TheVariants.{Identifier, Assign}
use Rattle.st_reader.specs.declared.trees.Span.{Span}
use Rattle.st_reader.specs.declared.tokens.Kind.{Kind}
use Rattle.st_reader.specs.declared.tokens.Piece.{Piece}
use Rattle.st_reader.specs.declared.tokens.Piece.TheVariants.{White, Comment, Token as Whole}
use Rattle.st_reader.specs.declared.tokens.Lexeme.{Lexeme}
use Rattle.st_reader.specs.declared.tokens.Tokens.{Tokens}
use Rattle.st_reader.specs.Tokens.{Token, IsCut, token, token_fits}

-- the bytes of a text in a span
abbrev pub text_at : List ℕ → Span → List ℕ
text_at text place = slice_range text place.start place.end

-- the token of a kind in a span of a text
abbrev pub token_at : List ℕ → Kind → Span → Token
token_at text kind place = token kind (text_at text place) place

-- the token of a lexeme in a text
abbrev pub token_of : List ℕ → Lexeme → Token
token_of text l = token_at text l.kind l.span

-- the tokens of lexemes
abbrev pub tokens_of : List ℕ → List Lexeme → List Token
tokens_of text ls = map (token_of text) ls

-- the lexeme of a piece in a span, if it has one
abbrev pub piece_lexemes : Piece → Span → List Lexeme
piece_lexemes White place = []
piece_lexemes Comment place = []
piece_lexemes (Whole kind) place = record { kind = kind; span = place } ∷ []

-- a text is cut into these tokens if nothing stops the cut; if something does, the text has no cut
abbrev pub Cuts : List ℕ → Tokens → Type 0
Cuts text c =
    MatchOption c.stop
    (IsCut text (tokens_of text c.lexemes.items))
    (λ at. (ts : List Token) → IsCut text ts → ⊥)

-- whether the token of a lexeme is within its limits
unfoldable pub lexeme_fits : List ℕ → Lexeme → Bool
lexeme_fits text l = token_fits (token_of text l)

-- the name in a span of a text
abbrev pub name_at : List ℕ → Span → Name
name_at text place = record { text = text_at text place; span = place }

-- the name of a symbol, without its `#`
abbrev pub symbol_at : List ℕ → Span → Name
symbol_at text place = record { text = drop 1 (text_at text place); span = place }

-- what a function read, and the tokens that it left
abbrev pub seen : {X Y : Type 0} → (X → Y) → List ℕ → X × Bor (List Lexeme) → Y × List Token
seen view text x = (view x.0, tokens_of text x.1.now)

-- no lexeme of this kind is at the front
abbrev pub Lacks : Kind → List Lexeme → Type 0
Lacks kind [] = Unit {0}
Lacks kind (l ∷ ls) = l.kind ≢ kind

-- no target of an assignment is at the front
abbrev pub LacksTarget : List Lexeme → Type 0
LacksTarget [] = Unit {0}
LacksTarget (l ∷ []) = Unit {0}
LacksTarget (l ∷ a ∷ ls) = (l.kind ≡ Identifier) → (a.kind ≡ Assign) → ⊥

-- the target of an assignment is at the front: a variable and `:=`, and then the rest
abbrev pub IsTarget : List Lexeme → Lexeme → Span → List Lexeme → Type 0
IsTarget ls l place behind =
    (a : Lexeme)
    × (ls ≡ l ∷ a ∷ behind)
    × (l.kind ≡ Identifier)
    × (a.kind ≡ Assign)
    × (a.span ≡ place)
