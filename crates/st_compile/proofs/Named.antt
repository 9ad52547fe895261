-- The names of a method that a text spells are selectors of their kinds.
use Rattle.std.proofs.Common.{◌≡◌, ℕ, suc, ◌+◌, ◌≤◌, Bool, true, false, eqb, leb, ◌&&◌, List, [], ◌∷◌, ◌++◌, length, map, Option, Some, refl, sym, ap, ◌∙◌, subst, append_assoc, arith}
use Rattle.std.specs.Option.{option_map}
use Rattle.std.specs.List.{list_all, flat_map, AllByRecursion}
use Rattle.std.proofs.lemmas.List.Folds.{list_all-append}
use Rattle.std.proofs.lemmas.Bool.{and_parts, and_from, leb-true, le-leb, or_left, false≢true}
use Rattle.st_classes.specs.Selectors.{is_letter, is_digit, is_letter_or_digit, is_identifier, is_binary, is_binary_character, is_selector, arity_of, before_first_part, keyword_arity, keywords, parts}
use Rattle.st_classes.specs.MethodSuits.{is_number}
use Rattle.st_classes.proofs.Keywords.{keywords-cons}
use Rattle.st_reader.specs.declared.trees.Span.{Span}
use Rattle.st_reader.specs.declared.trees.Parameter.{Parameter}
use Rattle.st_reader.specs.declared.trees.Pattern.{Pattern}
use Rattle.st_reader.specs.declared.trees.Pattern.TheVariants.{Unary, Binary as TwoPart, Keyword as Several}
use Rattle.st_reader.specs.declared.tokens.Kind.TheVariants.{Identifier, Keyword, Assign, Binary, Number, Symbol, Mark}
use Rattle.st_reader.specs.declared.tokens.Piece.{Piece}
use Rattle.st_reader.specs.declared.tokens.Piece.TheVariants.{White, Comment, Token as Whole}
use Rattle.st_reader.specs.Grammar.{IsPattern, count, pattern_toks, parameter_toks, parts_toks, toks}
use Rattle.st_reader.specs.Pieces.{is_piece, is_word, is_keyword}
use Rattle.st_reader.specs.Inlining.{keyword_names}
use Rattle.st_reader.specs.Syntax.{Parts, part, no_parts}
use Rattle.st_reader.specs.Tokens.{Token, AreWhole, IsCut, piece_tokens, span, token_fits, tokens_from}
use Rattle.st_reader.proofs.Lists.{closed_parts}
use Rattle.st_reader.proofs.Sorts.{binary_other}
use Rattle.st_compile.specs.Equations.{joined}
use Rattle.st_reader.specs.Variables.{arguments_of}
use Rattle.st_compile.specs.Scopes.{pattern_selector}

-- an identifier with its colon
pub record IsKeyword (text : List ℕ) : Type 0 where
  pub word : List ℕ
  pub identifier : is_identifier word ≡ true
  pub is : text ≡ word ++ 58 ∷ []

-- a token's text is what its kind says, within its limits
abbrev pub IsNamed : Token → Type 0
IsNamed (Token.identifier n) = is_identifier n.text ≡ true
IsNamed (Token.keyword n) = IsKeyword n.text
IsNamed (Token.assign place) = Unit {0}
IsNamed (Token.binary n) = is_binary n.text ≡ true
IsNamed (Token.number n place) = Unit {0}
IsNamed (Token.symbol n) = is_selector n.text ≡ true
IsNamed (Token.mark m place) = Unit {0}

abbrev pub AreNamed : List Token → Type 0
AreNamed ts = AllByRecursion IsNamed ts

pub named_front : (xs ys : List Token) → AreNamed (xs ++ ys) → AreNamed xs
named_front [] ys h = tt
named_front (x ∷ xs) ys h = (h.0, named_front xs ys h.1)

pub named_back : (xs ys : List Token) → AreNamed (xs ++ ys) → AreNamed ys
named_back [] ys h = h
named_back (x ∷ xs) ys h = named_back xs ys h.1

named_join : (xs ys : List Token) → AreNamed xs → AreNamed ys → AreNamed (xs ++ ys)
named_join [] ys h k = k
named_join (x ∷ xs) ys h k = (h.0, named_join xs ys h.1 k)

-- ---- tokens

short_word : (text : List ℕ) → is_word text ≡ true → length text ≤ 64 → is_identifier text ≡ true
short_word [] w short = absurd (false≢true w)
short_word (b ∷ bs) w short = and_from (is_letter b && list_all is_letter_or_digit bs) (leb (length bs) 63) w (le-leb (length bs) 63 (omega arith))

word_parts : (b : ℕ) (inside : List ℕ) → is_letter b ≡ true → list_all is_letter_or_digit inside ≡ true → length (b ∷ inside) ≤ 64 → is_identifier (b ∷ inside) ≡ true
word_parts b inside l all short = short_word (b ∷ inside) (and_from (is_letter b) (list_all is_letter_or_digit inside) l all) short

length_end : (xs : List ℕ) (c : ℕ) → length (xs ++ c ∷ []) ≡ suc (length xs)
length_end [] c = refl
length_end (x ∷ xs) c = ap suc (length_end xs c)

short_keyword : (text : List ℕ) → is_keyword text ≡ true → length text ≤ 65 → IsKeyword text
short_keyword [] k short = absurd (false≢true k)
short_keyword (b ∷ bs) k short =
    let p = and_parts (is_letter b) _ k in
    let c = closed_parts 58 is_letter_or_digit bs p.1 in
    let n : length (b ∷ c.inside) ≤ 64 = omega (arith, ap length c.is, length_end c.inside 58, short) in
    record { word = b ∷ c.inside; identifier = word_parts b c.inside p.0 c.all n; is = ap (λ (xs : List ℕ). b ∷ xs) c.is }

piece_named : (p : Piece) (text : List ℕ) (place : Span) → is_piece p text ≡ true → list_all token_fits (piece_tokens p text place) ≡ true → AreNamed (piece_tokens p text place)
piece_named White text place is fits = tt
piece_named Comment text place is fits = tt
piece_named (Whole Identifier) text place is fits = (short_word text is (leb-true (length text) 64 (and_parts (leb (length text) 64) true fits).0), tt)
piece_named (Whole Keyword) text place is fits = (short_keyword text is (leb-true (length text) 65 (and_parts (leb (length text) 65) true fits).0), tt)
piece_named (Whole Assign) text place is fits = (tt, tt)
piece_named (Whole Binary) text place is fits = (is, tt)
piece_named (Whole Number) text place is fits = (tt, tt)
piece_named (Whole Symbol) text place is fits = ((and_parts _ true fits).0, tt)
piece_named (Whole (Mark m)) text place is fits = (tt, tt)

tokens_named : (ps : List (Piece × List ℕ)) (place : ℕ) (behind : List ℕ) → AreWhole ps behind → list_all token_fits (tokens_from place ps) ≡ true → AreNamed (tokens_from place ps)
tokens_named [] place behind whole fits = tt
tokens_named (p ∷ ps) place behind whole fits =
    let here = piece_tokens p.0 p.1 (span place (place + length p.1)) in
    let there = tokens_from (place + length p.1) ps in
    let both = and_parts (list_all token_fits here) (list_all token_fits there) (sym (list_all-append token_fits here there) ∙ fits) in
    named_join here there (piece_named p.0 p.1 (span place (place + length p.1)) whole.0 both.0) (tokens_named ps (place + length p.1) behind whole.2 both.1)

-- the tokens of a text that are within their limits
pub cut_named : (text : List ℕ) (ts : List Token) → IsCut text ts → list_all token_fits ts ≡ true → AreNamed ts
cut_named text ts c fits =
    let f : list_all token_fits (tokens_from 0 c.pieces) ≡ true = ap (list_all token_fits) c.tokens ∙ fits in
    subst AreNamed c.tokens (tokens_named c.pieces 0 [] c.whole f)

-- ---- selectors

same_number : (n : ℕ) → eqb n n ≡ true
same_number n = grind arith

pub unary_number : (text : List ℕ) → is_identifier text ≡ true → is_number (arity_of text) 0 ≡ true
unary_number text e = rw e refl

and_false : (a b : Bool) → a ≡ false → (a && b) ≡ false
and_false true b e = absurd (false≢true (sym e))
and_false false b e = refl

and_no : (a b : Bool) → b ≡ false → (a && b) ≡ false
and_no true b e = e
and_no false b e = refl

no_character : (b : ℕ) → is_letter b ≡ true → is_binary_character b ≡ false
no_character b l = by (is_binary_character b) refl
  where
    by : (v : Bool) → is_binary_character b ≡ v → is_binary_character b ≡ false
    by true e = absurd (false≢true (sym (binary_other b e).letter ∙ l))
    by false e = e

no_binary : (b : ℕ) (bs : List ℕ) → is_letter b ≡ true → is_binary (b ∷ bs) ≡ false
no_binary b [] l = no_character b l
no_binary b (c ∷ []) l = and_false _ _ (and_false _ _ (no_character b l))
no_binary b (c ∷ d ∷ ds) l = refl

identifier_letter : (b : ℕ) (bs : List ℕ) → is_identifier (b ∷ bs) ≡ true → is_letter b ≡ true
identifier_letter b bs e = (and_parts (is_letter b) (list_all is_letter_or_digit bs) (and_parts (is_letter b && list_all is_letter_or_digit bs) (leb (length bs) 63) e).0).0

no_identifier : (text : List ℕ) → is_binary text ≡ true → is_identifier text ≡ false
no_identifier [] e = absurd (false≢true e)
no_identifier (b ∷ bs) e = by (is_identifier (b ∷ bs)) refl
  where
    by : (v : Bool) → is_identifier (b ∷ bs) ≡ v → is_identifier (b ∷ bs) ≡ false
    by true i = absurd (false≢true (sym (no_binary b bs (identifier_letter b bs i)) ∙ e))
    by false i = i

pub binary_number : (text : List ℕ) → is_binary text ≡ true → is_number (arity_of text) 1 ≡ true
binary_number text e = let n : is_identifier text ≡ false = no_identifier text e in rw n (rw e refl)

no_colon : (b : ℕ) → is_letter_or_digit b ≡ true → eqb b 58 ≡ false
no_colon b e = grind (arith)

parts-word : (word rest : List ℕ) → list_all is_letter_or_digit word ≡ true → parts (word ++ 58 ∷ rest) ≡ word ∷ parts rest
parts-word [] rest all = refl
parts-word (b ∷ word) rest all =
    let p = and_parts (is_letter_or_digit b) (list_all is_letter_or_digit word) all in
    let e : eqb b 58 ≡ false = no_colon b p.0 in
    rw e (ap (before_first_part b) (parts-word word rest p.1))

word_all : (word : List ℕ) → is_identifier word ≡ true → list_all is_letter_or_digit word ≡ true
word_all [] e = refl
word_all (b ∷ bs) e =
    let p = and_parts (is_letter b) (list_all is_letter_or_digit bs) (and_parts (is_letter b && list_all is_letter_or_digit bs) (leb (length bs) 63) e).0 in
    and_from (is_letter_or_digit b) (list_all is_letter_or_digit bs) (or_left (is_letter b) (is_digit b) p.0) p.1

-- keywords joined
abbrev pub together : List (List ℕ) → List ℕ
together texts = flat_map (λ t. t) texts

together-word : (t : List ℕ) (ts : List (List ℕ)) (k : IsKeyword t) → together (t ∷ ts) ≡ k.word ++ 58 ∷ together ts
together-word t ts k = ap (λ (x : List ℕ). x ++ together ts) k.is ∙ append_assoc k.word (58 ∷ []) (together ts)

keywords_count : (texts : List (List ℕ)) → AllByRecursion IsKeyword texts → keywords (parts (together texts)) ≡ Some (length texts)
keywords_count [] h = refl
keywords_count (t ∷ ts) h =
    let k : IsKeyword t = h.0 in
    let rest = keywords_count ts h.1 in
    let i : is_identifier k.word ≡ true = k.identifier in
    let p : parts (together (t ∷ ts)) ≡ k.word ∷ parts (together ts) = ap parts (together-word t ts k) ∙ parts-word k.word (together ts) (word_all k.word i) in
    let one : keywords (k.word ∷ parts (together ts)) ≡ option_map (λ n. n + 1) (keywords (parts (together ts))) = keywords-cons k.word (together ts) ∙ rw i refl in
    let more : length ts + 1 ≡ suc (length ts) = omega arith in
    ap keywords p ∙ (one ∙ (ap (option_map (λ n. n + 1)) rest ∙ ap Some more))

no_letters : (word rest : List ℕ) → list_all is_letter_or_digit (word ++ 58 ∷ rest) ≡ false
no_letters word rest = list_all-append is_letter_or_digit word (58 ∷ rest) ∙ and_no (list_all is_letter_or_digit word) (list_all is_letter_or_digit (58 ∷ rest)) refl

joined_no_identifier : (word rest : List ℕ) → is_identifier (word ++ 58 ∷ rest) ≡ false
joined_no_identifier [] rest = refl
joined_no_identifier (b ∷ word) rest = and_false _ _ (and_no (is_letter b) _ (no_letters word rest))

joined_no_binary : (word rest : List ℕ) → is_identifier word ≡ true → is_binary (word ++ 58 ∷ rest) ≡ false
joined_no_binary [] rest e = absurd (false≢true e)
joined_no_binary (b ∷ word) rest e = no_binary b (word ++ 58 ∷ rest) (identifier_letter b word e)

few_keywords : (n : ℕ) → 1 ≤ n → n ≤ 8 → keyword_arity (Some n) ≡ Some n
few_keywords n l m =
    let a : leb 1 n ≡ true = le-leb 1 n l in
    let b : leb n 8 ≡ true = le-leb n 8 m in
    rw (a, b) refl

-- from 1 to 8 keywords are a selector with as many arguments
pub keywords_number : (texts : List (List ℕ)) → AllByRecursion IsKeyword texts → 1 ≤ length texts → length texts ≤ 8 → is_number (arity_of (together texts)) (length texts) ≡ true
keywords_number [] h l m = absurd (omega (arith, l))
keywords_number (t ∷ ts) h l m =
    let k : IsKeyword t = h.0 in
    let w = together-word t ts k in
    let i : is_identifier (together (t ∷ ts)) ≡ false = ap is_identifier w ∙ joined_no_identifier k.word (together ts) in
    let b : is_binary (together (t ∷ ts)) ≡ false = ap is_binary w ∙ joined_no_binary k.word (together ts) k.identifier in
    let a : arity_of (together (t ∷ ts)) ≡ Some (length (t ∷ ts)) = rw (i, b) (ap keyword_arity (keywords_count (t ∷ ts) h) ∙ few_keywords (length (t ∷ ts)) l m) in
    ap (λ (o : Option ℕ). is_number o (length (t ∷ ts))) a ∙ same_number (length (t ∷ ts))

-- ---- messages of keywords

parts_named : (ps : Parts) → AreNamed (parts_toks ps) → AllByRecursion IsKeyword (keyword_names ps)
parts_named no_parts h = tt
parts_named (part n e ps) h = (h.0, parts_named ps (named_back (toks e) (parts_toks ps) h.1))

joined-together : (ps : Parts) → together (keyword_names ps) ≡ joined ps
joined-together no_parts = refl
joined-together (part n e ps) = ap (λ (x : List ℕ). n.text ++ x) (joined-together ps)

texts-count : (ps : Parts) → length (keyword_names ps) ≡ count ps
texts-count no_parts = refl
texts-count (part n e ps) = ap suc (texts-count ps)

pub parts_number : (ps : Parts) → AreNamed (parts_toks ps) → 1 ≤ count ps → count ps ≤ 8 → is_number (arity_of (joined ps)) (count ps) ≡ true
parts_number ps h l m =
    let n = texts-count ps in
    let r = keywords_number (keyword_names ps) (parts_named ps h) (omega (arith, n, l)) (omega (arith, n, m)) in
    subst (λ k. is_number (arity_of (joined ps)) k ≡ true) n (subst (λ (x : List ℕ). is_number (arity_of x) (length (keyword_names ps)) ≡ true) (joined-together ps) r)

-- ---- patterns

parameters_named : (ps : List Parameter) → AreNamed (flat_map parameter_toks ps) → AllByRecursion IsKeyword (map (λ p. p.keyword.text) ps)
parameters_named [] h = tt
parameters_named (p ∷ ps) h = (h.0, parameters_named ps h.1.1)

parameters-together : (ps : List Parameter) → together (map (λ p. p.keyword.text) ps) ≡ flat_map (λ p. p.keyword.text) ps
parameters-together [] = refl
parameters-together (p ∷ ps) = ap (λ (x : List ℕ). p.keyword.text ++ x) (parameters-together ps)

parameters-count : (ps : List Parameter) → length (map (λ p. p.keyword.text) ps) ≡ length ps
parameters-count [] = refl
parameters-count (p ∷ ps) = ap suc (parameters-count ps)

arguments-count : (ps : List Parameter) → length (map (λ p. p.argument) ps) ≡ length ps
arguments-count [] = refl
arguments-count (p ∷ ps) = ap suc (arguments-count ps)

-- a pattern's selector has as many arguments as the pattern
pub pattern_number : (p : Pattern) → IsPattern p → AreNamed (pattern_toks p) → is_number (arity_of (pattern_selector p)) (length (arguments_of p)) ≡ true
pattern_number (Unary n) is h = unary_number n.text h.0
pattern_number (TwoPart n argument) is h = binary_number n.text h.0
pattern_number (Several ps) is h =
    let n = parameters-count ps in
    let same : length (map (λ p. p.keyword.text) ps) ≡ length (map (λ p. p.argument) ps) = n ∙ sym (arguments-count ps) in
    let r = keywords_number (map (λ p. p.keyword.text) ps) (parameters_named ps h) (omega (arith, n, is.0)) (omega (arith, n, is.1)) in
    subst (λ k. is_number (arity_of (pattern_selector (Several ps))) k ≡ true) same (subst (λ (x : List ℕ). is_number (arity_of x) (length (map (λ p. p.keyword.text) ps)) ≡ true) (parameters-together ps) r)
