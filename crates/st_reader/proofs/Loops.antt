-- Rows that are read by loops: one item more, and the end.
use Rattle.std.proofs.Common.{◌≡◌, ◌≢◌, ℕ, List, [], ◌∷◌, ◌++◌, map, refl, sym, ap, ◌∙◌}
use Rattle.std.proofs.lemmas.List.{map-append}
use Rattle.st_reader.specs.declared.trees.Span.{Span}
use Rattle.st_reader.specs.declared.trees.Name.{Name}
use Rattle.st_reader.specs.declared.trees.Target.{Target}
use Rattle.st_reader.specs.declared.trees.Message.{Message as Sent}
use Rattle.st_reader.specs.declared.tokens.Kind.{Kind}
use Rattle.st_reader.specs.declared.tokens.Kind.TheVariants.{Identifier, Keyword, Assign, Binary, Number, Symbol, Mark as Marked}
use Rattle.st_reader.specs.declared.tokens.Lexeme.{Lexeme}
use Rattle.st_reader.specs.Tokens.{Token}
use Rattle.st_reader.specs.Syntax.{Expression, Message, send, unary}
use Rattle.st_reader.specs.TreeViews.{sends, message_view}
use Rattle.st_reader.specs.Lexemes.{token_at, token_of, tokens_of, name_at, Lacks, LacksTarget}
use Rattle.st_reader.specs.Parser.{unaries_of, targets_of}
use Rattle.st_reader.proofs.Rows.{ahead, ahead_more, ahead_none}
use Rattle.st_reader.proofs.Seen.{sends-append}

-- the token of a lexeme of a kind
pub token_is : (s : List ℕ) (k : Kind) (l : Lexeme) → l.kind ≡ k → token_of s l ≡ token_at s k l.span
token_is s k l e = ap (λ (x : Kind). token_at s x l.span) e

-- ---- unary messages

pub unaries_more : (s : List ℕ) (e : Expression) (l : Lexeme) (ls : List Lexeme) → l.kind ≡ Identifier → unaries_of e (tokens_of s (l ∷ ls)) ≡ unaries_of (send e (unary (name_at s l.span))) (tokens_of s ls)
unfolding unaries_of
unaries_more s e l ls k = ap (λ (t : Token). unaries_of e (t ∷ tokens_of s ls)) (token_is s Identifier l k)

unaries_stop : (s : List ℕ) (k : Kind) (place : Span) (e : Expression) (ts : List Token) → (k ≢ Identifier) → unaries_of e (token_at s k place ∷ ts) ≡ (e, token_at s k place ∷ ts)
unfolding unaries_of
unaries_stop s Identifier place e ts other = absurd (other refl)
unaries_stop s Keyword place e ts other = refl
unaries_stop s Assign place e ts other = refl
unaries_stop s Binary place e ts other = refl
unaries_stop s Number place e ts other = refl
unaries_stop s Symbol place e ts other = refl
unaries_stop s (Marked m) place e ts other = refl

pub unaries_end : (s : List ℕ) (e : Expression) (ls : List Lexeme) → Lacks Identifier ls → unaries_of e (tokens_of s ls) ≡ (e, tokens_of s ls)
unfolding unaries_of
unaries_end s e [] other = refl
unaries_end s e (l ∷ ls) other = unaries_stop s l.kind l.span e (tokens_of s ls) other

-- what was sent, and what is left
abbrev pub UnariesAre : List ℕ → List Lexeme → List Sent → List Lexeme → Type 0
UnariesAre s all ms rest = (e : Expression) → unaries_of e (tokens_of s all) ≡ unaries_of (sends e (map message_view ms)) (tokens_of s rest)

pub unaries_step : (s : List ℕ) (all rest : List Lexeme) (ms now : List Sent) (l : Lexeme) (ls : List Lexeme) (m : Sent) (n : Name) → message_view m ≡ unary n → rest ≡ l ∷ ls → l.kind ≡ Identifier → n ≡ name_at s l.span → now ≡ ms ++ m ∷ [] → UnariesAre s all ms rest → UnariesAre s all now ls
unaries_step s all rest ms now l ls m n is at k same pushed inv e =
    let o : Expression = sends e (map message_view ms) in
    inv e ∙ ap (λ (r : List Lexeme). unaries_of o (tokens_of s r)) at ∙ unaries_more s o l ls k ∙ ap (λ (x : Name). unaries_of (send o (unary x)) (tokens_of s ls)) (sym same) ∙ ap (λ (x : Expression). unaries_of x (tokens_of s ls)) (sym (ap (λ (l2 : List Sent). sends e (map message_view l2)) pushed ∙ ap (sends e) (map-append message_view ms (m ∷ [])) ∙ ap (λ (x : Message). sends e (map message_view ms ++ x ∷ [])) is ∙ sends-append e (map message_view ms) (unary n)))

pub unaries_done : (s : List ℕ) (all rest : List Lexeme) (ms : List Sent) → Lacks Identifier rest → UnariesAre s all ms rest → (e : Expression) → unaries_of e (tokens_of s all) ≡ (sends e (map message_view ms), tokens_of s rest)
unaries_done s all rest ms other inv e = inv e ∙ unaries_end s (sends e (map message_view ms)) rest other

-- ---- variables that are assigned to

abbrev pub target_at : List ℕ → Lexeme → Lexeme → Target
target_at s l a = record { name = name_at s l.span; assign = a.span }

pub targets_more : (s : List ℕ) (l a : Lexeme) (ls : List Lexeme) → l.kind ≡ Identifier → a.kind ≡ Assign → targets_of (tokens_of s (l ∷ a ∷ ls)) ≡ ahead (target_at s l a ∷ []) (targets_of (tokens_of s ls))
unfolding targets_of
targets_more s l a ls k j = ap (λ (t : Token). targets_of (t ∷ tokens_of s (a ∷ ls))) (token_is s Identifier l k) ∙ ap (λ (t : Token). targets_of (Token.identifier (name_at s l.span) ∷ t ∷ tokens_of s ls)) (token_is s Assign a j)

targets_stop : (s : List ℕ) (k j : Kind) (p q : Span) (ts : List Token) → ((k ≡ Identifier) → (j ≡ Assign) → ⊥) → targets_of (token_at s k p ∷ token_at s j q ∷ ts) ≡ ([], token_at s k p ∷ token_at s j q ∷ ts)
unfolding targets_of
targets_stop s Identifier Identifier p q ts other = refl
targets_stop s Identifier Keyword p q ts other = refl
targets_stop s Identifier Assign p q ts other = absurd (other refl refl)
targets_stop s Identifier Binary p q ts other = refl
targets_stop s Identifier Number p q ts other = refl
targets_stop s Identifier Symbol p q ts other = refl
targets_stop s Identifier (Marked m) p q ts other = refl
targets_stop s Keyword j p q ts other = refl
targets_stop s Assign j p q ts other = refl
targets_stop s Binary j p q ts other = refl
targets_stop s Number j p q ts other = refl
targets_stop s Symbol j p q ts other = refl
targets_stop s (Marked m) j p q ts other = refl

targets_one : (s : List ℕ) (k : Kind) (p : Span) → targets_of (token_at s k p ∷ []) ≡ ([], token_at s k p ∷ [])
unfolding targets_of
targets_one s Identifier p = refl
targets_one s Keyword p = refl
targets_one s Assign p = refl
targets_one s Binary p = refl
targets_one s Number p = refl
targets_one s Symbol p = refl
targets_one s (Marked m) p = refl

pub targets_end : (s : List ℕ) (ls : List Lexeme) → LacksTarget ls → targets_of (tokens_of s ls) ≡ ([], tokens_of s ls)
unfolding targets_of
targets_end s [] other = refl
targets_end s (l ∷ []) other = targets_one s l.kind l.span
targets_end s (l ∷ a ∷ ls) other = targets_stop s l.kind a.kind l.span a.span (tokens_of s ls) other

pub targets_step : (s : List ℕ) (all rest : List Lexeme) (xs now : List Target) (l a : Lexeme) (ls : List Lexeme) (n : Name) → rest ≡ l ∷ a ∷ ls → l.kind ≡ Identifier → a.kind ≡ Assign → n ≡ name_at s l.span → now ≡ xs ++ (record { name = n; assign = a.span }) ∷ [] → targets_of (tokens_of s all) ≡ ahead xs (targets_of (tokens_of s rest)) → targets_of (tokens_of s all) ≡ ahead now (targets_of (tokens_of s ls))
targets_step s all rest xs now l a ls n at k j same pushed inv =
    let made : now ≡ xs ++ target_at s l a ∷ [] = pushed ∙ ap (λ (x : Name). xs ++ (record { name = x; assign = a.span }) ∷ []) same in
    inv ∙ ap (λ (r : List Lexeme). ahead xs (targets_of (tokens_of s r))) at ∙ ap (ahead xs) (targets_more s l a ls k j) ∙ ahead_more xs (target_at s l a) (targets_of (tokens_of s ls)) ∙ ap (λ (ys : List Target). ahead ys (targets_of (tokens_of s ls))) (sym made)

pub targets_done : (s : List ℕ) (all rest : List Lexeme) (xs : List Target) → LacksTarget rest → targets_of (tokens_of s all) ≡ ahead xs (targets_of (tokens_of s rest)) → targets_of (tokens_of s all) ≡ (xs, tokens_of s rest)
targets_done s all rest xs other inv = inv ∙ ap (ahead xs) (targets_end s rest other) ∙ ahead_none xs (tokens_of s rest)
