-- Rows that are emitted by loops: one item more, and the end.
use Rattle.std.proofs.Common.{◌≡◌, ℕ, ◌+◌, ◌<◌, List, [], ◌∷◌, ◌++◌, length, get_or, drop, suc, false, refl, sym, ap, ◌∙◌, append_assoc, append-nil}
use Rattle.std.proofs.lemmas.List.{drop_more}
use Rattle.std.specs.List.{flat_map}
use Rattle.st_reader.specs.declared.trees.Span.{Span}
use Rattle.st_reader.specs.declared.trees.Name.{Name}
use Rattle.st_reader.specs.declared.trees.Target.{Target}
use Rattle.st_reader.specs.declared.trees.Chain.{Chain}
use Rattle.st_reader.specs.declared.trees.Message.{Message as Sent}
use Rattle.st_reader.specs.Syntax.{Expression, Statements}
use Rattle.st_reader.specs.Grammar.{count}
use Rattle.st_reader.specs.TreeViews.{message_view, parts_of, seen_parts, further_of, seen_further, assigns, thens}
use Rattle.st_compile.specs.DraftCode.{Line, line, store}
use Rattle.st_compile.specs.DraftCode as word
use Rattle.st_compile.specs.Equations.{code, kept, sent, further_sent, statements_value, body, joined}
use Rattle.st_compile.specs.DraftGrowth.{dropped, stores}

-- an item and those behind it
pub drop_item : {A : Type 0} (xs : List A) (i : ℕ) (x : A) → i < length xs → x ≡ get_or xs i x → drop i xs ≡ x ∷ drop (i + 1) xs
drop_item {A} xs i x lt is = drop_more xs i x lt ∙ ap (λ (y : A). y ∷ drop (i + 1) xs) (sym is)

-- the front of a row is emitted once more
emitted : (all before now one rest left : List Line) → left ≡ one ++ rest → now ≡ before ++ one → before ++ left ≡ all → now ++ rest ≡ all
emitted all before now one rest left split pushed inv =
    ap (λ (ls : List Line). ls ++ rest) pushed ∙ append_assoc before one rest ∙ ap (λ (ls : List Line). before ++ ls) (sym split) ∙ inv

-- ---- variables that a value is stored in

stores_last : (d : ℕ) (ts : List Target) (t : Target) → stores d (ts ++ t ∷ []) ≡ line d (store t.name) ∷ stores d ts
stores_last d [] t = refl
stores_last d (u ∷ ts) t = ap (λ (ls : List Line). ls ++ line d (store u.name) ∷ []) (stores_last d ts t)

pub stores_step : (d : ℕ) (all : List Line) (before now : List Line) (left rest : List Target) (t : Target) → left ≡ rest ++ t ∷ [] → now ≡ before ++ line d (store t.name) ∷ [] → before ++ stores d left ≡ all → now ++ stores d rest ≡ all
stores_step d all before now left rest t e pushed inv =
    emitted all before now (line d (store t.name) ∷ []) (stores d rest) (stores d left) (ap (stores d) e ∙ stores_last d rest t) pushed inv

pub assigns_code : (d : ℕ) (ts : List Target) (e : Expression) → code d (assigns ts e) ≡ code d e ++ stores (d + 1) ts
assigns_code d [] e = sym (append-nil (code d e))
assigns_code d (t ∷ ts) e = ap (λ (ls : List Line). ls ++ line (d + 1) (store t.name) ∷ []) (assigns_code d ts e) ∙ append_assoc (code d e) (stores (d + 1) ts) (line (d + 1) (store t.name) ∷ [])

-- ---- keywords

pub joined_is : (ps : List (Name × Chain)) → joined (parts_of (seen_parts ps)) ≡ flat_map (λ p. p.0.text) ps
joined_is [] = refl
joined_is (p ∷ ps) = ap (λ (l : List ℕ). p.0.text ++ l) (joined_is ps)

pub count_is : (ps : List (Name × Chain)) → count (parts_of (seen_parts ps)) ≡ length ps
count_is [] = refl
count_is (p ∷ ps) = ap suc_of (count_is ps)
  where
    suc_of : ℕ → ℕ
    suc_of n = suc n

-- ---- statements whose values are dropped

pub thens_code : (d : ℕ) (ss : List (Expression × Span)) (l : Statements) → statements_value d (thens ss l) ≡ dropped d ss ++ statements_value d l
thens_code d [] l = refl
thens_code d (s ∷ ss) l = ap (λ (ls : List Line). code d s.0 ++ line (d + 1) word.drop ∷ ls) (thens_code d ss l) ∙ sym (append_assoc (code d s.0) (line (d + 1) word.drop ∷ dropped d ss) (statements_value d l))

pub body_code : (ss : List (Expression × Span)) (l : Statements) → body (thens ss l) ≡ dropped 0 ss ++ body l
body_code [] l = refl
body_code (s ∷ ss) l = ap (λ (ls : List Line). code 0 s.0 ++ line 1 word.drop ∷ ls) (body_code ss l) ∙ sym (append_assoc (code 0 s.0) (line 1 word.drop ∷ dropped 0 ss) (body l))

-- ---- further messages of a cascade

further_more : (d : ℕ) (m : Span × Sent) (ms : List (Span × Sent)) (l : Span × Sent) → further_sent d (further_of (seen_further (m ∷ (ms ++ l ∷ [])))) ≡ kept d (sent false (d + 1) (message_view m.1)) ++ further_sent d (further_of (seen_further (ms ++ l ∷ [])))
further_more d m [] l = refl
further_more d m (n ∷ ms) l = refl

pub further_step : (d : ℕ) (all before now : List Line) (ms : List (Span × Sent)) (l : Span × Sent) (i : ℕ) (m : Span × Sent) → i < length ms → m ≡ get_or ms i m → now ≡ before ++ kept d (sent false (d + 1) (message_view m.1)) → before ++ further_sent d (further_of (seen_further (drop i ms ++ l ∷ []))) ≡ all → now ++ further_sent d (further_of (seen_further (drop (i + 1) ms ++ l ∷ []))) ≡ all
further_step d all before now ms l i m lt is pushed inv =
    emitted all before now (kept d (sent false (d + 1) (message_view m.1))) (further_sent d (further_of (seen_further (drop (i + 1) ms ++ l ∷ [])))) (further_sent d (further_of (seen_further (drop i ms ++ l ∷ [])))) (ap (λ (qs : List (Span × Sent)). further_sent d (further_of (seen_further (qs ++ l ∷ [])))) (drop_item ms i m lt is) ∙ further_more d m (drop (i + 1) ms) l) pushed inv
