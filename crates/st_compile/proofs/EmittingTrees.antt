-- The code of a tree by what its parts show.
use Rattle.std.proofs.Common.{◌≡◌, ℕ, ◌+◌, ◌≤◌, List, [], ◌∷◌, ◌++◌, length, Bool, Option, sym, ap, ◌∙◌, append_assoc}
use Rattle.std.specs.List.{flat_map}
use Rattle.std.specs.declared.vec.Vec.{Vec}
use Rattle.std.specs.declared.alloc.Global.{Global}
use Rattle.st_reader.specs.declared.trees.Span.{Span}
use Rattle.st_reader.specs.declared.trees.Name.{Name}
use Rattle.st_reader.specs.declared.trees.Target.{Target}
use Rattle.st_reader.specs.declared.trees.Chain.{Chain}
use Rattle.st_reader.specs.declared.trees.Message.{Message as Sent, Keyword}
use Rattle.st_reader.specs.declared.trees.Expression.{Expression as Written, out-Expression}
use Rattle.st_reader.specs.declared.trees.Statements.{Statements as Row, out-Statements, fold_out-Statements}
use Rattle.st_reader.specs.declared.inlining.Inlining.{Inlining}
use Rattle.st_reader.specs.Syntax.{Expression, Message, Statements}
use Rattle.st_reader.specs.Grammar.{count}
use Rattle.st_reader.specs.Inlining.{inlining, keyword_names}
use Rattle.st_reader.specs.TreeViews.{message_view, expression_view, statements_view, assigns, seen_sentences, parts_of, seen_parts, thens, last_of, message_step, operand_step, chain_step, expression_step, statements_step}
use Rattle.st_reader.specs.ExpressionKinds.{value_of}
use Rattle.st_reader.proofs.Alone.{expression_out}
use Rattle.st_reader.proofs.Messages.{keyword_is, inlining_many}
use Rattle.st_compile.specs.DraftCode.{Line, line}
use Rattle.st_compile.specs.Equations.{to, inlined, inlining_of, blocks, part_blocks, code, sent, arguments, statements_value, body}
use Rattle.st_compile.specs.DraftGrowth.{dropped, stores}
use Rattle.st_compile.proofs.EmittingRows.{assigns_code, joined_is, count_is, thens_code, body_code}

-- more rows of lines behind a row
pub behind : (old one two c1 now : List Line) → c1 ≡ old ++ one → now ≡ c1 ++ two → now ≡ old ++ (one ++ two)
behind old one two c1 now e f = f ∙ ap (λ (ls : List Line). ls ++ two) e ∙ append_assoc old one two

-- ---- messages

pub sent_keywords : (up : Bool) (d : ℕ) (m : Sent) (ps : Vec (Name × Chain) Global) (qs : List (Name × Chain)) (old c1 now : List Line) → m ≡ Keyword ps → qs ≡ ps.items → c1 ≡ old ++ arguments d (parts_of (seen_parts qs)) → now ≡ c1 ++ line (d + length qs) (to up (flat_map (λ p. p.0.text) qs) (length qs)) ∷ [] → now ≡ old ++ sent up d (message_view m)
sent_keywords up d m ps qs old c1 now is same e f =
    let whole = behind old (arguments d (parts_of (seen_parts qs))) (line (d + length qs) (to up (flat_map (λ p. p.0.text) qs) (length qs)) ∷ []) c1 now e f in
    whole
    ∙ ap (λ (n : ℕ). old ++ (arguments d (parts_of (seen_parts qs)) ++ line (d + n) (to up (flat_map (λ p. p.0.text) qs) n) ∷ [])) (sym (count_is qs))
    ∙ ap (λ (text : List ℕ). old ++ (arguments d (parts_of (seen_parts qs)) ++ line (d + count (parts_of (seen_parts qs))) (to up text (count (parts_of (seen_parts qs)))) ∷ [])) (sym (joined_is qs))
    ∙ ap (λ (l : List (Name × Chain)). old ++ sent up d (Message.keywords (parts_of (seen_parts l)))) same
    ∙ ap (λ (x : Message). old ++ sent up d x) (sym (ap message_view is ∙ keyword_is ps))

-- more than two blocks are never inlined
pub inlined_many : (d : ℕ) (r : List Line) (m : Sent) (ps : Vec (Name × Chain) Global) (qs : List (Name × Chain)) → m ≡ Keyword ps → qs ≡ ps.items → 3 ≤ length qs → inlined d (inlining_of (message_view m)) r (blocks d (message_view m)) ≡ r
inlined_many d r m ps qs is same long =
    ap (λ (x : Message). inlined d (inlining_of x) r (blocks d x)) (ap message_view is ∙ keyword_is ps)
    ∙ ap (λ (l : List (Name × Chain)). inlined d (inlining (keyword_names (parts_of (seen_parts l)))) r (part_blocks d (parts_of (seen_parts l)))) (sym same)
    ∙ ap (λ (o : Option Inlining). inlined d o r (part_blocks d (parts_of (seen_parts qs)))) (inlining_many qs long)

-- ---- expressions

pub expression_code : (d : ℕ) (e : Written) (ts : List Target) (old c1 now : List Line) → ts ≡ (out-Expression e).targets → c1 ≡ old ++ code d (value_of e) → now ≡ c1 ++ stores (d + 1) ts → now ≡ old ++ code d (expression_view e)
expression_code d e ts old c1 now same f1 f2 =
    behind old (code d (value_of e)) (stores (d + 1) ts) c1 now f1 f2
    ∙ ap (λ (ls : List Line). old ++ ls) (sym (assigns_code d ts (value_of e)) ∙ ap (λ (l : List Target). code d (assigns l (value_of e))) same ∙ ap (code d) (sym (expression_out e)))

-- ---- statements

statements_out : (s : Row) → statements_view s ≡ thens (seen_sentences (out-Statements s).before.items) (last_of (out-Statements s).caret (expression_view (out-Statements s).last) (out-Statements s).period)
statements_out s = fold_out-Statements Message Expression Expression Expression Statements message_step operand_step chain_step expression_step statements_step s

-- the last statement of a block, or of a method, by its caret
abbrev pub ended : (Statements → List Line) → Row → Option Span → List Line
ended f s caret = f (last_of caret (expression_view (out-Statements s).last) (out-Statements s).period)

pub statements_code : (d : ℕ) (s : Row) (bs : List (Written × Span)) (caret : Option Span) (old c1 now rest : List Line) → bs ≡ (out-Statements s).before.items → (out-Statements s).caret ≡ caret → c1 ≡ old ++ dropped d (seen_sentences bs) → rest ≡ ended (statements_value d) s caret → now ≡ c1 ++ rest → now ≡ old ++ statements_value d (statements_view s)
statements_code d s bs caret old c1 now rest same is f1 ends f2 =
    let out = λ (o : Option Span). last_of o (expression_view (out-Statements s).last) (out-Statements s).period in
    f2 ∙ ap (λ (ls : List Line). c1 ++ ls) ends ∙ ap (λ (ls : List Line). ls ++ statements_value d (out caret)) f1 ∙ append_assoc old (dropped d (seen_sentences bs)) (statements_value d (out caret))
    ∙ ap (λ (ls : List Line). old ++ ls) (sym (thens_code d (seen_sentences bs) (out caret)))
    ∙ ap (λ (l : List (Written × Span)). old ++ statements_value d (thens (seen_sentences l) (out caret))) same
    ∙ ap (λ (o : Option Span). old ++ statements_value d (thens (seen_sentences (out-Statements s).before.items) (out o))) (sym is)
    ∙ ap (λ (x : Statements). old ++ statements_value d x) (sym (statements_out s))

pub body_is : (s : Row) (bs : List (Written × Span)) (caret : Option Span) (old c1 now rest : List Line) → bs ≡ (out-Statements s).before.items → (out-Statements s).caret ≡ caret → c1 ≡ old ++ dropped 0 (seen_sentences bs) → rest ≡ ended body s caret → now ≡ c1 ++ rest → now ≡ old ++ body (statements_view s)
body_is s bs caret old c1 now rest same is f1 ends f2 =
    let out = λ (o : Option Span). last_of o (expression_view (out-Statements s).last) (out-Statements s).period in
    f2 ∙ ap (λ (ls : List Line). c1 ++ ls) ends ∙ ap (λ (ls : List Line). ls ++ body (out caret)) f1 ∙ append_assoc old (dropped 0 (seen_sentences bs)) (body (out caret))
    ∙ ap (λ (ls : List Line). old ++ ls) (sym (body_code (seen_sentences bs) (out caret)))
    ∙ ap (λ (l : List (Written × Span)). old ++ body (thens (seen_sentences l) (out caret))) same
    ∙ ap (λ (o : Option Span). old ++ body (thens (seen_sentences (out-Statements s).before.items) (out o))) (sym is)
    ∙ ap (λ (x : Statements). old ++ body x) (sym (statements_out s))
