-- The depths of a code fit it, wherever it stands.
use Rattle.std.proofs.Common.{◌≡◌, ℕ, suc, ◌+◌, ◌-◌, ◌<◌, ◌≤◌, pos, negsuc, List, [], ◌∷◌, ◌++◌, length, map, Bool, true, false, Option, Some, None, refl, sym, ap, ◌∙◌, subst, arith, append_assoc}
use Rattle.st_classes.specs.declared.values.Value.{Value}
use Rattle.st_classes.specs.declared.values.Value.TheVariants.{Nil, Bool as Boolean}
use Rattle.st_classes.specs.Methods.{DepthAt, AgreesWithDepths}
use Rattle.st_classes.specs.OperandFlow.{on, branches, flow}
use Rattle.st_reader.specs.declared.inlining.Inlining.{Inlining}
use Rattle.st_reader.specs.declared.inlining.Inlining.TheVariants.{IfTrue, IfFalse, IfTrueIfFalse, IfFalseIfTrue, And, Or, WhileTrue, WhileFalse}
use Rattle.st_reader.specs.Syntax.{Expression, Message, Parts, Further, Statements, parenthesis, empty_block, block, send, cascade, name, unary, keywords, no_parts, part, no_further, further, last, answer, statement}
use Rattle.st_reader.specs.Grammar.{count}
use Rattle.st_reader.specs.Inlining.{is_inlined, is_super}
use Rattle.st_compile.specs.DraftCode.{Word, Line, line, literal, symbol, variable, store, drop, repeat, jump, jump_false, jump_true, return}
use Rattle.st_compile.specs.Equations.{joined, to, either, loop, plain, inlined, inlining_of, one_of, kept, code, sent, arguments, blocks, part_blocks, further_sent, statements_value}
use Rattle.st_compile.proofs.WordFlows.{word_flow}

-- the depths of lines
abbrev pub depths : List Line → List ℕ
depths ls = map (λ l. l.depth) ls

-- these depths stand from a place on
abbrev pub HasDepths : List ℕ → ℕ → List ℕ → Type 0
HasDepths whole place [] = Unit {0}
HasDepths whole place (n ∷ ns) = DepthAt whole place n × HasDepths whole (place + 1) ns

-- each of these lines, from a place on, fits
abbrev pub AllFit : List ℕ → ℕ → List Line → Type 0
AllFit whole place [] = Unit {0}
AllFit whole place (l ∷ ls) = AgreesWithDepths whole place (word_flow l.word) l.depth × AllFit whole (place + 1) ls

-- A code that begins with d operands and comes to its end with k: it isn't empty, and wherever it stands with k behind it, it fits.
pub record IsCode (ls : List Line) (d k : ℕ) : Type 0 where
  pub front : (l : Line) × (rest : List Line) × (ls ≡ l ∷ rest) × (l.depth ≡ d)
  pub fits : (whole : List ℕ) (place : ℕ) → HasDepths whole place (depths ls ++ k ∷ []) → AllFit whole place ls

at_place : (whole : List ℕ) (ns : List ℕ) (p q : ℕ) → p ≡ q → HasDepths whole p ns → HasDepths whole q ns
at_place whole ns p q e h = subst (λ n. HasDepths whole n ns) e h

pub has_front : (whole : List ℕ) (place : ℕ) (a b : List ℕ) → HasDepths whole place (a ++ b) → HasDepths whole place a
has_front whole place [] b h = tt
has_front whole place (n ∷ a) b h = (h.0, has_front whole (place + 1) a b h.1)

has_back : (whole : List ℕ) (place : ℕ) (a b : List ℕ) → HasDepths whole place (a ++ b) → HasDepths whole (place + length a) b
has_back whole place [] b h = at_place whole b place (place + 0) (omega arith) h
has_back whole place (n ∷ a) b h = at_place whole b (place + 1 + length a) (place + length (n ∷ a)) (omega arith) (has_back whole (place + 1) a b h.1)

has_join : (whole : List ℕ) (place : ℕ) (a b : List ℕ) → HasDepths whole place a → HasDepths whole (place + length a) b → HasDepths whole place (a ++ b)
has_join whole place [] b h k = at_place whole b (place + 0) place (omega arith) k
has_join whole place (n ∷ a) b h k = (h.0, has_join whole (place + 1) a b h.1 (at_place whole b (place + length (n ∷ a)) (place + 1 + length a) (omega arith) k))

fit_at : (whole : List ℕ) (ls : List Line) (p q : ℕ) → p ≡ q → AllFit whole p ls → AllFit whole q ls
fit_at whole ls p q e h = subst (λ n. AllFit whole n ls) e h

pub fit_join : (whole : List ℕ) (place : ℕ) (a b : List Line) → AllFit whole place a → AllFit whole (place + length a) b → AllFit whole place (a ++ b)
fit_join whole place [] b h k = fit_at whole b (place + 0) place (omega arith) k
fit_join whole place (l ∷ a) b h k = (h.0, fit_join whole (place + 1) a b h.1 (fit_at whole b (place + length (l ∷ a)) (place + 1 + length a) (omega arith) k))

pub length_depths : (ls : List Line) → length (depths ls) ≡ length ls
length_depths [] = refl
length_depths (l ∷ ls) = ap suc (length_depths ls)

pub depths_append : (a b : List Line) → depths (a ++ b) ≡ depths a ++ depths b
depths_append [] b = refl
depths_append (l ∷ a) b = ap (λ (ns : List ℕ). l.depth ∷ ns) (depths_append a b)

-- the depths of two codes, and one behind them
depths_two : (a b : List Line) (k : ℕ) → depths (a ++ b) ++ k ∷ [] ≡ depths a ++ (depths b ++ k ∷ [])
depths_two a b k = ap (λ (ns : List ℕ). ns ++ k ∷ []) (depths_append a b) ∙ append_assoc (depths a) (depths b) (k ∷ [])

-- where a code stands, its first depth stands
pub begins : (ls : List Line) (d k : ℕ) (whole : List ℕ) (place : ℕ) (ns : List ℕ) → IsCode ls d k → HasDepths whole place (depths ls ++ ns) → DepthAt whole place d
begins ls d k whole place ns c h =
    let f = c.front in
    let g : HasDepths whole place (depths (f.0 ∷ f.1) ++ ns) = subst (λ (x : List Line). HasDepths whole place (depths x ++ ns)) f.2 h in
    subst (λ n. DepthAt whole place n) f.3 g.0

-- a code before others whose first depth is its last
before : (a b : List Line) (d m k : ℕ) (whole : List ℕ) (place : ℕ) → IsCode b m k → HasDepths whole place (depths a ++ (depths b ++ k ∷ [])) → HasDepths whole place (depths a ++ m ∷ [])
before a b d m k whole place c h =
    let back = has_back whole place (depths a) (depths b ++ k ∷ []) h in
    has_join whole place (depths a) (m ∷ []) (has_front whole place (depths a) (depths b ++ k ∷ []) h) (begins b m k whole (place + length (depths a)) (k ∷ []) c back, tt)

pub join : (a b : List Line) (d m k : ℕ) → IsCode a d m → IsCode b m k → IsCode (a ++ b) d k
join a b d m k x y = record {
  front = (x.front.0, x.front.1 ++ b, ap (λ (ls : List Line). ls ++ b) x.front.2, x.front.3);
  fits = λ whole place h.
      let g : HasDepths whole place (depths a ++ (depths b ++ k ∷ [])) = subst (HasDepths whole place) (depths_two a b k) h in
      let first = x.fits whole place (before a b d m k whole place y g) in
      let back = at_place whole (depths b ++ k ∷ []) (place + length (depths a)) (place + length a) (omega (arith, length_depths a)) (has_back whole place (depths a) (depths b ++ k ∷ []) g) in
      fit_join whole place a b first (y.fits whole (place + length a) back);
}

-- a line that goes on
pub one : (d k : ℕ) (w : Word) → (takes : ℕ) → (gives : ℕ) → word_flow w ≡ flow takes gives on → takes ≤ d → k ≡ d - takes + gives → IsCode (line d w ∷ []) d k
one d k w takes gives e le q = record {
  front = (line d w, [], refl, refl);
  fits = λ whole place h. (rw e (record { enough = le; arrives = subst (λ n. DepthAt whole (place + 1) n) q h.1.0 }), tt);
}

-- an answer
pub ending : (d k : ℕ) → 0 < d → IsCode (line d return ∷ []) d k
ending d k le = record {
  front = (line d return, [], refl, refl);
  fits = λ whole place h. (record { enough = omega (arith, le); arrives = tt }, tt);
}

depth_is : (whole : List ℕ) (place m n : ℕ) → m ≡ n → DepthAt whole place m → DepthAt whole place n
depth_is whole place m n e h = subst (λ d. DepthAt whole place d) e h

-- One of two arms: both leave one operand.
either_rest : (branch : ℕ → Word) → ((n : ℕ) → word_flow (branch n) ≡ flow 1 0 (branches (pos n))) → (d : ℕ) (a b : List Line) → IsCode a d (d + 1) → IsCode b d (d + 1) → IsCode (line (d + 1) (branch (length a + 1)) ∷ (a ++ line (d + 1) (jump (pos (length b))) ∷ b)) (d + 1) (d + 1)
either_rest branch e d a b x y =
    let j = line (d + 1) (jump (pos (length b))) in
    record {
      front = (line (d + 1) (branch (length a + 1)), a ++ j ∷ b, refl, refl);
      fits = λ whole place h.
          let g : HasDepths whole (place + 1) (depths a ++ ((d + 1) ∷ (depths b ++ (d + 1) ∷ []))) = subst (HasDepths whole (place + 1)) (depths_two a (j ∷ b) (d + 1)) h.1 in
          let la = length_depths a in
          let lb = length_depths b in
          let q = place + 1 + length (depths a) in
          let back : HasDepths whole q ((d + 1) ∷ (depths b ++ (d + 1) ∷ [])) = has_back whole (place + 1) (depths a) ((d + 1) ∷ (depths b ++ (d + 1) ∷ [])) g in
          let front = has_join whole (place + 1) (depths a) ((d + 1) ∷ []) (has_front whole (place + 1) (depths a) ((d + 1) ∷ (depths b ++ (d + 1) ∷ [])) g) (back.0, tt) in
          let ends_here = has_back whole (q + 1) (depths b) ((d + 1) ∷ []) back.1 in
          let begin_a = begins a d (d + 1) whole (place + 1) ((d + 1) ∷ (depths b ++ (d + 1) ∷ [])) x g in
          let begin_b = begins b d (d + 1) whole (q + 1) ((d + 1) ∷ []) y back.1 in
          let head : AgreesWithDepths whole place (word_flow (branch (length a + 1))) (d + 1) = rw (e (length a + 1)) (record {
            enough = omega arith;
            arrives = (depth_is whole (place + 1) d (d + 1 - 1 + 0) (omega arith) begin_a, (q + 1, omega (arith, la), depth_is whole (q + 1) d (d + 1 - 1 + 0) (omega arith) begin_b));
          }) in
          let middle : AgreesWithDepths whole q (word_flow (jump (pos (length b)))) (d + 1) = record {
            enough = omega arith;
            arrives = (q + 1 + length (depths b), omega (arith, lb), depth_is whole (q + 1 + length (depths b)) (d + 1) (d + 1 - 0 + 0) (omega arith) ends_here.0);
          } in
          let behind : AllFit whole (place + 1 + length a) (j ∷ b) = fit_at whole (j ∷ b) q (place + 1 + length a) (omega (arith, la)) (middle, y.fits whole (q + 1) back.1) in
          (head, fit_join whole (place + 1) a (j ∷ b) (x.fits whole (place + 1) front) behind);
    }

pub either_is : (branch : ℕ → Word) → ((n : ℕ) → word_flow (branch n) ≡ flow 1 0 (branches (pos n))) → (d : ℕ) (r a b : List Line) → IsCode r d (d + 1) → IsCode a d (d + 1) → IsCode b d (d + 1) → IsCode (either branch d r a b) d (d + 1)
either_is branch e d r a b z x y = join r (line (d + 1) (branch (length a + 1)) ∷ (a ++ line (d + 1) (jump (pos (length b))) ∷ b)) d (d + 1) (d + 1) z (either_rest branch e d a b x y)

-- A loop: its body leaves the depth as it was, and behind it stands nil.
pub loop_is : (branch : ℕ → Word) → ((n : ℕ) → word_flow (branch n) ≡ flow 1 0 (branches (pos n))) → (d : ℕ) (c b : List Line) → IsCode c d (d + 1) → IsCode b d (d + 1) → IsCode (loop branch d c b) d (d + 1)
loop_is branch e d c b x y =
    let top = line (d + 1) (branch (length b + 2)) in
    let again = line d (jump (negsuc (length c + length b + 2))) in
    let tail = line (d + 1) drop ∷ again ∷ line d (literal Nil) ∷ [] in
    record {
      front = (x.front.0, x.front.1 ++ top ∷ (b ++ tail), ap (λ (ls : List Line). ls ++ top ∷ (b ++ tail)) x.front.2, x.front.3);
      fits = λ whole place h.
          let lc = length_depths c in
          let lb = length_depths b in
          let g : HasDepths whole place (depths c ++ ((d + 1) ∷ (depths (b ++ tail) ++ (d + 1) ∷ []))) = subst (HasDepths whole place) (depths_two c (top ∷ (b ++ tail)) (d + 1)) h in
          let q = place + length (depths c) in
          let back : HasDepths whole q ((d + 1) ∷ (depths (b ++ tail) ++ (d + 1) ∷ [])) = has_back whole place (depths c) ((d + 1) ∷ (depths (b ++ tail) ++ (d + 1) ∷ [])) g in
          let front = has_join whole place (depths c) ((d + 1) ∷ []) (has_front whole place (depths c) ((d + 1) ∷ (depths (b ++ tail) ++ (d + 1) ∷ [])) g) (back.0, tt) in
          let body_here : HasDepths whole (q + 1) (depths b ++ ((d + 1) ∷ d ∷ d ∷ (d + 1) ∷ [])) = subst (HasDepths whole (q + 1)) (depths_two b tail (d + 1)) back.1 in
          let s = q + 1 + length (depths b) in
          let end : HasDepths whole s ((d + 1) ∷ d ∷ d ∷ (d + 1) ∷ []) = has_back whole (q + 1) (depths b) ((d + 1) ∷ d ∷ d ∷ (d + 1) ∷ []) body_here in
          let body_front = has_join whole (q + 1) (depths b) ((d + 1) ∷ []) (has_front whole (q + 1) (depths b) ((d + 1) ∷ d ∷ d ∷ (d + 1) ∷ []) body_here) (end.0, tt) in
          let begin_c = begins c d (d + 1) whole place ((d + 1) ∷ (depths (b ++ tail) ++ (d + 1) ∷ [])) x g in
          let begin_b = begins b d (d + 1) whole (q + 1) ((d + 1) ∷ d ∷ d ∷ (d + 1) ∷ []) y body_here in
          let head : AgreesWithDepths whole q (word_flow (branch (length b + 2))) (d + 1) = rw (e (length b + 2)) (record {
            enough = omega arith;
            arrives = (depth_is whole (q + 1) d (d + 1 - 1 + 0) (omega arith) begin_b, (s + 1 + 1, omega (arith, lb), depth_is whole (s + 1 + 1) d (d + 1 - 1 + 0) (omega arith) end.1.1.0));
          }) in
          let dropped : AgreesWithDepths whole s (word_flow drop) (d + 1) = record { enough = omega arith; arrives = depth_is whole (s + 1) d (d + 1 - 1 + 0) (omega arith) end.1.0 } in
          let back_again : AgreesWithDepths whole (s + 1) (word_flow (jump (negsuc (length c + length b + 2)))) d = record {
            enough = omega arith;
            arrives = (place, omega (arith, lb, lc), depth_is whole place d (d - 0 + 0) (omega arith) begin_c);
          } in
          let nothing : AgreesWithDepths whole (s + 1 + 1) (word_flow (literal Nil)) d = record { enough = omega arith; arrives = depth_is whole (s + 1 + 1 + 1) (d + 1) (d - 0 + 1) (omega arith) end.1.1.1.0 } in
          let tail_fits : AllFit whole (q + 1 + length b) tail = fit_at whole tail s (q + 1 + length b) (omega (arith, lb)) (dropped, (back_again, (nothing, tt))) in
          let rest = fit_join whole (q + 1) b tail (y.fits whole (q + 1) body_front) tail_fits in
          fit_join whole place c (top ∷ (b ++ tail)) (x.fits whole place front) (fit_at whole (top ∷ (b ++ tail)) q (place + length c) (omega (arith, lc)) (head, rest));
    }

-- Messages and their arguments.
length_more : (d n : ℕ) → d + suc n ≡ d + 1 + n
length_more d n = omega arith

goes_false : (n : ℕ) → word_flow (jump_false n) ≡ flow 1 0 (branches (pos n))
goes_false n = refl

goes_true : (n : ℕ) → word_flow (jump_true n) ≡ flow 1 0 (branches (pos n))
goes_true n = refl

to_flow : (up : Bool) (text : List ℕ) (n : ℕ) → word_flow (to up text n) ≡ flow (n + 1) 1 on
to_flow true text n = refl
to_flow false text n = refl

-- a message with its arguments in place
to_is : (up : Bool) (text : List ℕ) (d n : ℕ) → 0 < d → IsCode (line (d + n) (to up text n) ∷ []) (d + n) d
to_is up text d n le = one (d + n) d (to up text n) (n + 1) 1 (to_flow up text n) (omega (arith, le)) (omega (arith, le))

starts_at : (ls : List Line) (d e k : ℕ) → d ≡ e → IsCode ls d k → IsCode ls e k
starts_at ls d e k q c = subst (λ n. IsCode ls n k) q c

ends_at : (ls : List Line) (d k m : ℕ) → k ≡ m → IsCode ls d k → IsCode ls d m
ends_at ls d k m q c = subst (λ n. IsCode ls d n) q c

-- a value that stands for a block that isn't there
plain_is : (d : ℕ) (v : Value) → IsCode (plain d v) d (d + 1)
plain_is d v = one d (d + 1) (literal v) 0 1 refl (omega arith) (omega arith)

-- a message to a receiver that stays
kept_is : (d : ℕ) (ls : List Line) → 0 < d → IsCode ls (d + 1) (d + 1) → IsCode (kept d ls) d d
kept_is d ls le c =
    let dropped = one (d + 1) d drop 1 0 refl (omega arith) (omega arith) in
    join (line d repeat ∷ []) (ls ++ line (d + 1) drop ∷ []) d (d + 1) d (one d (d + 1) repeat 1 2 refl le (omega (arith, le))) (join ls (line (d + 1) drop ∷ []) (d + 1) (d + 1) d c dropped)

-- each block of a message
abbrev pub AreBlocks : ℕ → List (List Line) → Type 0
AreBlocks d [] = Unit {0}
AreBlocks d (b ∷ bs) = IsCode b d (d + 1) × AreBlocks d bs

inlined_is : (d : ℕ) (i : Option Inlining) (r : List Line) (bs : List (List Line)) → IsCode r d (d + 1) → AreBlocks d bs → IsCode (inlined d i r bs) d (d + 1)
inlined_is d (Some IfTrue) r (v ∷ []) x y = either_is jump_false goes_false d r v (plain d Nil) x y.0 (plain_is d Nil)
inlined_is d (Some IfFalse) r (v ∷ []) x y = either_is jump_true goes_true d r v (plain d Nil) x y.0 (plain_is d Nil)
inlined_is d (Some IfTrueIfFalse) r (a ∷ b ∷ []) x y = either_is jump_false goes_false d r a b x y.0 y.1.0
inlined_is d (Some IfFalseIfTrue) r (a ∷ b ∷ []) x y = either_is jump_true goes_true d r a b x y.0 y.1.0
inlined_is d (Some And) r (v ∷ []) x y = either_is jump_false goes_false d r v (plain d (Boolean false)) x y.0 (plain_is d (Boolean false))
inlined_is d (Some Or) r (v ∷ []) x y = either_is jump_true goes_true d r v (plain d (Boolean true)) x y.0 (plain_is d (Boolean true))
inlined_is d (Some WhileTrue) r (b ∷ []) x y = loop_is jump_false goes_false d r b x y.0
inlined_is d (Some WhileFalse) r (b ∷ []) x y = loop_is jump_true goes_true d r b x y.0
inlined_is d None r bs x y = x
inlined_is d (Some IfTrue) r [] x y = x
inlined_is d (Some IfTrue) r (a ∷ b ∷ bs) x y = x
inlined_is d (Some IfFalse) r [] x y = x
inlined_is d (Some IfFalse) r (a ∷ b ∷ bs) x y = x
inlined_is d (Some IfTrueIfFalse) r [] x y = x
inlined_is d (Some IfTrueIfFalse) r (a ∷ []) x y = x
inlined_is d (Some IfTrueIfFalse) r (a ∷ b ∷ c ∷ bs) x y = x
inlined_is d (Some IfFalseIfTrue) r [] x y = x
inlined_is d (Some IfFalseIfTrue) r (a ∷ []) x y = x
inlined_is d (Some IfFalseIfTrue) r (a ∷ b ∷ c ∷ bs) x y = x
inlined_is d (Some And) r [] x y = x
inlined_is d (Some And) r (a ∷ b ∷ bs) x y = x
inlined_is d (Some Or) r [] x y = x
inlined_is d (Some Or) r (a ∷ b ∷ bs) x y = x
inlined_is d (Some WhileTrue) r [] x y = x
inlined_is d (Some WhileTrue) r (a ∷ b ∷ bs) x y = x
inlined_is d (Some WhileFalse) r [] x y = x
inlined_is d (Some WhileFalse) r (a ∷ b ∷ bs) x y = x

append_nil : (ls : List Line) → ls ++ [] ≡ ls
append_nil [] = refl
append_nil (l ∷ ls) = ap (λ (xs : List Line). l ∷ xs) (append_nil ls)

kept_sent : (d : ℕ) (m : Message) → IsCode (sent false (d + 2) m) (d + 2) (d + 2) → IsCode (kept (d + 1) (sent false (d + 2) m)) (d + 1) (d + 1)
kept_sent d m c =
    let e : d + 2 ≡ d + 1 + 1 = omega arith in
    kept_is (d + 1) (sent false (d + 2) m) (omega arith) (starts_at (sent false (d + 2) m) (d + 2) (d + 1 + 1) (d + 1 + 1) e (ends_at (sent false (d + 2) m) (d + 2) (d + 2) (d + 1 + 1) e c))

-- the further messages of a cascade, where there are any
abbrev FurtherIs : ℕ → Further → Type 0
FurtherIs d no_further = Unit {0}
FurtherIs d (further place m ms) = IsCode (further_sent d (further place m ms)) d d

sent_line : (up : Bool) (text : List ℕ) (d : ℕ) → 0 < d → IsCode (line d (to up text 0) ∷ []) (d + 0) d
sent_line up text d le = starts_at (line d (to up text 0) ∷ []) d (d + 0) d (omega arith) (one d d (to up text 0) 1 1 (to_flow up text 0) le (omega (arith, le)))

choose : (b : Bool) (x y : List Line) (d k : ℕ) → IsCode x d k → IsCode y d k → IsCode (one_of b x y) d k
choose true x y d k a b = a
choose false x y d k a b = b

-- The code of an expression leaves one operand.
mutual
  pub code_is : (d : ℕ) (e : Expression) → IsCode (code d e) d (d + 1)
  code_is d (Expression.number value place minus) = one d (d + 1) _ 0 1 refl (omega arith) (omega arith)
  code_is d (Expression.symbol n) = one d (d + 1) (symbol n.text) 0 1 refl (omega arith) (omega arith)
  code_is d (name n) = one d (d + 1) (variable n) 0 1 refl (omega arith) (omega arith)
  code_is d (parenthesis opening e closing) = code_is d e
  code_is d (empty_block opening closing) = plain_is d Nil
  code_is d (block opening ss closing) = statements_is d ss
  code_is d (send e m) =
      choose (is_inlined e m) (inlined d (inlining_of m) (code d e) (blocks d m)) (code d e ++ sent (is_super e) (d + 1) m) d (d + 1) (inlined_is d (inlining_of m) (code d e) (blocks d m) (code_is d e) (blocks_are d m)) (join (code d e) (sent (is_super e) (d + 1) m) d (d + 1) (d + 1) (code_is d e) (sent_is (is_super e) (d + 1) m (omega arith)))
  code_is d (cascade e m no_further) =
      join (code d e) (kept (d + 1) (sent false (d + 2) m) ++ []) d (d + 1) (d + 1) (code_is d e) (subst (λ ls. IsCode ls (d + 1) (d + 1)) (sym (append_nil (kept (d + 1) (sent false (d + 2) m)))) (kept_sent d m (sent_is false (d + 2) m (omega arith))))
  code_is d (cascade e m (further place next ms)) =
      join (code d e) (kept (d + 1) (sent false (d + 2) m) ++ further_sent (d + 1) (further place next ms)) d (d + 1) (d + 1) (code_is d e) (join (kept (d + 1) (sent false (d + 2) m)) (further_sent (d + 1) (further place next ms)) (d + 1) (d + 1) (d + 1) (kept_sent d m (sent_is false (d + 2) m (omega arith))) (further_is (d + 1) (further place next ms) (omega arith)))
  code_is d (Expression.assign n place e) = join (code d e) (line (d + 1) (store n) ∷ []) d (d + 1) (d + 1) (code_is d e) (one (d + 1) (d + 1) (store n) 1 1 refl (omega arith) (omega arith))

  pub sent_is : (up : Bool) (d : ℕ) (m : Message) → 0 < d → IsCode (sent up d m) d d
  sent_is up d (unary n) le = starts_at (line d (to up n.text 0) ∷ []) (d + 0) d d (omega arith) (sent_line up n.text d le)
  sent_is up d (Message.binary n e) le = join (code d e) (line (d + 1) (to up n.text 1) ∷ []) d (d + 1) d (code_is d e) (to_is up n.text d 1 le)
  sent_is up d (keywords ps) le = arguments_is d ps (line (d + count ps) (to up (joined ps) (count ps)) ∷ []) d (to_is up (joined ps) d (count ps) le)

  arguments_is : (d : ℕ) (ps : Parts) (rest : List Line) (k : ℕ) → IsCode rest (d + count ps) k → IsCode (arguments d ps ++ rest) d k
  arguments_is d no_parts rest k c = starts_at rest (d + 0) d k (omega arith) c
  arguments_is d (part n e ps) rest k c =
      subst (λ ls. IsCode ls d k) (sym (append_assoc (code d e) (arguments (d + 1) ps) rest)) (join (code d e) (arguments (d + 1) ps ++ rest) d (d + 1) k (code_is d e) (arguments_is (d + 1) ps rest k (starts_at rest (d + suc (count ps)) (d + 1 + count ps) k (length_more d (count ps)) c)))

  blocks_are : (d : ℕ) (m : Message) → AreBlocks d (blocks d m)
  blocks_are d (unary n) = tt
  blocks_are d (Message.binary n e) = tt
  blocks_are d (keywords ps) = part_blocks_are d ps

  part_blocks_are : (d : ℕ) (ps : Parts) → AreBlocks d (part_blocks d ps)
  part_blocks_are d no_parts = tt
  part_blocks_are d (part n e ps) = (code_is d e, part_blocks_are d ps)

  further_is : (d : ℕ) (ms : Further) → 0 < d → FurtherIs d ms
  further_is d no_further le = tt
  further_is d (further place m no_further) le = sent_is false d m le
  further_is d (further place m (further after next ms)) le =
      join (kept d (sent false (d + 1) m)) (further_sent d (further after next ms)) d d d (kept_is d (sent false (d + 1) m) le (sent_is false (d + 1) m (omega arith))) (further_is d (further after next ms) le)

  pub statements_is : (d : ℕ) (ss : Statements) → IsCode (statements_value d ss) d (d + 1)
  statements_is d (last e period) = code_is d e
  statements_is d (answer caret e period) = join (code d e) (line (d + 1) return ∷ []) d (d + 1) (d + 1) (code_is d e) (ending (d + 1) (d + 1) (omega arith))
  statements_is d (statement e period ss) =
      join (code d e) (line (d + 1) drop ∷ statements_value d ss) d (d + 1) (d + 1) (code_is d e) (join (line (d + 1) drop ∷ []) (statements_value d ss) (d + 1) d (d + 1) (one (d + 1) d drop 1 0 refl (omega arith) (omega arith)) (statements_is d ss))
