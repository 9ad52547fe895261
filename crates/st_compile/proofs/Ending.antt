-- The lines of a method fit their depths.
use Rattle.std.proofs.Common.{◌≡◌, ℕ, List, [], ◌∷◌, ◌++◌, Option, Some, None, refl, sym, ap, ◌∙◌, subst, arith, append_assoc}
use Rattle.st_classes.specs.Methods.{DepthAt}
use Rattle.st_reader.specs.Syntax.{Method, Expression, Statements, last, answer, statement}
use Rattle.st_compile.specs.DraftCode.{Line, line, receiver, drop, return}
use Rattle.st_compile.specs.Equations.{code, body, method_code}
use Rattle.st_compile.proofs.Fitting.{depths, HasDepths, AllFit, IsCode, begins, fit_join, depths_append, join, one, code_is}
use Rattle.st_compile.proofs.Leaving.{stands}

-- The code of a method is a code that comes to an end with one operand, and then an answer.
record Ending (ls : List Line) : Type 0 where
  front : List Line
  is : IsCode front 0 1
  whole : ls ≡ front ++ line 1 return ∷ []

-- a dropped value before others
dropped : (e : Expression) (rest : List Line) (k : ℕ) → IsCode rest 0 k → IsCode (code 0 e ++ line 1 drop ∷ rest) 0 k
dropped e rest k c = join (code 0 e) (line 1 drop ∷ rest) 0 1 k (code_is 0 e) (join (line 1 drop ∷ []) rest 1 0 k (one 1 0 drop 1 0 refl (omega arith) refl) c)

receiver_is : IsCode (line 0 receiver ∷ []) 0 1
receiver_is = one 0 1 receiver 0 1 refl (omega arith) refl

body_ends : (ss : Statements) → Ending (body ss)
body_ends (last e period) =
    record { front = code 0 e ++ line 1 drop ∷ line 0 receiver ∷ []; is = dropped e (line 0 receiver ∷ []) 1 receiver_is; whole = sym (append_assoc (code 0 e) (line 1 drop ∷ line 0 receiver ∷ []) (line 1 return ∷ [])) }
body_ends (answer caret e period) = record { front = code 0 e; is = code_is 0 e; whole = refl }
body_ends (statement e period ss) =
    let b = body_ends ss in
    record {
      front = code 0 e ++ line 1 drop ∷ b.front;
      is = dropped e b.front 1 b.is;
      whole = ap (λ (ls : List Line). code 0 e ++ line 1 drop ∷ ls) b.whole ∙ sym (append_assoc (code 0 e) (line 1 drop ∷ b.front) (line 1 return ∷ []));
    }

method_ends : (m : Method) → Ending (method_code m)
method_ends m = by m.body refl
  where
    by : (o : Option Statements) → m.body ≡ o → Ending (method_code m)
    by None e = rw e (record { front = line 0 receiver ∷ []; is = receiver_is; whole = refl })
    by (Some ss) e = rw e (body_ends ss)

-- a code and an answer, by themselves
ending_fits : (front : List Line) → IsCode front 0 1 → AllFit (depths (front ++ line 1 return ∷ [])) 0 (front ++ line 1 return ∷ [])
ending_fits front c =
    let whole = depths (front ++ line 1 return ∷ []) in
    let e : depths (front ++ line 1 return ∷ []) ≡ depths front ++ 1 ∷ [] = depths_append front (line 1 return ∷ []) in
    let here : HasDepths whole 0 (depths front ++ 1 ∷ []) = subst (HasDepths whole 0) e (stands whole) in
    fit_join whole 0 front (line 1 return ∷ []) (c.fits whole 0 here) (record { enough = omega arith; arrives = tt }, tt)

pub all_fit : (m : Method) → AllFit (depths (method_code m)) 0 (method_code m)
all_fit m =
    let e = method_ends m in
    subst (λ ls. AllFit (depths ls) 0 ls) (sym e.whole) (ending_fits e.front e.is)

pub begins_empty : (m : Method) → DepthAt (depths (method_code m)) 0 0
begins_empty m =
    let e = method_ends m in
    let whole = depths (e.front ++ line 1 return ∷ []) in
    let q : depths (e.front ++ line 1 return ∷ []) ≡ depths e.front ++ 1 ∷ [] = depths_append e.front (line 1 return ∷ []) in
    let here : HasDepths whole 0 (depths e.front ++ 1 ∷ []) = subst (HasDepths whole 0) q (stands whole) in
    subst (λ ls. DepthAt (depths ls) 0 0) (sym e.whole) (begins e.front 0 1 whole 0 (1 ∷ []) e.is here)
