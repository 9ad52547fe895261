-- Each way through the code of an expression leaves one operand.
use Rattle.std.proofs.Common.{◌≡◌, ℕ, zero, suc, ◌+◌, List, [], ◌∷◌, ◌++◌, length, map, Some, slice_get, refl, sym, ap, ◌∙◌, subst, arith, append_assoc, length-append}
use Rattle.std.proofs.lemmas.Option.{same_Some, none-some, slice_get_within}
use Rattle.st_classes.specs.declared.instructions.Instruction.{Instruction}
use Rattle.st_classes.specs.Methods.{DepthAt, AgreesWithDepths}
use Rattle.st_classes.specs.OperandFlow.{Flow, flow_of, FlowPath}
use Rattle.st_classes.proofs.Flowing.{stays_inside, way_keeps}
use Rattle.st_compile.specs.DraftCode.{Line}
use Rattle.st_compile.specs.Equations.{code, statements_value}
use Rattle.st_compile.specs.FlowLaws.{LeavesOne, CodesLeaveOne}
use Rattle.st_compile.specs.NameResolution.{Scope, instructions_of}
use Rattle.st_compile.proofs.Fitting.{depths, HasDepths, AllFit, IsCode, begins, length_depths, code_is, statements_is}
use Rattle.st_compile.proofs.Resolving.{instructions-length}
use Rattle.st_compile.proofs.WordFlows.{word_flow, flows, instructions_flow}

-- what stands behind a list
pub at_seam : {T : Type 0} (front : List T) (x : T) (rest : List T) → slice_get (front ++ x ∷ rest) (length front) ≡ Some x
at_seam [] x rest = refl
at_seam (y ∷ front) x rest = at_seam front x rest

stands_behind : (front ns : List ℕ) → HasDepths (front ++ ns) (length front) ns
stands_behind front [] = tt
stands_behind front (n ∷ ns) =
    let rest = stands_behind (front ++ n ∷ []) ns in
    let e = append_assoc front (n ∷ []) ns in
    let there : HasDepths (front ++ n ∷ ns) (length (front ++ n ∷ [])) ns = subst (λ ls. HasDepths ls (length (front ++ n ∷ [])) ns) e rest in
    let q : length (front ++ n ∷ []) ≡ length front + 1 = length-append front (n ∷ []) in
    (at_seam front n ns, subst (λ p. HasDepths (front ++ n ∷ ns) p ns) q there)

-- a list stands in itself
pub stands : (ns : List ℕ) → HasDepths ns 0 ns
stands ns = stands_behind [] ns

-- each line fits where it stands
fit_get : (whole : List ℕ) (place : ℕ) (ls : List Line) (p : ℕ) (l : Line) → AllFit whole place ls → slice_get ls p ≡ Some l → AgreesWithDepths whole (place + p) (word_flow l.word) l.depth
fit_get whole place [] zero l h e = absurd (none-some l e)
fit_get whole place [] (suc p) l h e = absurd (none-some l e)
fit_get whole place (x ∷ ls) zero l h e =
    let q = same_Some x l e in
    let here : AgreesWithDepths whole place (word_flow l.word) l.depth = subst (λ y. AgreesWithDepths whole place (word_flow y.word) y.depth) q h.0 in
    subst (λ n. AgreesWithDepths whole n (word_flow l.word) l.depth) (omega arith) here
fit_get whole place (x ∷ ls) (suc p) l h e =
    let q : place + 1 + p ≡ place + suc p = omega arith in
    subst (λ n. AgreesWithDepths whole n (word_flow l.word) l.depth) q (fit_get whole (place + 1) ls p l h.1 e)

-- each line of a whole code
pub fit_here : (whole : List ℕ) (ls : List Line) (p : ℕ) (l : Line) → AllFit whole 0 ls → slice_get ls p ≡ Some l → AgreesWithDepths whole p (word_flow l.word) l.depth
fit_here whole ls p l h e =
    let q : 0 + p ≡ p = omega arith in
    subst (λ n. AgreesWithDepths whole n (word_flow l.word) l.depth) q (fit_get whole 0 ls p l h e)

-- the line behind a flow and a depth
line_at : (ls : List Line) (k p : ℕ) (f : Flow) (d : ℕ) → slice_get (flows ls) p ≡ Some f → DepthAt (depths ls ++ k ∷ []) p d → (l : Line) × (slice_get ls p ≡ Some l) × (word_flow l.word ≡ f) × (l.depth ≡ d)
line_at [] k zero f d e h = absurd (none-some f e)
line_at [] k (suc p) f d e h = absurd (none-some f e)
line_at (l ∷ ls) k zero f d e h = (l, refl, same_Some (word_flow l.word) f e, same_Some l.depth d h)
line_at (l ∷ ls) k (suc p) f d e h = line_at ls k p f d e h

fit_same : (whole : List ℕ) (p : ℕ) (f g : Flow) (m n : ℕ) → f ≡ g → m ≡ n → AgreesWithDepths whole p f m → AgreesWithDepths whole p g n
fit_same whole p f g m n e q h = subst (λ x. AgreesWithDepths whole p g x) q (subst (λ x. AgreesWithDepths whole p x m) e h)

flows_fit : (ls : List Line) (d k : ℕ) → IsCode ls d k → (p : ℕ) (f : Flow) (n : ℕ) → slice_get (flows ls) p ≡ Some f → DepthAt (depths ls ++ k ∷ []) p n → AgreesWithDepths (depths ls ++ k ∷ []) p f n
flows_fit ls d k c p f n e h =
    let whole = depths ls ++ k ∷ [] in
    let l = line_at ls k p f n e h in
    let fit = fit_here whole ls p l.0 (c.fits whole 0 (stands whole)) l.1 in
    fit_same whole p (word_flow l.0.word) f l.0.depth n l.2 l.3 fit

-- a way through a code comes to places of the code with their depths
pub way_in : (ls : List Line) (d k : ℕ) → IsCode ls d k → (steps place left : ℕ) → FlowPath (flows ls) steps 0 d place left → DepthAt (depths ls ++ k ∷ []) place left
way_in ls d k c steps place left w =
    let whole = depths ls ++ k ∷ [] in
    way_keeps (flows ls) whole (flows_fit ls d k c) steps 0 d place left (begins ls d k whole 0 (k ∷ []) c (stands whole)) w

-- an instruction's flow stands at its place
flow_got : (is : List Instruction) (place : ℕ) (i : Instruction) → slice_get is place ≡ Some i → slice_get (map flow_of is) place ≡ Some (flow_of i)
flow_got [] place i h = absurd (none-some i h)
flow_got (j ∷ is) zero i h = ap (λ k. Some (flow_of k)) (same_Some j i h)
flow_got (j ∷ is) (suc place) i h = flow_got is place i h

leaves_one : (names : List (List ℕ)) (scope : Scope) (ls : List Line) (d : ℕ) (is : List Instruction) → IsCode ls d (d + 1) → instructions_of names scope ls ≡ Some is → LeavesOne is d
leaves_one names scope ls d is c h =
    let q : map flow_of is ≡ flows ls = instructions_flow names scope ls is h in
    let long : length is ≡ length ls = instructions-length names scope ls is h in
    let whole = depths ls ++ (d + 1) ∷ [] in
    let same : length is ≡ length (depths ls) = long ∙ sym (length_depths ls) in
    let size : length whole ≡ length is + 1 = omega (arith, length-append (depths ls) ((d + 1) ∷ []), same) in
    let end : DepthAt whole (length is) (d + 1) = subst (λ n. DepthAt whole n (d + 1)) (sym same) (at_seam (depths ls) (d + 1) []) in
    let start : DepthAt whole 0 d = begins ls d (d + 1) whole 0 ((d + 1) ∷ []) c (stands whole) in
    let there : (steps place left : ℕ) → FlowPath (map flow_of is) steps 0 d place left → DepthAt whole place left = λ steps place left w. way_in ls d (d + 1) c steps place left (subst (λ fs. FlowPath fs steps 0 d place left) q w) in
    let got : (place : ℕ) (i : Instruction) → slice_get is place ≡ Some i → slice_get (flows ls) place ≡ Some (flow_of i) = λ place i e. subst (λ fs. slice_get fs place ≡ Some (flow_of i)) q (flow_got is place i e) in
    let fit : (steps place left : ℕ) (i : Instruction) → FlowPath (map flow_of is) steps 0 d place left → slice_get is place ≡ Some i → AgreesWithDepths whole place (flow_of i) left = λ steps place left i w e. flows_fit ls d (d + 1) c place (flow_of i) left (got place i e) (there steps place left w) in
    record {
      never_misses = λ steps place left i w e. (fit steps place left i w e).enough;
      lands = λ steps place left i w e. stays_inside whole (length is + 1) (flow_of i).goes place _ size (fit steps place left i w e).arrives;
      inside = λ steps place left w. omega (arith, size, slice_get_within whole place left (there steps place left w));
      one_more = λ steps left w. same_Some left (d + 1) (sym (there steps (length is) left w) ∙ end);
      as_before = λ steps left w. same_Some left d (sym (there steps 0 left w) ∙ start);
    }

pub codes_leave_one : CodesLeaveOne
codes_leave_one = record {
  expressions = λ names scope operands e is h. leaves_one names scope (code operands e) operands is (code_is operands e) h;
  blocks = λ names scope operands ss is h. leaves_one names scope (statements_value operands ss) operands is (statements_is operands ss) h;
}
