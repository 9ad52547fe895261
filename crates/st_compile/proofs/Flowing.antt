-- Where lines fit their depths, so do their instructions.
use Rattle.std.proofs.Common.{◌≡◌, ℕ, zero, suc, ◌+◌, List, [], ◌∷◌, map, Some, slice_get, refl, sym, ap, ◌∙◌, subst, arith}
use Rattle.std.proofs.lemmas.Option.{same_Some, none-some}
use Rattle.st_classes.specs.declared.instructions.Instruction.{Instruction}
use Rattle.st_classes.specs.Methods.{DepthAt, AgreesWithDepths}
use Rattle.st_classes.specs.OperandFlow.{Flow, flow_of}
use Rattle.st_compile.specs.NameResolution.{Scope, instruction_of, instructions_of}
use Rattle.st_compile.specs.DraftCode.{Line}
use Rattle.st_compile.proofs.Fitting.{AllFit}
use Rattle.st_compile.proofs.Resolving.{instructions-parts}
use Rattle.st_compile.proofs.WordFlows.{word_flow, word_flows}

-- the line of an instruction
record LineAt (names : List (List ℕ)) (scope : Scope) (ls : List Line) (k : ℕ) (i : Instruction) : Type 0 where
  line : Line
  at : slice_get ls k ≡ Some line
  is : instruction_of names scope line.word ≡ Some i

line_at : (names : List (List ℕ)) (scope : Scope) (ls : List Line) (code : List Instruction) → instructions_of names scope ls ≡ Some code → (k : ℕ) (i : Instruction) → slice_get code k ≡ Some i → LineAt names scope ls k i
line_at names scope [] code h k i e =
    let none : slice_get [] k ≡ Some i = rw (← same_Some [] code h) at e in
    absurd (none-some i none)
line_at names scope (l ∷ ls) code h zero i e =
    let p = instructions-parts names scope l ls code h in
    let s : Some p.head ≡ Some i = rw p.whole at e in
    record { line = l; at = refl; is = p.head_is ∙ s }
line_at names scope (l ∷ ls) code h (suc k) i e =
    let p = instructions-parts names scope l ls code h in
    let s : slice_get p.tail k ≡ Some i = rw p.whole at e in
    let r = line_at names scope ls p.tail p.tail_is k i s in
    record { line = r.line; at = r.at; is = r.is }

fit_at : (whole : List ℕ) (ls : List Line) (place k : ℕ) (l : Line) → AllFit whole place ls → slice_get ls k ≡ Some l → AgreesWithDepths whole (place + k) (word_flow l.word) l.depth
fit_at whole [] place k l f e = absurd (none-some l e)
fit_at whole (x ∷ ls) place zero l f e =
    let s : x ≡ l = same_Some x l e in
    let z : place ≡ place + 0 = omega arith in
    subst (λ n. AgreesWithDepths whole n (word_flow l.word) l.depth) z (subst (λ (y : Line). AgreesWithDepths whole place (word_flow y.word) y.depth) s f.0)
fit_at whole (x ∷ ls) place (suc k) l f e =
    let z : place + 1 + k ≡ place + suc k = omega arith in
    subst (λ n. AgreesWithDepths whole n (word_flow l.word) l.depth) z (fit_at whole ls (place + 1) k l f.1 e)

depth_of : (ls : List Line) (k : ℕ) (l : Line) (depth : ℕ) → slice_get ls k ≡ Some l → slice_get (map (λ x. x.depth) ls) k ≡ Some depth → l.depth ≡ depth
depth_of [] k l depth e d = absurd (none-some l e)
depth_of (x ∷ ls) zero l depth e d = ap (λ (y : Line). y.depth) (sym (same_Some x l e)) ∙ same_Some x.depth depth d
depth_of (x ∷ ls) (suc k) l depth e d = depth_of ls k l depth e d

-- where lines fit their depths, so do their instructions
pub code_fits : (names : List (List ℕ)) (scope : Scope) (ls : List Line) (code : List Instruction) → instructions_of names scope ls ≡ Some code → AllFit (map (λ x. x.depth) ls) 0 ls → (place : ℕ) (i : Instruction) (depth : ℕ) → slice_get code place ≡ Some i → DepthAt (map (λ x. x.depth) ls) place depth → AgreesWithDepths (map (λ x. x.depth) ls) place (flow_of i) depth
code_fits names scope ls code h f place i depth e d =
    let depths : List ℕ = map (λ x. x.depth) ls in
    let r = line_at names scope ls code h place i e in
    let z : 0 + place ≡ place = omega arith in
    let here : AgreesWithDepths depths place (word_flow r.line.word) r.line.depth = subst (λ n. AgreesWithDepths depths n (word_flow r.line.word) r.line.depth) z (fit_at depths ls 0 place r.line f r.at) in
    let flows : flow_of i ≡ word_flow r.line.word = word_flows names scope r.line.word i r.is in
    subst (λ (x : Flow). AgreesWithDepths depths place x depth) (sym flows) (subst (λ n. AgreesWithDepths depths place (word_flow r.line.word) n) (depth_of ls place r.line depth r.at d) here)
