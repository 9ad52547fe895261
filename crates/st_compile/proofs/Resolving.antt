-- Words and their instructions.
use Rattle.std.proofs.Common.{◌≡◌, ℕ, suc, List, [], ◌∷◌, ◌++◌, length, Option, Some, None, refl, sym, ap, ◌∙◌}
use Rattle.std.specs.Option.{option_map, option_and_then}
use Rattle.std.proofs.lemmas.Option.{same_Some, none-some}
use Rattle.st_classes.specs.declared.instructions.Instruction.{Instruction}
use Rattle.st_classes.specs.declared.instructions.Instruction.TheVariants.{PushLit, Send, SuperSend}
use Rattle.st_classes.specs.declared.values.Value.TheVariants.{Sym}
use Rattle.st_classes.specs.Kernel.{selector}
use Rattle.st_classes.specs.Selectors.{place_of}
use Rattle.st_compile.specs.DraftCode.{Word, Line, literal, symbol, receiver, variable, store, drop, repeat, message, super_message, jump, jump_false, jump_true, return}
use Rattle.st_compile.specs.NameResolution.{Scope, instruction_of, instructions_of}
use Rattle.st_compile.proofs.Places.{place-append}

-- more names change no number
number-append : (f : ℕ → Instruction) (names more : List (List ℕ)) (text : List ℕ) (i : Instruction) → option_map f (place_of names text) ≡ Some i → option_map f (place_of (names ++ more) text) ≡ Some i
number-append f names more text i h = by (place_of names text) refl
  where
    by : (o : Option ℕ) → place_of names text ≡ o → option_map f (place_of (names ++ more) text) ≡ Some i
    by None e =
        let k : None ≡ Some i = sym (ap (option_map f) e) ∙ h in
        absurd (none-some i k)
    by (Some s) e = ap (option_map f) (place-append names more text s e) ∙ (sym (ap (option_map f) e) ∙ h)

-- more names change no instruction
pub instruction-append : (names more : List (List ℕ)) (scope : Scope) (word : Word) (i : Instruction) → instruction_of names scope word ≡ Some i → instruction_of (names ++ more) scope word ≡ Some i
instruction-append names more scope (literal v) i h = h
instruction-append names more scope (symbol text) i h = number-append (λ s. PushLit (Sym (selector s))) names more text i h
instruction-append names more scope receiver i h = h
instruction-append names more scope (variable n) i h = h
instruction-append names more scope (store n) i h = h
instruction-append names more scope drop i h = h
instruction-append names more scope repeat i h = h
instruction-append names more scope (message text n) i h = number-append (λ s. Send (selector s) n) names more text i h
instruction-append names more scope (super_message text n) i h = number-append (λ s. SuperSend (selector s) n) names more text i h
instruction-append names more scope (jump d) i h = h
instruction-append names more scope (jump_false d) i h = h
instruction-append names more scope (jump_true d) i h = h
instruction-append names more scope return i h = h

-- an instruction before others
abbrev pub before : Instruction → Option (List Instruction) → Option (List Instruction)
before i rest = option_map (λ code. i ∷ code) rest

-- what the instructions of a line and others are
pub record Parts (names : List (List ℕ)) (scope : Scope) (line : Line) (lines : List Line) (code : List Instruction) : Type 0 where
  pub head : Instruction
  pub tail : List Instruction
  pub head_is : instruction_of names scope line.word ≡ Some head
  pub tail_is : instructions_of names scope lines ≡ Some tail
  pub whole : code ≡ head ∷ tail

pub instructions-parts : (names : List (List ℕ)) (scope : Scope) (line : Line) (lines : List Line) (code : List Instruction) → instructions_of names scope (line ∷ lines) ≡ Some code → Parts names scope line lines code
instructions-parts names scope line lines code h = by (instruction_of names scope line.word) refl (instructions_of names scope lines) refl h
  where
    by : (o : Option Instruction) → instruction_of names scope line.word ≡ o → (r : Option (List Instruction)) → instructions_of names scope lines ≡ r → option_and_then (λ i. before i r) o ≡ Some code → Parts names scope line lines code
    by None e r q k = absurd (none-some code k)
    by (Some i) e None q k = absurd (none-some code k)
    by (Some i) e (Some rest) q k = record { head = i; tail = rest; head_is = e; tail_is = q; whole = sym (same_Some (i ∷ rest) code k) }

pub instructions-whole : (names : List (List ℕ)) (scope : Scope) (line : Line) (lines : List Line) (i : Instruction) (rest : List Instruction) → instruction_of names scope line.word ≡ Some i → instructions_of names scope lines ≡ Some rest → instructions_of names scope (line ∷ lines) ≡ Some (i ∷ rest)
instructions-whole names scope line lines i rest e q = ap (option_and_then (λ (j : Instruction). before j (instructions_of names scope lines))) e ∙ ap (before i) q

pub instructions-append : (names more : List (List ℕ)) (scope : Scope) (lines : List Line) (code : List Instruction) → instructions_of names scope lines ≡ Some code → instructions_of (names ++ more) scope lines ≡ Some code
instructions-append names more scope [] code h = h
instructions-append names more scope (line ∷ lines) code h =
    let p = instructions-parts names scope line lines code h in
    instructions-whole (names ++ more) scope line lines p.head p.tail (instruction-append names more scope line.word p.head p.head_is) (instructions-append names more scope lines p.tail p.tail_is) ∙ ap Some (sym p.whole)

-- one line more
pub instructions-push : (names : List (List ℕ)) (scope : Scope) (lines : List Line) (code : List Instruction) (line : Line) (i : Instruction) → instructions_of names scope lines ≡ Some code → instruction_of names scope line.word ≡ Some i → instructions_of names scope (lines ++ line ∷ []) ≡ Some (code ++ i ∷ [])
instructions-push names scope [] code line i h q =
    let e : code ≡ [] = sym (same_Some [] code h) in
    rw e (instructions-whole names scope line [] i [] q refl)
instructions-push names scope (l ∷ lines) code line i h q =
    let p = instructions-parts names scope l lines code h in
    instructions-whole names scope l (lines ++ line ∷ []) p.head (p.tail ++ i ∷ []) p.head_is (instructions-push names scope lines p.tail line i p.tail_is q) ∙ ap (λ (is : List Instruction). Some (is ++ i ∷ [])) (sym p.whole)

pub instructions-length : (names : List (List ℕ)) (scope : Scope) (lines : List Line) (code : List Instruction) → instructions_of names scope lines ≡ Some code → length code ≡ length lines
instructions-length names scope [] code h = ap length (sym (same_Some [] code h))
instructions-length names scope (line ∷ lines) code h =
    let p = instructions-parts names scope line lines code h in
    let e = instructions-length names scope lines p.tail p.tail_is in
    rw p.whole (ap suc e)
