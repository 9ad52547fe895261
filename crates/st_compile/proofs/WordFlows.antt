-- What a word takes and gives and where it goes, and that its instruction does the same.
use Rattle.std.proofs.Common.{◌≡◌, ℕ, ◌+◌, pos, List, [], ◌∷◌, map, Option, Some, refl, sym, ap}
use Rattle.std.specs.Option.{option_map}
use Rattle.std.proofs.lemmas.Option.{same_Some}
use Rattle.st_classes.specs.declared.values.Value.TheVariants.{Sym}
use Rattle.st_classes.specs.declared.instructions.Instruction.{Instruction}
use Rattle.st_classes.specs.declared.instructions.Instruction.TheVariants.{PushLit, PushSelf, Pop, Dup, Send, SuperSend, Jump, JumpFalse, JumpTrue, Answer}
use Rattle.st_classes.specs.Kernel.{selector}
use Rattle.st_classes.specs.Selectors.{place_of}
use Rattle.st_classes.specs.OperandFlow.{Flow, branches, ends, flow, flow_of, jumps, on}
use Rattle.st_compile.specs.NameResolution.{Scope, instruction_of, instructions_of, pushed, stored}
use Rattle.st_compile.specs.DraftCode.{Word, Line, literal, symbol, receiver, variable, store, drop, repeat, message, super_message, jump, jump_false, jump_true, return}
use Rattle.st_compile.proofs.Naming.{pushed_there, reserved_there, stored_there}
use Rattle.st_compile.proofs.Resolving.{instructions-parts}
use Rattle.st_compile.proofs.There.{IfThere, map_there, there}

-- the flow of each instruction that a word can stand for
abbrev pub word_flow : Word → Flow
word_flow (literal v) = flow 0 1 on
word_flow (symbol text) = flow 0 1 on
word_flow receiver = flow 0 1 on
word_flow (variable n) = flow 0 1 on
word_flow (store n) = flow 1 1 on
word_flow drop = flow 1 0 on
word_flow repeat = flow 1 2 on
word_flow (message text n) = flow (n + 1) 1 on
word_flow (super_message text n) = flow (n + 1) 1 on
word_flow (jump d) = flow 0 0 (jumps d)
word_flow (jump_false d) = flow 1 0 (branches (pos d))
word_flow (jump_true d) = flow 1 0 (branches (pos d))
word_flow return = flow 1 0 ends

-- the flows of a code
abbrev pub flows : List Line → List Flow
flows ls = map (λ l. word_flow l.word) ls

-- an instruction flows so
abbrev Flows : Flow → Instruction → Type 0
Flows f i = flow_of i ≡ f

there_flows : (f : Flow) (i : Instruction) → Flows f i → IfThere (Flows f) (Some i)
there_flows f i h = there (Flows f) i h

placed_flows : (f : Flow) (g : ℕ → Instruction) (o : Option ℕ) → ((s : ℕ) → Flows f (g s)) → IfThere (Flows f) (option_map g o)
placed_flows f g o h = map_there (Flows f) g o (λ s e. h s)

pushed_flows : (scope : Scope) (text : List ℕ) → IfThere (Flows (flow 0 1 on)) (pushed scope text)
pushed_flows scope text = pushed_there (Flows (flow 0 1 on)) scope text (reserved_there (Flows (flow 0 1 on)) refl refl (λ b. refl) refl text) (λ s e. refl) (λ s e. refl) (λ c e. refl)

stored_flows : (scope : Scope) (text : List ℕ) → IfThere (Flows (flow 1 1 on)) (stored scope text)
stored_flows scope text = stored_there (Flows (flow 1 1 on)) scope text (λ s e. refl) (λ s e. refl)

pub word_flows : (names : List (List ℕ)) (scope : Scope) (word : Word) → IfThere (Flows (word_flow word)) (instruction_of names scope word)
word_flows names scope (literal v) = there_flows (flow 0 1 on) (PushLit v) refl
word_flows names scope (symbol text) = placed_flows (flow 0 1 on) (λ s. PushLit (Sym (selector s))) (place_of names text) (λ s. refl)
word_flows names scope receiver = there_flows (flow 0 1 on) PushSelf refl
word_flows names scope (variable n) = pushed_flows scope n.text
word_flows names scope (store n) = stored_flows scope n.text
word_flows names scope drop = there_flows (flow 1 0 on) Pop refl
word_flows names scope repeat = there_flows (flow 1 2 on) Dup refl
word_flows names scope (message text n) = placed_flows (flow (n + 1) 1 on) (λ s. Send (selector s) n) (place_of names text) (λ s. refl)
word_flows names scope (super_message text n) = placed_flows (flow (n + 1) 1 on) (λ s. SuperSend (selector s) n) (place_of names text) (λ s. refl)
word_flows names scope (jump d) = there_flows (flow 0 0 (jumps d)) (Jump d) refl
word_flows names scope (jump_false d) = there_flows (flow 1 0 (branches (pos d))) (JumpFalse d) refl
word_flows names scope (jump_true d) = there_flows (flow 1 0 (branches (pos d))) (JumpTrue d) refl
word_flows names scope return = there_flows (flow 1 0 ends) Answer refl

-- the instructions of a code flow as its words do
pub instructions_flow : (names : List (List ℕ)) (scope : Scope) (ls : List Line) (is : List Instruction) → instructions_of names scope ls ≡ Some is → map flow_of is ≡ flows ls
instructions_flow names scope [] is h = ap (map flow_of) (sym (same_Some [] is h))
instructions_flow names scope (l ∷ ls) is h =
    let p = instructions-parts names scope l ls is h in
    let head : flow_of p.head ≡ word_flow l.word = word_flows names scope l.word p.head p.head_is in
    let tail : map flow_of p.tail ≡ flows ls = instructions_flow names scope ls p.tail p.tail_is in
    rw (p.whole, head, tail) refl
