-- The code of a method suits its class.
use Rattle.std.proofs.Common.{◌≡◌, ℕ, ◌<◌, ltb, true, List, [], ◌∷◌, length, Option, Some, None, refl, sym, ap, ◌∙◌, arith, le_refl}
use Rattle.std.specs.List.{list_all, position}
use Rattle.std.specs.Option.{option_map, option_and_then}
use Rattle.std.specs.Str.{bytes_eq}
use Rattle.std.proofs.lemmas.Bool.{and_parts, and_from, lt-ltb}
use Rattle.std.proofs.lemmas.Option.{same_Some, none-some}
use Rattle.st_classes.specs.declared.values.ClassId.{ClassId}
use Rattle.st_classes.specs.declared.values.Value.{Value}
use Rattle.st_classes.specs.declared.values.Value.TheVariants.{Sym}
use Rattle.st_classes.specs.declared.edits.Edit.{Edit}
use Rattle.st_classes.specs.declared.instructions.Instruction.{Instruction}
use Rattle.st_classes.specs.declared.instructions.Instruction.TheVariants.{PushLit, PushSelf, Pop, Dup, Send, SuperSend, Jump, JumpFalse, JumpTrue, Answer}
use Rattle.st_classes.specs.Classes.{class_count, class_named, classes}
use Rattle.st_classes.specs.Kernel.{class, selector}
use Rattle.st_classes.specs.Selectors.{place_of, arity_of}
use Rattle.st_classes.specs.MethodSuits.{arity_at, is_number, instruction_suits, literal_suits}
use Rattle.st_classes.proofs.LawGrowing.{there_grows}
use Rattle.st_compile.specs.Encodable.{word_fits}
use Rattle.st_compile.specs.NameResolution.{Scope, instruction_of, instructions_of, pushed, stored}
use Rattle.st_compile.specs.DraftCode.{Word, Line, literal, symbol, receiver, variable, store, drop, repeat, message, super_message, jump, jump_false, jump_true, return}
use Rattle.st_compile.proofs.Places.{at-place, place-within, position-first, first-within}
use Rattle.st_compile.proofs.Naming.{pushed_there, reserved_there, stored_there}
use Rattle.st_compile.proofs.Resolving.{instructions-parts}
use Rattle.st_compile.proofs.There.{IfThere, map_there, there}

-- the selector at a text's place has the text's number of arguments
pub arity-place : (names : List (List ℕ)) (text : List ℕ) (n s : ℕ) → place_of names text ≡ Some s → is_number (arity_of text) n ≡ true → is_number (arity_at names (selector s)) n ≡ true
arity-place names text n s e h = ap (λ (o : Option (List ℕ)). is_number (option_and_then arity_of o) n) (at-place names text s e) ∙ h

-- an instruction suits in a scope
abbrev pub Suit : List (List ℕ) → Scope → Instruction → Type 0
Suit names scope i = instruction_suits names (class_count scope.edits) (length scope.slots) (length scope.locals) i ≡ true

there_suits : (names : List (List ℕ)) (scope : Scope) (i : Instruction) → Suit names scope i → IfThere (Suit names scope) (Some i)
there_suits names scope = there (Suit names scope)

-- the number of a text, where it has one
placed_suits : (names : List (List ℕ)) (scope : Scope) (texts : List (List ℕ)) (text : List ℕ) (f : ℕ → Instruction) → ((s : ℕ) → place_of texts text ≡ Some s → Suit names scope (f s)) → IfThere (Suit names scope) (option_map f (place_of texts text))
placed_suits names scope texts text f h = map_there (Suit names scope) f (place_of texts text) h

class_within : (edits : List Edit) (text : List ℕ) (c : ClassId) → class_named edits text ≡ Some c → c.0 < class_count edits
class_within edits text c e = by (position (λ d. bytes_eq text d.name) (classes edits)) refl
  where
    by : (o : Option ℕ) → position (λ d. bytes_eq text d.name) (classes edits) ≡ o → c.0 < class_count edits
    by None q =
        let k : None ≡ Some c = rw q at e in
        absurd (none-some c k)
    by (Some n) q =
        let k : Some (class n) ≡ Some c = rw q at e in
        rw (← same_Some (class n) c k) (first-within (λ d. bytes_eq text d.name) (classes edits) n (sym (position-first (λ d. bytes_eq text d.name) (classes edits)) ∙ q))

place_under : (texts : List (List ℕ)) (text : List ℕ) (s : ℕ) → place_of texts text ≡ Some s → ltb s (length texts) ≡ true
place_under texts text s q = lt-ltb s (length texts) (place-within texts text s q)

pushed_suits : (names : List (List ℕ)) (scope : Scope) (text : List ℕ) → IfThere (Suit names scope) (pushed scope text)
pushed_suits names scope text = let suit = Suit names scope in pushed_there suit scope text (reserved_there suit refl refl (λ b. refl) refl text) (place_under scope.locals text) (place_under scope.slots text) (λ c q. lt-ltb c.0 (class_count scope.edits) (class_within scope.edits text c q))

stored_suits : (names : List (List ℕ)) (scope : Scope) (text : List ℕ) → IfThere (Suit names scope) (stored scope text)
stored_suits names scope text = stored_there (Suit names scope) scope text (place_under scope.locals text) (place_under scope.slots text)

literal_there : (names : List (List ℕ)) (count : ℕ) (v : Value) → literal_suits [] 0 v ≡ true → literal_suits names count v ≡ true
literal_there names count v h = there_grows [] names 0 count 0 0 0 0 (omega arith) (omega arith) (le_refl 0) (le_refl 0) v h

word_suits : (names : List (List ℕ)) (scope : Scope) (word : Word) → word_fits word ≡ true → IfThere (Suit names scope) (instruction_of names scope word)
word_suits names scope (literal v) h = there_suits names scope (PushLit v) (literal_there names (class_count scope.edits) v h)
word_suits names scope (symbol text) h = placed_suits names scope names text (λ s. PushLit (Sym (selector s))) (λ s q. lt-ltb s (length names) (place-within names text s q))
word_suits names scope receiver h = there_suits names scope PushSelf refl
word_suits names scope (variable n) h = pushed_suits names scope n.text
word_suits names scope (store n) h = stored_suits names scope n.text
word_suits names scope drop h = there_suits names scope Pop refl
word_suits names scope repeat h = there_suits names scope Dup refl
word_suits names scope (message text n) h = placed_suits names scope names text (λ s. Send (selector s) n) (λ s q. arity-place names text n s q h)
word_suits names scope (super_message text n) h = placed_suits names scope names text (λ s. SuperSend (selector s) n) (λ s q. arity-place names text n s q h)
word_suits names scope (jump d) h = there_suits names scope (Jump d) refl
word_suits names scope (jump_false d) h = there_suits names scope (JumpFalse d) refl
word_suits names scope (jump_true d) h = there_suits names scope (JumpTrue d) refl
word_suits names scope return h = there_suits names scope Answer refl

pub code_suits : (names : List (List ℕ)) (scope : Scope) (lines : List Line) (code : List Instruction) → list_all (λ l. word_fits l.word) lines ≡ true → instructions_of names scope lines ≡ Some code → list_all (instruction_suits names (class_count scope.edits) (length scope.slots) (length scope.locals)) code ≡ true
code_suits names scope [] code h e = rw (← same_Some [] code e) refl
code_suits names scope (line ∷ lines) code h e =
    let suit = instruction_suits names (class_count scope.edits) (length scope.slots) (length scope.locals) in
    let p = instructions-parts names scope line lines code e in
    let b = and_parts (word_fits line.word) (list_all (λ l. word_fits l.word) lines) h in
    rw p.whole (and_from (suit p.head) (list_all suit p.tail) (word_suits names scope line.word b.0 p.head p.head_is) (code_suits names scope lines p.tail b.1 p.tail_is))
