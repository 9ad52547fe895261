-- From what is read of a value to what a line answers.
use Rattle.std.proofs.Common.{◌≡◌, inl, inr, ℕ, List, [], ◌∷◌, Bool, true, false, not, is_some, Option, Some, None, Result, Ok, Err, refl}
use Rattle.std.specs.Str.{IsUtf8, is_utf8}
use Rattle.std.proofs.lemmas.Str.{IsUtf8-from_is_utf8, is_utf8-from_IsUtf8}
use Rattle.serde_json.specs.Data.{Data}
use Rattle.serde_json.specs.Read.{read}
use Rattle.st_classes.specs.declared.refusals.Refusal.{Refusal}
use Rattle.st_classes.specs.declared.refusals.Refusal.TheVariants.{BadCommand}
use Rattle.st_classes.specs.Refusals.{Answers, first_of}
use Rattle.st_wire.specs.declared.commands.Command.{Command}
use Rattle.st_wire.specs.PartResults.{Reads}
use Rattle.st_wire.specs.Commands.{command_of, command_in, command_rules, value_of}

none_first : {T : Type 0} (there : Option T) (refusal : Refusal) → refusal ≡ BadCommand → there ≡ None → first_of ((not (is_some there), BadCommand) ∷ []) ≡ Some refusal
none_first there refusal b e = rw (b, e)

answers_there : {T : Type 0} (there : Option T) (r : Result T Refusal) → Reads there r → Answers (first_of ((not (is_some there), BadCommand) ∷ [])) r (λ t. there ≡ Some t)
answers_there there (Ok t) h = (rw h, h)
answers_there there (Err refusal) h =
    elim h [ inl n ↦ inl n | inr both ↦ inr (none_first there refusal both.0 both.1) ]

pub value-line : (line : List ℕ) (d : Data) → IsUtf8 line × (read line ≡ Some d) → value_of line ≡ Some d
value-line line d h = rw (is_utf8-from_IsUtf8 line h.0) h.1

none_at : (line : List ℕ) (b : Bool) → is_utf8 line ≡ b → (IsUtf8 line → read line ≡ None) → value_of line ≡ None
none_at line true e h = rw e (h (IsUtf8-from_is_utf8 line e))
none_at line false e h = rw e

pub no_value-line : (line : List ℕ) → (IsUtf8 line → read line ≡ None) → value_of line ≡ None
no_value-line line h = none_at line _ refl h

-- a line that is a value is the command in it
pub Answers-value : (line : List ℕ) (d : Data) (r : Result Command Refusal) → value_of line ≡ Some d → Reads (command_in d) r
    → Answers (first_of (command_rules line)) r (λ c. command_of line ≡ Some c)
Answers-value line d r e h = rw e (answers_there (command_in d) r h)

-- a line that is no value is no command
pub no_command-line : (line : List ℕ) → value_of line ≡ None → first_of (command_rules line) ≡ Some BadCommand
no_command-line line e = rw e
