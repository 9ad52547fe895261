-- Events that are calls of the image.
use Rattle.std.specs.Prelude.{◌≡◌, ◌⊎◌, Bool, true, false, Result, Err}
use Rattle.st_classes.specs.declared.refusals.Refusal.{Refusal}
use Rattle.st_classes.specs.declared.refusals.Refusal.TheVariants.{NoMemory}
use Rattle.st_calls.specs.declared.calls.Answer.{Answer as CallAnswer}
use Rattle.st_calls.specs.declared.calls.Call.{Call}
use Rattle.st_calls.specs.declared.calls.Call.TheVariants as call
use Rattle.st_calls.specs.Does.{Does, told}
use Rattle.st_system.specs.declared.events.Answer.{Answer}
use Rattle.st_system.specs.declared.events.Answer.TheVariants.{Called}
use Rattle.st_system.specs.Schedules.{Schedule}

-- an event that is a call of the image: each worker keeps its claim
abbrev pub OfImage : Schedule → Call → Result Answer Refusal → Schedule → Type 0
OfImage S c r T = (result : Result CallAnswer Refusal) × (r ≡ told Called result) × Does S.image c result T.image × (T.claims ≡ S.claims)

-- memory ran out before the image was called, and nothing changed
abbrev pub FindsNoMemory : Schedule → Result Answer Refusal → Schedule → Type 0
FindsNoMemory S r T = (r ≡ Err NoMemory) × (T ≡ S)

-- calls of which the image takes a copy: those with texts or arguments, but for the text that is interned
abbrev pub copies : Call → Bool
copies (call.Define name parent slots) = true
copies (call.Install c source) = true
copies (call.Post sender seq a s args) = true
copies c = false

-- calls with texts or arguments
abbrev pub has_texts : Call → Bool
has_texts (call.Intern text) = true
has_texts c = copies c

-- a call is made of the image; memory may run out before only where it is copied
abbrev pub Calls : Schedule → Call → Result Answer Refusal → Schedule → Type 0
Calls S c r T = ((copies c ≡ true) × FindsNoMemory S r T) ⊎ OfImage S c r T
