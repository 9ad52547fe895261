-- A post, whoever holds the image.
use Rattle.std.specs.Prelude.{◌≡◌, ◌⊎◌, ℕ, List, [], ◌∷◌, Result, Ok, Err, MatchResult}
use Rattle.st_classes.specs.declared.values.ActorId.{ActorId}
use Rattle.st_classes.specs.declared.values.Selector.{Selector}
use Rattle.st_classes.specs.declared.values.Value.{Value}
use Rattle.st_classes.specs.declared.values.Value.TheVariants as value
use Rattle.st_classes.specs.declared.refusals.Refusal.{Refusal}
use Rattle.st_classes.specs.declared.refusals.Refusal.TheVariants.{NoMemory}
use Rattle.st_image.specs.Images.{ImageView}
use Rattle.st_calls.specs.declared.calls.Answer.{Answer}
use Rattle.st_calls.specs.declared.calls.Answer.TheVariants as answer
use Rattle.st_calls.specs.declared.calls.Call.{Call}
use Rattle.st_calls.specs.declared.calls.Call.TheVariants as call
use Rattle.st_calls.specs.Does.{told}
use Rattle.st_wire.specs.declared.commands.Argument.{Argument}
use Rattle.st_wire.specs.declared.commands.Argument.TheVariants as argument
use Rattle.st_wire.specs.declared.replies.Reply.{Reply}
use Rattle.st_wire.specs.declared.replies.Reply.TheVariants as reply
use Rattle.st_script.specs.ArgumentValues.{with_first}
use Rattle.st_queries.specs.Resolving.{and_then}
use Rattle.st_script.specs.CallOf.{RepliesTo, class_in}

-- nothing is done
abbrev pub Nothing : {H N : Type 0} → H → N → H → N → Type 0
Nothing {H} {N} h n k m = (k ≡ h) × (m ≡ n)

-- a text is interned
abbrev pub InternsBy : {H N : Type 0} → (H → N → Call → Result Answer Refusal → H → N → Type 0)
    → H → N → List ℕ → Result Selector Refusal → H → N → Type 0
InternsBy {H} {N} Calls h n text result k m = Calls h n (call.Intern text) (told answer.Interned result) k m

abbrev pub sym_by : Result Selector Refusal → Result Value Refusal
sym_by r = and_then (λ s. Ok (value.Sym s)) r

-- the symbol of a text, which is interned
abbrev pub IsSymbol : {H N : Type 0} → (H → N → Call → Result Answer Refusal → H → N → Type 0)
    → H → N → List ℕ → Result Value Refusal → H → N → Type 0
IsSymbol {H} {N} Calls h n text r k m = (s : Result Selector Refusal) × InternsBy Calls h n text s k m × (r ≡ sym_by s)

-- an argument has a value or a refusal
abbrev pub Resolves : {H N : Type 0} → (H → ImageView) → (H → N → Call → Result Answer Refusal → H → N → Type 0)
    → H → N → Argument → Result Value Refusal → H → N → Type 0
Resolves {H} {N} image Calls h n (argument.Int z) r k m = (r ≡ Ok (value.Int z)) × Nothing h n k m
Resolves {H} {N} image Calls h n (argument.Bool b) r k m = (r ≡ Ok (value.Bool b)) × Nothing h n k m
Resolves {H} {N} image Calls h n argument.Nil r k m = (r ≡ Ok value.Nil) × Nothing h n k m
Resolves {H} {N} image Calls h n (argument.Symbol text) r k m = IsSymbol Calls h n text r k m
Resolves {H} {N} image Calls h n (argument.Class text) r k m =
    (r ≡ and_then (λ c. Ok (value.Class c)) (class_in (image h) text)) × Nothing h n k m
Resolves {H} {N} image Calls h n (argument.Actor a) r k m = (r ≡ Ok (value.Actor a)) × Nothing h n k m

-- the values of arguments, resolved from the left up to the first that is refused
abbrev pub AllResolve : {H N : Type 0} → (H → ImageView) → (H → N → Call → Result Answer Refusal → H → N → Type 0)
    → H → N → List Argument → Result (List Value) Refusal → H → N → Type 0
AllResolve {H} {N} image Calls h n [] r k m = (r ≡ Ok []) × Nothing h n k m
AllResolve {H} {N} image Calls h n (a ∷ args) r k m =
    (first : Result Value Refusal) × (i : H) × (l : N) × Resolves image Calls h n a first i l
    × MatchResult first
    (λ v. (rest : Result (List Value) Refusal) × AllResolve image Calls i l args rest k m × (r ≡ with_first v rest))
    (λ e. (r ≡ Err e) × Nothing i l k m)

-- the arguments are resolved, and the message is posted; memory may run out before
abbrev pub PostsArguments : {H N : Type 0} → (H → ImageView) → (H → N → Call → Result Answer Refusal → H → N → Type 0)
    → H → N → ActorId → List Argument → Selector → ℕ → ℕ → Reply → H → N → Type 0
PostsArguments {H} {N} image Calls h n a args s sender seq r k m = ((r ≡ reply.Refused NoMemory) × Nothing h n k m)
    ⊎ ((vs : Result (List Value) Refusal) × (i : H) × (l : N) × AllResolve image Calls h n args vs i l × MatchResult vs
    (λ values. RepliesTo (Calls i l (call.Post sender seq a s values)) r k m)
    (λ e. (r ≡ reply.Refused e) × Nothing i l k m))

-- the selector is interned first
abbrev pub PostsNamed : {H N : Type 0} → (H → ImageView) → (H → N → Call → Result Answer Refusal → H → N → Type 0)
    → H → N → ActorId → List Argument → List ℕ → ℕ → ℕ → Reply → H → N → Type 0
PostsNamed {H} {N} image Calls h n a args text sender seq r k m = (s : Result Selector Refusal)
    × (i : H) × (l : N) × InternsBy Calls h n text s i l × MatchResult s
    (λ found. PostsArguments image Calls i l a args found sender seq r k m)
    (λ e. (r ≡ reply.Refused e) × Nothing i l k m)
