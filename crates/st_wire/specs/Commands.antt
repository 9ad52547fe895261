-- The command of a line.
use Rattle.std.specs.Prelude.{◌≡◌, ◌++◌, ℕ, ◌^◌, ◌-◌, List, [], ◌∷◌, codes, not, is_some, if◌then◌else◌, Option, Some, None, option_map, option_and_then}
use Rattle.std.specs.Str.{is_utf8, bytes_eq}
use Rattle.serde_json.specs.Data.{Data}
use Rattle.serde_json.specs.Read.{read}
use Rattle.st_classes.specs.declared.refusals.Refusal.TheVariants.{BadCommand}
use Rattle.st_classes.specs.declared.values.ActorId.{ActorId}
use Rattle.st_classes.specs.Refusals.{Rule}
use Rattle.st_wire.specs.declared.commands.Argument.{Argument}
use Rattle.st_wire.specs.declared.commands.Command.{Command}
use Rattle.st_wire.specs.declared.commands.Command.TheVariants.{Define, Method, Replace, Remove, Reparent, Actor, Post, Close, Run, Outcome, Wait, Stats, Checkpoint, Save, Query}
use Rattle.st_wire.specs.Fields.{text_at, texts_at, actor_at, sender_at, number_at, quanta_at, arguments_at, whole_at}
use Rattle.st_wire.specs.Keys.{has_just, of_keys}
use Rattle.st_wire.specs.Queries.{query_in}

abbrev pub define_from : Option (List ℕ) → Option (List ℕ) → Option (List (List ℕ)) → Option Command
define_from (Some name) (Some parent) (Some slots) = Some (Define name parent slots)
define_from _ _ _ = None

abbrev pub define_in : Data → Option Command
define_in d =
    of_keys (codes "cmd" ∷ codes "name" ∷ codes "slots" ∷ codes "super" ∷ []) d
    (define_from (text_at (codes "name") d) (text_at (codes "super") d) (texts_at (codes "slots") d))

abbrev pub method_from : Option (List ℕ) → Option (List ℕ) → Option Command
method_from (Some class) (Some source) = Some (Method class source)
method_from _ _ = None

abbrev pub method_in : Data → Option Command
method_in d =
    of_keys (codes "class" ∷ codes "cmd" ∷ codes "source" ∷ []) d
    (method_from (text_at (codes "class") d) (text_at (codes "source") d))

abbrev pub replace_from : Option (List ℕ) → Option ℕ → Option (List ℕ) → Option Command
replace_from (Some class) (Some over) (Some source) = Some (Replace class over source)
replace_from _ _ _ = None

abbrev pub replace_in : Data → Option Command
replace_in d =
    of_keys (codes "class" ∷ codes "cmd" ∷ codes "over" ∷ codes "source" ∷ []) d
    (replace_from (text_at (codes "class") d) (whole_at (codes "over") 0 (2 ^ 32 - 1) d) (text_at (codes "source") d))

abbrev pub remove_from : Option (List ℕ) → Option (List ℕ) → Option Command
remove_from (Some class) (Some selector) = Some (Remove class selector)
remove_from _ _ = None

abbrev pub remove_in : Data → Option Command
remove_in d =
    of_keys (codes "class" ∷ codes "cmd" ∷ codes "selector" ∷ []) d
    (remove_from (text_at (codes "class") d) (text_at (codes "selector") d))

abbrev pub reparent_from : Option (List ℕ) → Option (List ℕ) → Option Command
reparent_from (Some class) (Some parent) = Some (Reparent class parent)
reparent_from _ _ = None

abbrev pub reparent_in : Data → Option Command
reparent_in d =
    of_keys (codes "class" ∷ codes "cmd" ∷ codes "super" ∷ []) d
    (reparent_from (text_at (codes "class") d) (text_at (codes "super") d))

abbrev pub new_actor_in : Data → Option Command
new_actor_in d = of_keys (codes "class" ∷ codes "cmd" ∷ []) d (option_map Actor (text_at (codes "class") d))

abbrev pub post_from : Option ActorId → Option (List Argument) → Option (List ℕ) → Option ℕ → Option ℕ → Option Command
post_from (Some actor) (Some args) (Some selector) (Some sender) (Some seq) = Some (Post actor args selector sender seq)
post_from _ _ _ _ _ = None

abbrev pub post_in : Data → Option Command
post_in d =
    of_keys (codes "actor" ∷ codes "args" ∷ codes "cmd" ∷ codes "selector" ∷ codes "sender" ∷ codes "seq" ∷ []) d
    (post_from
    (actor_at (codes "actor") d)
    (arguments_at (codes "args") d)
    (text_at (codes "selector") d)
    (sender_at (codes "sender") d)
    (number_at (codes "seq") d))

abbrev pub close_in : Data → Option Command
close_in d = of_keys (codes "actor" ∷ codes "cmd" ∷ []) d (option_map Close (actor_at (codes "actor") d))

-- 1,000 quanta if no number is given
abbrev pub run_in : Data → Option Command
run_in d =
    if has_just (codes "cmd" ∷ []) d then Some (Run 1000)
    else of_keys (codes "cmd" ∷ codes "quanta" ∷ []) d (option_map Run (quanta_at (codes "quanta") d))

abbrev pub outcome_from : Option ActorId → Option ℕ → Option Command
outcome_from (Some actor) (Some turn) = Some (Outcome actor turn)
outcome_from _ _ = None

abbrev pub outcome_in : Data → Option Command
outcome_in d =
    of_keys (codes "actor" ∷ codes "cmd" ∷ codes "turn" ∷ []) d
    (outcome_from (actor_at (codes "actor") d) (number_at (codes "turn") d))

abbrev pub wait_from : Option ActorId → Option (List ℕ) → Option ℕ → Option ℕ → Option Command
wait_from (Some actor) (Some epoch) (Some ms) (Some turn) = Some (Wait actor epoch ms turn)
wait_from _ _ _ _ = None

-- a minute at most
abbrev pub wait_in : Data → Option Command
wait_in d =
    of_keys (codes "actor" ∷ codes "cmd" ∷ codes "epoch" ∷ codes "ms" ∷ codes "turn" ∷ []) d
    (wait_from (actor_at (codes "actor") d) (text_at (codes "epoch") d) (whole_at (codes "ms") 0 60000 d) (number_at (codes "turn") d))

abbrev pub stats_from : Option (List ℕ) → Option (List ℕ) → Option Command
stats_from (Some class) (Some selector) = Some (Stats class selector)
stats_from _ _ = None

abbrev pub stats_in : Data → Option Command
stats_in d =
    of_keys (codes "class" ∷ codes "cmd" ∷ codes "selector" ∷ []) d
    (stats_from (text_at (codes "class") d) (text_at (codes "selector") d))

abbrev pub checkpoint_in : Data → Option Command
checkpoint_in d = of_keys (codes "cmd" ∷ []) d (Some Checkpoint)

abbrev pub save_in : Data → Option Command
save_in d = of_keys (codes "cmd" ∷ []) d (Some Save)

-- a command that changes nothing of an image
abbrev pub question_in : Data → List ℕ → Option Command
question_in d cmd =
    if bytes_eq cmd (codes "outcome") then outcome_in d
    else (if bytes_eq cmd (codes "wait") then wait_in d
    else (if bytes_eq cmd (codes "stats") then stats_in d
    else (if bytes_eq cmd (codes "save") then save_in d
    else option_map Query (query_in d cmd))))

-- the command of the form that `cmd` names
abbrev pub form_in : Data → List ℕ → Option Command
form_in d cmd =
    if bytes_eq cmd (codes "define") then define_in d
    else (if bytes_eq cmd (codes "method") then method_in d
    else (if bytes_eq cmd (codes "replace") then replace_in d
    else (if bytes_eq cmd (codes "remove") then remove_in d
    else (if bytes_eq cmd (codes "reparent") then reparent_in d
    else (if bytes_eq cmd (codes "actor") then new_actor_in d
    else (if bytes_eq cmd (codes "post") then post_in d
    else (if bytes_eq cmd (codes "close") then close_in d
    else (if bytes_eq cmd (codes "run") then run_in d
    else (if bytes_eq cmd (codes "checkpoint") then checkpoint_in d
    else question_in d cmd)))))))))

-- the command of an object, by its `cmd`
abbrev pub command_in : Data → Option Command
command_in d = option_and_then (form_in d) (text_at (codes "cmd") d)

-- the JSON value of a line
abbrev pub value_of : List ℕ → Option Data
value_of line = if is_utf8 line then read line else None

-- the command of a line, if its JSON value is one
abbrev pub command_of : List ℕ → Option Command
command_of line = option_and_then command_in (value_of line)

-- a carriage return at the end of a line does not change its command
abbrev pub ReturnsMeanNothing : Type 0
ReturnsMeanNothing = (line : List ℕ) → command_of (line ++ 13 ∷ []) ≡ command_of line

-- the refusal of a line that is not a command
abbrev pub command_rules : List ℕ → List Rule
command_rules line = (not (is_some (command_of line)), BadCommand) ∷ []
