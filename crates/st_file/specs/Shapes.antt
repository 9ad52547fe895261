-- The forms of an image file: what a JSON value says, in texts.
use Rattle.std.specs.Prelude.{ℕ, ◌^◌, ◌-◌, ◌==◌, Bool, List, [], ◌∷◌, codes, if◌then◌else◌, Option, Some, None, option_map, option_and_then}
use Rattle.std.specs.Str.{bytes_eq}
use Rattle.serde_json.specs.Data.{Data, null, boolean, number, string, array, object}
use Rattle.serde_json.specs.Find.{get, at, as_bool, as_number, as_array, as_u64, as_i64}
use Rattle.serde_json.specs.Events.{items_len}
use Rattle.st_classes.specs.declared.faults.Fault.{Fault}
use Rattle.st_classes.specs.declared.faults.Fault.TheVariants.{NotUnderstood, Overflow, ZeroDivide, BadArgument, MustBeBoolean, StackOverflow, HeapFull, LocalArgument, TooManyActors}
use Rattle.st_mailbox.specs.declared.messages.Sender.{Sender}
use Rattle.st_mailbox.specs.declared.messages.Sender.TheVariants as sender
pub use Rattle.st_wire.specs.Fields.{list_at}
use Rattle.st_wire.specs.Fields.{size, text_at, texts_at, each_of, within, whole_at, actor_at, number_at}
use Rattle.st_wire.specs.Keys.{of_keys}
use Rattle.st_wire.specs.Names.{fault_name}
use Rattle.st_file.specs.declared.texts.ValueText.{ValueText}
use Rattle.st_file.specs.declared.texts.ValueText.TheVariants.{Int, Bool as Boolean, Nil, Symbol, Class, Actor, Local}
use Rattle.st_file.specs.declared.texts.MessageText.{MessageText}
use Rattle.st_file.specs.declared.texts.ObjectText.{ObjectText}
use Rattle.st_file.specs.declared.texts.FrameText.{FrameText}
use Rattle.st_file.specs.declared.texts.PhaseText.{PhaseText}
use Rattle.st_file.specs.declared.texts.PhaseText.TheVariants as phase
use Rattle.st_file.specs.declared.texts.BodyText.{BodyText}
use Rattle.st_file.specs.declared.texts.ActorText.{ActorText}
use Rattle.st_image.specs.declared.counts.Counts.{Counts}
use Rattle.st_image.specs.declared.edit_text.EditText.{EditText}
use Rattle.st_image.specs.declared.edit_text.EditText.TheVariants as edit
use Rattle.st_image.specs.Counts.{most_counted}
use Rattle.st_file.specs.declared.texts.ImageText.{ImageText}

-- the items of an array, each read by f
abbrev pub list_in : {T : Type 0} → (Data → Option T) → Data → Option (List T)
list_in f d = option_and_then (each_of f) (as_array d)

-- the value at a key, read by f
abbrev pub one_at : {T : Type 0} → (Data → Option T) → List ℕ → Data → Option T
one_at f key d = option_and_then f (get key d)

-- ---- values

-- `{"ref":n}`, `{"sym":"at:put:"}`, `{"class":"Counter"}` or `{"local":n}`, by the first of these keys that it has
abbrev pub named_by : Data → Option Data → Option Data → Option Data → Option ValueText
named_by d (Some r) sym class = option_map Actor (actor_at (codes "ref") d)
named_by d None (Some s) class = option_map Symbol (text_at (codes "sym") d)
named_by d None None (Some c) = option_map Class (text_at (codes "class") d)
named_by d None None None = option_map Local (number_at (codes "local") d)

-- a value that is an object of one key
abbrev pub named_in : Data → Option ValueText
named_in d =
    if size d == 1 then named_by d (get (codes "ref") d) (get (codes "sym") d) (get (codes "class") d) else None

-- a value
abbrev pub value_in : Data → Option ValueText
value_in null = Some Nil
value_in (boolean b) = Some (Boolean b)
value_in (number n) = option_map Int (as_i64 n)
value_in (string s) = None
value_in (array items) = None
value_in (object members) = named_in (object members)

-- the values at a key
abbrev pub values_at : List ℕ → Data → Option (List ValueText)
values_at = list_at value_in

-- ---- messages

-- a client by its number, or an actor by `{"ref":n}`
abbrev pub sender_in : Data → Option Sender
sender_in (number n) = option_map sender.Client (within 0 65535 (as_u64 n))
sender_in null = None
sender_in (boolean b) = None
sender_in (string s) = None
sender_in (array items) = None
sender_in (object members) =
    of_keys (codes "ref" ∷ []) (object members) (option_map sender.Actor (actor_at (codes "ref") (object members)))

abbrev pub message_from : Option (List ValueText) → Option (List ℕ) → Option Sender → Option ℕ → Option MessageText
message_from (Some args) (Some selector) (Some s) (Some seq) =
    Some (record { args = args; selector = selector; sender = s; seq = seq })
message_from _ _ _ _ = None

abbrev pub message_in : Data → Option MessageText
message_in d =
    of_keys (codes "args" ∷ codes "selector" ∷ codes "sender" ∷ codes "seq" ∷ []) d
    (message_from
    (values_at (codes "args") d)
    (text_at (codes "selector") d)
    (one_at sender_in (codes "sender") d)
    (number_at (codes "seq") d))

-- ---- bodies

abbrev pub object_from : Option (List ℕ) → Option (List ValueText) → Option ObjectText
object_from (Some class) (Some slots) = Some (record { class = class; slots = slots })
object_from _ _ = None

abbrev pub object_in : Data → Option ObjectText
object_in d = of_keys (codes "class" ∷ codes "slots" ∷ []) d
    (object_from (text_at (codes "class") d) (values_at (codes "slots") d))

abbrev pub frame_from : Option ℕ → Option (List ValueText) → Option ℕ → Option ValueText → Option (List ValueText)
    → Option FrameText
frame_from (Some method) (Some operands) (Some pc) (Some receiver) (Some temps) =
    Some (record { method = method; operands = operands; pc = pc; receiver = receiver; temps = temps })
frame_from _ _ _ _ _ = None

abbrev pub frame_in : Data → Option FrameText
frame_in d =
    of_keys (codes "method" ∷ codes "operands" ∷ codes "pc" ∷ codes "receiver" ∷ codes "temps" ∷ []) d
    (frame_from
    (number_at (codes "method") d)
    (values_at (codes "operands") d)
    (number_at (codes "pc") d)
    (one_at value_in (codes "receiver") d)
    (values_at (codes "temps") d))

-- all faults
abbrev pub faults : List Fault
faults =
    NotUnderstood ∷ Overflow ∷ ZeroDivide ∷ BadArgument ∷ MustBeBoolean ∷ StackOverflow ∷ HeapFull ∷ LocalArgument
    ∷ TooManyActors
    ∷ []

-- the first of these faults with this name
abbrev pub fault_among : List Fault → List ℕ → Option Fault
fault_among [] name = None
fault_among (f ∷ fs) name = if bytes_eq name (fault_name f) then Some f else fault_among fs name

-- the fault with this name
abbrev pub fault_of : List ℕ → Option Fault
fault_of = fault_among faults

abbrev pub start_from : Option (List ValueText) → Option (List ℕ) → Option PhaseText
start_from (Some args) (Some selector) = Some (phase.Start args selector)
start_from _ _ = None

abbrev pub start_in : Data → Option PhaseText
start_in d = of_keys (codes "args" ∷ codes "selector" ∷ []) d
    (start_from (values_at (codes "args") d) (text_at (codes "selector") d))

-- `{"start":..}`, `{"frames":..}`, `{"answer":..}` or `{"fault":..}`, by the first of these keys that it has
abbrev pub turn_by : Data → Option Data → Option Data → Option Data → Option PhaseText
turn_by d (Some s) frames answer = start_in s
turn_by d None (Some f) answer = option_map phase.Frames (list_at frame_in (codes "frames") d)
turn_by d None None (Some v) = option_map phase.Answer (value_in v)
turn_by d None None None = option_map phase.Fault (option_and_then fault_of (text_at (codes "fault") d))

-- a phase that is an object of one key
abbrev pub turn_in : Data → Option PhaseText
turn_in d =
    if size d == 1 then turn_by d (get (codes "start") d) (get (codes "frames") d) (get (codes "answer") d) else None

-- the phase of a turn
abbrev pub phase_in : Data → Option PhaseText
phase_in (string s) = if bytes_eq s (codes "fresh") then Some phase.Fresh else None
phase_in null = None
phase_in (boolean b) = None
phase_in (number n) = None
phase_in (array items) = None
phase_in (object members) = turn_in (object members)

abbrev pub body_from : Option (List ObjectText) → Option PhaseText → Option BodyText
body_from (Some objects) (Some p) = Some (record { objects = objects; phase = p })
body_from _ _ = None

abbrev pub body_in : Data → Option BodyText
body_in d = of_keys (codes "objects" ∷ codes "phase" ∷ []) d
    (body_from (list_at object_in (codes "objects") d) (one_at phase_in (codes "phase") d))

-- ---- actors, edits and clients

abbrev pub actor_from : Option BodyText → Option ℕ → Option (List ℕ) → Option ℕ → Option Bool → Option (List MessageText)
    → Option ActorText
actor_from (Some body) (Some capacity) (Some class) (Some last) (Some is_open) (Some pending) = Some (record {
  body = body;
  capacity = capacity;
  class = class;
  last = last;
  is_open = is_open;
  pending = pending;
})
actor_from _ _ _ _ _ _ = None

abbrev pub actor_in : Data → Option ActorText
actor_in d =
    of_keys
    (codes "body" ∷ codes "capacity" ∷ codes "class" ∷ codes "last" ∷ codes "open" ∷ codes "pending" ∷ [])
    d
    (actor_from
    (one_at body_in (codes "body") d)
    (number_at (codes "capacity") d)
    (text_at (codes "class") d)
    (number_at (codes "last") d)
    (one_at as_bool (codes "open") d)
    (list_at message_in (codes "pending") d))

abbrev pub define_from : Option (List ℕ) → Option (List (List ℕ)) → Option (List ℕ) → Option EditText
define_from (Some name) (Some slots) (Some parent) = Some (edit.Define name parent slots)
define_from _ _ _ = None

abbrev pub define_in : Data → Option EditText
define_in d = of_keys (codes "name" ∷ codes "slots" ∷ codes "super" ∷ []) d
    (define_from (text_at (codes "name") d) (texts_at (codes "slots") d) (text_at (codes "super") d))

abbrev pub install_from : Option (List ℕ) → Option (List ℕ) → Option EditText
install_from (Some class) (Some source) = Some (edit.Install class source)
install_from _ _ = None

abbrev pub install_in : Data → Option EditText
install_in d = of_keys (codes "class" ∷ codes "source" ∷ []) d
    (install_from (text_at (codes "class") d) (text_at (codes "source") d))

abbrev pub remove_from : Option (List ℕ) → Option (List ℕ) → Option EditText
remove_from (Some class) (Some selector) = Some (edit.Remove class selector)
remove_from _ _ = None

abbrev pub remove_in : Data → Option EditText
remove_in d = of_keys (codes "class" ∷ codes "selector" ∷ []) d
    (remove_from (text_at (codes "class") d) (text_at (codes "selector") d))

abbrev pub reparent_from : Option (List ℕ) → Option (List ℕ) → Option EditText
reparent_from (Some class) (Some parent) = Some (edit.Reparent class parent)
reparent_from _ _ = None

abbrev pub reparent_in : Data → Option EditText
reparent_in d = of_keys (codes "class" ∷ codes "super" ∷ []) d
    (reparent_from (text_at (codes "class") d) (text_at (codes "super") d))

-- `{"define":..}`, `{"install":..}`, `{"remove":..}` or `{"reparent":..}`, by the first of these keys that it has
abbrev pub edit_by : Data → Option Data → Option Data → Option Data → Option EditText
edit_by d (Some e) install remove = define_in e
edit_by d None (Some e) remove = install_in e
edit_by d None None (Some e) = remove_in e
edit_by d None None None = one_at reparent_in (codes "reparent") d

abbrev pub edit_in : Data → Option EditText
edit_in d =
    if size d == 1 then edit_by d (get (codes "define") d) (get (codes "install") d) (get (codes "remove") d) else None

abbrev pub client_from : Option ℕ → Option ℕ → Option (ℕ × ℕ)
client_from (Some client) (Some last) = Some (client, last)
client_from _ _ = None

-- the number of items of an array; 0 for any other value
abbrev pub count : Data → ℕ
count (array items) = items_len items
count null = 0
count (boolean b) = 0
count (number n) = 0
count (string s) = 0
count (object ms) = 0

-- the whole number at a place of an array, which must be in a range
abbrev pub whole_in : ℕ → ℕ → ℕ → Data → Option ℕ
whole_in place least most d = within least most (option_and_then as_u64 (option_and_then as_number (at place d)))

-- a client and the number of its last message, as `[n,last]`
abbrev pub client_in : Data → Option (ℕ × ℕ)
client_in d = if count d == 2 then client_from (whole_in 0 0 65535 d) (whole_in 1 1 (2 ^ 64 - 1) d) else None

-- ---- files

-- no posts and no steps
abbrev pub no_counts : Counts
no_counts = record { posts = 0; steps = 0 }

abbrev pub counts_from : Option ℕ → Option ℕ → Option Counts
counts_from (Some posts) (Some steps) = Some (record { posts = posts; steps = steps })
counts_from _ _ = None

-- the counts of posts and steps
abbrev pub counts_at : Data → Option Counts
counts_at d = counts_from (whole_at (codes "posts") 0 most_counted d) (whole_at (codes "steps") 0 most_counted d)

-- the counts of a file, which must have exactly the keys of its format; none in the first format
abbrev pub counts_by : ℕ → Data → Option Counts
counts_by format d =
    if format == 1
    then of_keys (codes "actors" ∷ codes "edits" ∷ codes "format" ∷ codes "names" ∷ codes "senders" ∷ []) d (Some no_counts)
    else of_keys
    (codes "actors"
    ∷ codes "edits"
    ∷ codes "format"
    ∷ codes "names"
    ∷ codes "posts"
    ∷ codes "senders"
    ∷ codes "steps"
    ∷ [])
    d
    (counts_at d)

-- the counts of a file of the first or the second format
abbrev pub counts_in : Data → Option Counts
counts_in d = option_and_then (λ format. counts_by format d) (whole_at (codes "format") 1 2 d)

abbrev pub image_from : Option (List ActorText) → Option (List EditText) → Option Counts → Option (List (List ℕ))
    → Option (List (ℕ × ℕ)) → Option ImageText
image_from (Some actors) (Some edits) (Some counts) (Some names) (Some senders) =
    Some (record { actors = actors; counts = counts; edits = edits; names = names; senders = senders })
image_from _ _ _ _ _ = None

-- what a file says
abbrev pub image_in : Data → Option ImageText
image_in d = image_from
    (list_at actor_in (codes "actors") d)
    (list_at edit_in (codes "edits") d)
    (counts_in d)
    (texts_at (codes "names") d)
    (list_at client_in (codes "senders") d)
