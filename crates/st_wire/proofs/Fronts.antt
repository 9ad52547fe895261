-- What the tokens of a line begin with, read one after the other.
use Rattle.std.proofs.Common.{◌≡◌, ℕ, ◌-◌, ◌<◌, ◌≤◌, List, [], ◌∷◌, ◌++◌, length, Option, Some, None, option_map, option_and_then, refl, sym, ap, ◌∙◌, arith, append-nil, codes, le-leb, ◌^◌}
use Rattle.json.specs.Token.{Token}
use Rattle.json.specs.Lex.{tokens}
use Rattle.json.specs.Json as json
use Rattle.json.specs.Json.{parse_map, after_end_array, read_key}
use Rattle.json.proofs.Grammar.{value_is, value-begin_array, value-begin_object, items_end, items_more, members_end, members_more, read_key-shorter}
use Rattle.serde_json.specs.Data.{Num, unsigned, Data, null, boolean, number, string, array, object, Items, no_items, item, Members, no_members, member, put}
use Rattle.serde_json.specs.Read.{number_of, of_json, of_items, of_members, converted, read}
use Rattle.serde_json.specs.View.{items_of}
use Rattle.st_wire.specs.declared.commands.Argument.{Argument}
use Rattle.st_wire.specs.declared.commands.Argument.TheVariants.{Symbol, Class, Actor}
use Rattle.st_wire.specs.Fields.{actor, argument, named, each_of, cons_of}
use Rattle.st_wire.proofs.Lists.{after, after_one}
use Rattle.st_wire.specs.Tokens.{BeginsWith, BeginsWithItems, BeginsWithMembers}

-- ---- a value of one token

module _ (depth : ℕ) (tokens rest : List Token) where
  pub number_first : (text : List ℕ) (n : Num) → tokens ≡ Token.number text ∷ rest → number_of text ≡ Some n → BeginsWith depth tokens (number n) rest
  number_first text n first is =
      ap (λ ts. converted of_json (json.value depth ts)) first ∙ ap (converted of_json) (value_is depth (Token.number text ∷ rest))
      ∙ ap (λ m. option_map {U = Data × List Token} (λ d. (d, rest)) (option_map number m)) is

  pub string_first : (text : List ℕ) → tokens ≡ Token.string text ∷ rest → BeginsWith depth tokens (string text) rest
  string_first text first = ap (λ ts. converted of_json (json.value depth ts)) first ∙ ap (converted of_json) (value_is depth (Token.string text ∷ rest))

  pub boolean_first : (b : _) → tokens ≡ Token.boolean b ∷ rest → BeginsWith depth tokens (boolean b) rest
  boolean_first b first = ap (λ ts. converted of_json (json.value depth ts)) first ∙ ap (converted of_json) (value_is depth (Token.boolean b ∷ rest))

  pub null_first : tokens ≡ Token.null ∷ rest → BeginsWith depth tokens null rest
  null_first first = ap (λ ts. converted of_json (json.value depth ts)) first ∙ ap (converted of_json) (value_is depth (Token.null ∷ rest))

-- ---- what was read is the conversion of what the grammar reads

abbrev from_some : {A : Type 0} → A → Option A → A
from_some a None = a
from_some a (Some b) = b

abbrev first_of : {A B : Type 0} → A → Option (A × B) → A
first_of a None = a
first_of a (Some p) = p.0

abbrev second_of : {A B : Type 0} → B → Option (A × B) → B
second_of b None = b
second_of b (Some p) = p.1

both : {A B : Type 0} (a b : A) (r s : B) → ◌≡◌ {A = Option (A × B)} (Some (a, r)) (Some (b, s)) → (a ≡ b) × (r ≡ s)
both a b r s e = (ap (first_of a) e, ap (second_of r) e)

unconverted_at : {B : Type 0} (b : B) (r s : List Token) (there : Option B) → option_map {U = B × List Token} (λ c. (c, r)) there ≡ Some (b, s) → (there ≡ Some b) × (r ≡ s)
unconverted_at b r s None e = absurd cc
unconverted_at b r s (Some c) e = let same = both c b r s e in (ap Some same.0, same.1)

-- what the grammar reads, where its conversion is known
pub unconverted : {A B : Type 0} (f : A → Option B) (read : Option (A × List Token)) (b : B) (rest : List Token) → converted f read ≡ Some (b, rest) → (a : A) × (read ≡ Some (a, rest)) × (f a ≡ Some b)
unconverted f None b rest e = absurd cc
unconverted f (Some p) b rest e = let is = unconverted_at b p.1 rest (f p.0) e in (p.0, ap (λ r. Some (p.0, r)) is.1, is.0)

-- ---- arrays

module _ (p : json.Parse json.Json) where
  item_more : (n : ℕ) (ts r : List Token) (d : Data) → 0 < n → after_end_array ts ≡ None → converted of_json (p ts) ≡ Some (d, r)
      → (ds : Items) (rest : List Token) → converted of_items (json.items p (n - 1) r) ≡ Some (ds, rest) → converted of_items (json.items p n ts) ≡ Some (item d ds, rest)
  item_more n ts r d some going first ds rest more =
      let j = unconverted of_json (p ts) d r first in
      let js = unconverted of_items (json.items p (n - 1) r) ds rest more in
      ap (converted of_items) (items_more p n ts r j.0 some going j.1 ∙ ap (parse_map (json.item j.0)) js.1) ∙ rw (j.2, js.2)

  pub member_more : (n : ℕ) (k : List ℕ) (ts s r : List Token) (d : Data) → 0 < n → read_key ts ≡ Some (Some k, s) → converted of_json (p s) ≡ Some (d, r)
      → (old ms : Members) (rest : List Token) → converted (λ js. of_members js (put k d old)) (json.members p (n - 1) r) ≡ Some (ms, rest)
      → converted (λ js. of_members js old) (json.members p n ts) ≡ Some (ms, rest)
  member_more n k ts s r d some key first old ms rest more =
      let j = unconverted of_json (p s) d r first in
      let js = unconverted (λ js. of_members js (put k d old)) (json.members p (n - 1) r) ms rest more in
      ap (converted (λ js. of_members js old)) (members_more p n k ts s r j.0 some key j.1 ∙ ap (parse_map (json.member k j.0)) js.1) ∙ rw (j.2, js.2)

pub array_first : (depth : ℕ) (tokens inner rest : List Token) (ds : Items) → 0 < depth → tokens ≡ Token.begin_array ∷ inner → BeginsWithItems (depth - 1) inner ds rest → BeginsWith depth tokens (array ds) rest
array_first depth tokens inner rest ds some first inside =
    let js = unconverted of_items (json.items (json.value (depth - 1)) (length inner) inner) ds rest inside in
    ap (λ ts. converted of_json (json.value depth ts)) first ∙ ap (converted of_json) (value-begin_array depth inner some ∙ ap (parse_map json.array) js.1) ∙ rw js.2

pub object_first : (depth : ℕ) (tokens inner rest : List Token) (ms : Members) → 0 < depth → tokens ≡ Token.begin_object ∷ inner → BeginsWithMembers (depth - 1) inner ms rest → BeginsWith depth tokens (object ms) rest
object_first depth tokens inner rest ms some first inside =
    let js = unconverted (λ js. of_members js no_members) (json.members (json.value (depth - 1)) (length inner) inner) ms rest inside in
    ap (λ ts. converted of_json (json.value depth ts)) first ∙ ap (converted of_json) (value-begin_object depth inner some ∙ ap (parse_map json.object) js.1) ∙ rw js.2

-- whatever items are left, the array has them behind those that were found, each read by f
abbrev pub ItemsGoOn : {T : Type 0} → (Data → Option T) → ℕ → List Token → List T → ℕ → List Token → Type 0
ItemsGoOn f depth initial found n tokens =
    (ds : Items) (rest : List Token) → converted of_items (json.items (json.value depth) n tokens) ≡ Some (ds, rest)
    → (all : Items) × BeginsWithItems depth initial all rest × (each_of f all ≡ after found (each_of f ds))

after_nothing : {T : Type 0} (rest : Option (List T)) → rest ≡ after [] rest
after_nothing None = refl
after_nothing (Some more) = refl

module _ {T : Type 0} (f : Data → Option T) (depth : ℕ) (initial : List Token) (found : List T) where
  pub items_begin : found ≡ [] → ItemsGoOn f depth initial found (length initial) initial
  items_begin none ds rest is = (ds, is, after_nothing (each_of f ds) ∙ ap (λ before. after before (each_of f ds)) (sym none))

  pub item_goes_on : (n : ℕ) (ts r : List Token) (d : Data) (x : T) → 0 < n → after_end_array ts ≡ None
      → BeginsWith depth ts d r → f d ≡ Some x → ItemsGoOn f depth initial found n ts → ItemsGoOn f depth initial (found ++ x ∷ []) (n - 1) r
  item_goes_on n ts r d x some going first is on ds rest more =
      let before = on (item d ds) rest (item_more (json.value depth) n ts r d some going first ds rest more) in
      (before.0, before.1, before.2 ∙ ap (λ one. after found (cons_of one (each_of f ds))) is ∙ after_one found x (each_of f ds))

  pub items_close : (n : ℕ) (ts r : List Token) → length ts ≤ n → after_end_array ts ≡ Some r
      → ItemsGoOn f depth initial found n ts → (all : Items) × BeginsWithItems depth initial all r × (each_of f all ≡ Some found)
  items_close n ts r enough closed on =
      let before = on no_items r (ap (converted of_items) (items_end (json.value depth) n ts r enough closed)) in
      (before.0, before.1, before.2 ∙ ap Some (append-nil found))

-- ---- objects

-- whatever members are left, the object has them behind those that were found
abbrev pub MembersGoOn : ℕ → List Token → Members → ℕ → List Token → Type 0
MembersGoOn depth initial found n tokens =
    (ms : Members) (rest : List Token) → converted (λ js. of_members js found) (json.members (json.value depth) n tokens) ≡ Some (ms, rest) → BeginsWithMembers depth initial ms rest

pub members_begin : (depth : ℕ) (initial : List Token) → MembersGoOn depth initial no_members (length initial) initial
members_begin depth initial ms rest is = is

pub member_goes_on : (depth : ℕ) (initial : List Token) (found : Members) (n : ℕ) (k : List ℕ) (ts s r : List Token) (d : Data) → 0 < n → read_key ts ≡ Some (Some k, s)
    → BeginsWith depth s d r → MembersGoOn depth initial found n ts → MembersGoOn depth initial (put k d found) (n - 1) r
member_goes_on depth initial found n k ts s r d some key first on ms rest more = on ms rest (member_more (json.value depth) n k ts s r d some key first found ms rest more)

pub members_close : (depth : ℕ) (initial : List Token) (found : Members) (n : ℕ) (ts r : List Token) → length ts ≤ n → read_key ts ≡ Some (None, r)
    → MembersGoOn depth initial found n ts → BeginsWithMembers depth initial found r
members_close depth initial found n ts r enough closed on = on found r (ap (converted (λ js. of_members js found)) (members_end (json.value depth) n ts r enough closed))

-- an object of one member
pub one_member : (depth : ℕ) (ts s r rest : List Token) (k : List ℕ) (d : Data) → read_key ts ≡ Some (Some k, s) → BeginsWith depth s d r → length r < length s → read_key r ≡ Some (None, rest)
    → BeginsWithMembers depth ts (member k d no_members) rest
one_member depth ts s r rest k d key first shorter closed =
    let some = read_key-shorter ts (Some k) s key in
    members_close depth ts (member k d no_members) (length ts - 1) r rest (omega (arith, some, shorter)) closed
    (member_goes_on depth ts no_members (length ts) k ts s r d (omega (arith, some)) key first (members_begin depth ts))

-- ---- names in arguments

pub ref_named : (key : List ℕ) (n : ℕ) → key ≡ codes "ref" → n ≤ 2 ^ 32 - 1 → named (object (member key (number (unsigned n)) no_members)) ≡ Some (Actor (actor n))
ref_named key n is fits =
    let least : 0 ≤ n = omega arith in
    ap (λ k. named (object (member k (number (unsigned n)) no_members))) is ∙ rw (le-leb 0 n least, le-leb _ _ fits)

pub sym_named : (key text : List ℕ) → key ≡ codes "sym" → named (object (member key (string text) no_members)) ≡ Some (Symbol text)
sym_named key text is = ap (λ k. named (object (member k (string text) no_members))) is

pub class_named : (key text : List ℕ) → key ≡ codes "class" → named (object (member key (string text) no_members)) ≡ Some (Class text)
class_named key text is = ap (λ k. named (object (member k (string text) no_members))) is

-- ---- lists of values

some_same : {T : Type 0} (x y : T) → ◌≡◌ {A = Option T} (Some x) (Some y) → x ≡ y
some_same x y e = ap (from_some x) e

taken_behind : (d : Data) (ds : Items) (more : Option (List Data)) (all : List Data) → ((rest : List Data) → more ≡ Some rest → ds ≡ items_of rest) → cons_of (Some d) more ≡ Some all → item d ds ≡ items_of all
taken_behind d ds None all behind is = absurd cc
taken_behind d ds (Some rest) all behind is = ap (item d) (behind rest refl) ∙ ap items_of (some_same (d ∷ rest) all is)

-- the items that are all taken as they are
pub taken : (ds : Items) (all : List Data) → each_of Some ds ≡ Some all → ds ≡ items_of all
taken no_items all is = ap items_of (some_same [] all is)
taken (item d ds) all is = taken_behind d ds (each_of Some ds) all (λ rest e. taken ds rest e) is

-- ---- a whole line

pub object_read : (text : List ℕ) (inner : List Token) (ms : Members) → tokens text ≡ Token.begin_object ∷ inner → BeginsWithMembers 126 inner ms [] → read text ≡ Some (object ms)
object_read text inner ms first inside =
    let js = unconverted (λ js. of_members js no_members) (json.members (json.value 126) (length inner) inner) ms [] inside in
    ap (λ there. option_and_then of_json (option_and_then (λ p. json.if_last p.0 p.1) there))
    (ap (json.value 127) first ∙ value-begin_object 127 inner (omega arith) ∙ ap (parse_map json.object) js.1)
    ∙ ap (option_map object) js.2
