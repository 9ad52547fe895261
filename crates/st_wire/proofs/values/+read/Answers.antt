use Rattle.std.proofs.Common.{◌≡◌, ◌-◌, ◌<◌, ◌++◌, ◌∷◌, [], length, map, Some, None, string_bytes, sym, ap, subst, ◌∙◌, arith, rules, refl}
use Rattle.std.proofs.lemmas.List.{map-append}
use Rattle.json.specs.Token.{Token}
use Rattle.json.specs.Json.{after_end_array, read_key}
use Rattle.json.proofs.Grammar.{read_key-shorter}
use Rattle.serde_json.specs.Data.{null, boolean, number, string, array, object, put}
use Rattle.serde_json.specs.View.{view, items_view, members_view}
use Rattle.serde_json.specs.declared.value.Value.{String, Bool, Null, the_lemmas}
use Rattle.serde_json.proofs.Views.{view-Array, view-Object, members_view-insert_entry}
use Rattle.st_wire.specs.Tokens.{BeginsWith, BeginsWithItems}
use Rattle.st_wire.proofs.Fronts.{ItemsGoOn, MembersGoOn, items_begin, item_goes_on, items_close, members_begin, member_goes_on, members_close, number_first, string_first, boolean_first, null_first, array_first, object_first, taken}
use Rattle.st_wire.proofs.values.+read.Goals as goal

pub read_items-items-init : goal.read_items-items-init
read_items-items-init t c =
    (_, omega arith, items_begin Some c.args.depth c.args.reader.now _ (ap (map view) c.new-found.ensures.items), omega arith)

pub read_items-items-preserved : goal.read_items-items-preserved
read_items-items-preserved t c =
    let l = c.items in
    let n = l.invariant.0 in
    let r = c.read_value.new.reader in
    let v = view c.in_ok-one.one in
    let depth = c.args.depth in
    let going : (after_end_array l.reader ≡ None) × (c.take_end_array.new.self ≡ l.reader) = grind arith in
    let first : BeginsWith depth l.reader v r = subst (λ ts. BeginsWith depth ts v r) going.1 c.in_ok-one.ensures.read in
    let less : length r < length l.reader = subst (λ ts. length r < length ts) going.1 c.in_ok-one.ensures.shorter in
    let on = item_goes_on Some depth c.args.reader.now (map view l.found.items) n l.reader r v v (omega (arith, less, l.invariant.1)) going.0 first refl l.invariant.2 in
    let grown : map view c.push.new.self.items ≡ map view l.found.items ++ v ∷ [] = ap (map view) c.in_ok-push.ensures.items ∙ map-append view l.found.items (c.in_ok-one.one ∷ []) in
    (n - 1, omega (arith, less, l.invariant.1), subst (λ found. ItemsGoOn Some depth c.args.reader.now found (n - 1) r) (sym grown) on, omega (arith, less, l.invariant.3))

pub read_items-returns-clause-read : goal.read_items-returns-clause-read
read_items-returns-clause-read t c =
    let l = c.items in
    let r = c.take_end_array.new.self in
    let closed : after_end_array l.reader ≡ Some r = grind arith in
    let all = items_close Some c.args.depth c.args.reader.now (map view l.found.items) l.invariant.0 l.reader r l.invariant.1 closed l.invariant.2 in
    subst (λ ds. BeginsWithItems c.args.depth c.args.reader.now ds r) (taken all.0 _ all.2) all.1

pub read_members-members-init : goal.read_members-members-init
read_members-members-init t c =
    (_, omega arith, subst (λ found. MembersGoOn c.args.depth c.args.reader.now found (length c.args.reader.now) c.args.reader.now) (sym (ap members_view c.new-found.ensures.empty)) (members_begin c.args.depth c.args.reader.now), omega arith)

pub read_members-members-preserved : goal.read_members-members-preserved
read_members-members-preserved t c =
    let l = c.members in
    let n = l.invariant.0 in
    let depth = c.args.depth in
    let key = c.in-Some.name.now in
    let s = c.next_key.new.self in
    let r = c.read_value.new.reader in
    let v = c.in_ok-member.member in
    let named : read_key l.reader ≡ Some (Some key, s) = grind arith in
    let shorter = read_key-shorter l.reader (Some key) s named in
    let less = c.in_ok-member.ensures.shorter in
    let copied : string_bytes c.in_ok-key.key ≡ key = search rules in
    let inserted : members_view c.insert.new.self.entries ≡ put key (view v) (members_view l.found.entries) =
    ap members_view c.in_ok-insert.ensures.entries ∙ members_view-insert_entry l.found.entries c.in_ok-key.key v ∙ ap (λ k. put k (view v) (members_view l.found.entries)) copied in
    let on = member_goes_on depth c.args.reader.now (members_view l.found.entries) n key l.reader s r (view v) (omega (arith, shorter, l.invariant.1)) named c.in_ok-member.ensures.read l.invariant.2 in
    (n - 1, omega (arith, shorter, less, l.invariant.1), subst (λ found. MembersGoOn depth c.args.reader.now found (n - 1) r) (sym inserted) on, omega (arith, shorter, less, l.invariant.3))

pub read_members-returns-clause-read : goal.read_members-returns-clause-read
read_members-returns-clause-read t c =
    let l = c.members in
    let closed : read_key l.reader ≡ Some (None, c.next_key.new.self) = grind arith in
    members_close c.args.depth c.args.reader.now (members_view l.found.entries) l.invariant.0 l.reader c.next_key.new.self l.invariant.1 closed l.invariant.2

pub read_value-returns-in_ok-from_str-in-Some-String-clause-read : goal.read_value-returns-in_ok-from_str-in-Some-String-clause-read
read_value-returns-in_ok-from_str-in-Some-String-clause-read t c =
    let text = c.in-Some-String.text.now in
    let first : c.args.reader.now ≡ Token.string text ∷ c.next.new.self = grind arith in
    let seen : view (String c.in_ok-from_str-in-Some-String.field-0) ≡ string text = search (rules, the_lemmas) in
    subst (λ d. BeginsWith c.args.depth c.args.reader.now d c.next.new.self) (sym seen) (string_first c.args.depth _ _ text first)

pub read_value-returns-in-Some-clause-read : goal.read_value-returns-in-Some-clause-read
read_value-returns-in-Some-clause-read t c =
    let text = c.in-Some-Number.text.now in
    let first : c.args.reader.now ≡ Token.number text ∷ c.next.new.self = grind arith in
    let is = c.in-Some.ensures in
    subst (λ d. BeginsWith c.args.depth c.args.reader.now d c.next.new.self) (sym is.2) (number_first c.args.depth _ _ text is.0 first is.1)

pub read_value-returns-in-Some-Bool-clause-read : goal.read_value-returns-in-Some-Bool-clause-read
read_value-returns-in-Some-Bool-clause-read t c =
    let truth = c.in-Some-Bool.truth in
    let first : c.args.reader.now ≡ Token.boolean truth ∷ c.next.new.self = grind arith in
    let seen : view (Bool truth) ≡ boolean truth = search (rules, the_lemmas) in
    subst (λ d. BeginsWith c.args.depth c.args.reader.now d c.next.new.self) (sym seen) (boolean_first c.args.depth _ _ truth first)

pub read_value-returns-in-Some-Null-clause-read : goal.read_value-returns-in-Some-Null-clause-read
read_value-returns-in-Some-Null-clause-read t c =
    let first : c.args.reader.now ≡ Token.null ∷ c.next.new.self = grind arith in
    let seen : view Null ≡ null = search (rules, the_lemmas) in
    subst (λ d. BeginsWith c.args.depth c.args.reader.now d c.next.new.self) (sym seen) (null_first c.args.depth _ _ first)

pub read_value-returns-in_ok-read_items-in-Some-BeginArray-clause-read : goal.read_value-returns-in_ok-read_items-in-Some-BeginArray-clause-read
read_value-returns-in_ok-read_items-in-Some-BeginArray-clause-read t c =
    let first : c.args.reader.now ≡ Token.begin_array ∷ c.next.new.self = grind arith in
    let found = c.in_ok-read_items-in-Some-BeginArray in
    subst (λ d. BeginsWith c.args.depth c.args.reader.now d c.read_items.new.reader) (sym (view-Array found.field-0))
    (array_first c.args.depth _ _ _ _ (omega arith) first found.ensures.read)

pub read_value-returns-in_ok-read_members-in-Some-BeginObject-clause-read : goal.read_value-returns-in_ok-read_members-in-Some-BeginObject-clause-read
read_value-returns-in_ok-read_members-in-Some-BeginObject-clause-read t c =
    let first : c.args.reader.now ≡ Token.begin_object ∷ c.next.new.self = grind arith in
    let found = c.in_ok-read_members-in-Some-BeginObject in
    subst (λ d. BeginsWith c.args.depth c.args.reader.now d c.read_members.new.reader) (sym (view-Object found.field-0))
    (object_first c.args.depth _ _ _ _ (omega arith) first found.ensures.read)
