use Rattle.std.proofs.Common.{◌≡◌, ◌-◌, ◌<◌, length, Some, None, sym, ap, subst, ◌∙◌, arith}
use Rattle.json.specs.Json.{after_end_array}
use Rattle.st_wire.specs.Tokens.{BeginsWith}
use Rattle.st_wire.proofs.Fronts.{ItemsGoOn, items_begin, item_goes_on, items_close}
use Rattle.st_file.proofs.streaming.lists.items.Goals as goal

pub items-init : goal.items-init
items-init g c = (_, omega arith, items_begin (g.B.Makes.form c.args.by.now) 125 c.args.reader.now _ c.new-found.ensures.items, omega arith)

pub items-preserved : goal.items-preserved
items-preserved g c =
    let f = g.B.Makes.form c.args.by.now in
    let l = c.items in
    let n = l.invariant.0 in
    let r = c.item.new.reader in
    let read = c.in_ok-one.ensures.read in
    let v = read.0 in
    let going : (after_end_array l.reader ≡ None) × (c.take_end_array.new.self ≡ l.reader) = grind arith in
    let first : BeginsWith 125 l.reader v r = subst (λ ts. BeginsWith 125 ts v r) going.1 read.1 in
    let less : length r < length l.reader = subst (λ ts. length r < length ts) going.1 c.in_ok-one.ensures.shorter in
    let on = item_goes_on f 125 c.args.reader.now l.found.items n l.reader r v c.in_ok-one.one (omega (arith, less, l.invariant.1)) going.0 first read.2 l.invariant.2 in
    (n - 1, omega (arith, less, l.invariant.1), subst (λ found. ItemsGoOn f 125 c.args.reader.now found (n - 1) r) (sym c.in_ok-push.ensures.items) on, omega (arith, less, l.invariant.3))

pub returns-clause-read : goal.returns-clause-read
returns-clause-read g c =
    let f = g.B.Makes.form c.args.by.now in
    let l = c.items in
    let r = c.take_end_array.new.self in
    let closed : after_end_array l.reader ≡ Some r = grind arith in
    let all = items_close f 125 c.args.reader.now l.found.items l.invariant.0 l.reader r l.invariant.1 closed l.invariant.2 in
    (all.0, all.1, all.2 ∙ ap Some (sym c.from_vec.ensures))
