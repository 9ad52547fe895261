use Rattle.std.proofs.Common.{◌≡◌, ◌-◌, ◌<◌, length, Some, None, sym, ap, subst, ◌∙◌, arith}
use Rattle.json.specs.Json.{after_end_array}
use Rattle.st_wire.specs.Fields.{argument}
use Rattle.st_wire.specs.Tokens.{BeginsWith}
use Rattle.st_wire.proofs.Fronts.{ItemsGoOn, item_goes_on, items_close}
use Rattle.st_wire.proofs.tokens.read_items.Goals as goal

pub items-preserved : goal.items-preserved
items-preserved c =
    let l = c.items in
    let n = l.invariant.0 in
    let r = c.read_argument.new.reader in
    let going : (after_end_array l.reader ≡ None) × (c.take_end_array.new.self ≡ l.reader) = grind arith in
    let one = c.in_ok-one.ensures.read in
    let first : BeginsWith 125 l.reader one.0 r = subst (λ ts. BeginsWith 125 ts one.0 r) going.1 one.1 in
    let less : length r < length l.reader = subst (λ ts. length r < length ts) going.1 c.in_ok-one.ensures.shorter in
    let on = item_goes_on argument 125 c.args.reader.now l.found.items n l.reader r one.0 c.in_ok-one.one (omega (arith, less, l.invariant.1)) going.0 first one.2 l.invariant.2 in
    (n - 1, omega (arith, less, l.invariant.1), subst (λ found. ItemsGoOn argument 125 c.args.reader.now found (n - 1) r) (sym c.in_ok-push.ensures.items) on, omega (arith, less, l.invariant.3))

pub returns-clause-read : goal.returns-clause-read
returns-clause-read c =
    let l = c.items in
    let closed : after_end_array l.reader ≡ Some c.take_end_array.new.self = grind arith in
    let all = items_close argument 125 c.args.reader.now l.found.items l.invariant.0 l.reader c.take_end_array.new.self l.invariant.1 closed l.invariant.2 in
    (all.0, all.1, all.2 ∙ ap Some (sym c.from_vec.ensures))
