use Rattle.std.proofs.Common.{◌≡◌, ◌-◌, Some, None, arith}
use Rattle.json.specs.Json.{read_key}
use Rattle.json.proofs.Grammar.{read_key-shorter}
use Rattle.serde_json.specs.Data.{no_members, put}
use Rattle.st_wire.proofs.Fronts.{members_begin, member_goes_on, members_close}
use Rattle.st_wire.proofs.line_fields.LineFields.read_all.Goals as goal

pub members-init : goal.members-init
members-init c = (_, omega arith, no_members, c.requires, members_begin 126 c.args.reader.now)

pub members-preserved : goal.members-preserved
members-preserved c =
    let l = c.members in
    let n = l.invariant.0 in
    let ms = l.invariant.2 in
    let key = c.in-Some.key.now in
    let s = c.next_key.new.self in
    let r = c.read.new.reader in
    let named : read_key l.reader ≡ Some (Some key, s) = grind arith in
    let shorter = read_key-shorter l.reader (Some key) s named in
    let read = c.in_ok-read.ensures.read in (
      n - 1,
      omega (arith, shorter, c.in_ok-read.ensures.shorter, l.invariant.1),
      put key read.0 ms,
      read.2 ms l.invariant.3,
      member_goes_on 126 c.args.reader.now ms n key l.reader s r read.0 (omega (arith, shorter, l.invariant.1)) named read.1 l.invariant.4,
    )

pub returns : goal.returns
returns c =
    let l = c.members in
    let closed : read_key l.reader ≡ Some (None, c.next_key.new.self) = grind arith in
    (l.invariant.2, members_close 126 c.args.reader.now l.invariant.2 l.invariant.0 l.reader c.next_key.new.self l.invariant.1 closed l.invariant.4, l.invariant.3)
