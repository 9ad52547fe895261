use Rattle.std.proofs.Common.{Ok, Option, String, Global, subst}
use Rattle.tokio_util.specs.Codec.Next.{DecodesAtEnd}
use Rattle.tokio_util.specs.Codec.Lines.{gives_lines}
use Rattle.st_session.specs.declared.unread.Unread.{Unread}
use Rattle.st_session.proofs.TakingLast.{takes_last_text, takes_last_none, takes_last_error}
use Rattle.st_session.proofs.unread.Unread.take_last.Goals as goal

pub returns-in-Ok-Some : goal.returns-in-Ok-Some
returns-in-Ok-Some c p h none =
    let u : Unread = record { codec = c.decode_eof.new.self; bytes = c.decode_eof.new.src } in
    let old = c.args.self.now in
    let d = subst (λ (o : Option (String Global)). DecodesAtEnd gives_lines old.codec old.bytes.items (Ok o) u.codec u.bytes.items) c.in-Ok-Some.field-0-is c.in-Ok-Some.ensures in
    takes_last_text p old u c.in-Ok-Some.text h none d

pub returns-in-Ok-None : goal.returns-in-Ok-None
returns-in-Ok-None c p h none =
    let u : Unread = record { codec = c.decode_eof.new.self; bytes = c.decode_eof.new.src } in
    let old = c.args.self.now in
    let d = subst (λ (o : Option (String Global)). DecodesAtEnd gives_lines old.codec old.bytes.items (Ok o) u.codec u.bytes.items) c.in-Ok-None.field-0-is c.in-Ok-None.ensures in
    takes_last_none p old u h none d

pub returns-in-Err : goal.returns-in-Err
returns-in-Err c p h none =
    let u : Unread = record { codec = c.decode_eof.new.self; bytes = c.decode_eof.new.src } in
    takes_last_error p c.args.self.now u c.in-Err.error c.cut_at.result h none c.in-Err.ensures c.cut_at.ensures
