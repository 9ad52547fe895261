use Rattle.std.proofs.Common.{Ok, Option, String, Global, subst}
use Rattle.tokio_util.specs.Codec.Next.{Decodes}
use Rattle.tokio_util.specs.Codec.Lines.{gives_lines}
use Rattle.st_session.specs.declared.unread.Unread.{Unread}
use Rattle.st_session.proofs.Taking.{takes_text, takes_none, takes_error, takes_byte, error_no_shorter}
use Rattle.st_session.proofs.unread.Unread.take.Goals as goal

pub returns-in-Ok-Some-clause-takes : goal.returns-in-Ok-Some-clause-takes
returns-in-Ok-Some-clause-takes c p h =
    let u : Unread = record { codec = c.decode.new.self; bytes = c.decode.new.src } in
    let old = c.args.self.now in
    let d = subst (λ (o : Option (String Global)). Decodes gives_lines old.codec old.bytes.items (Ok o) u.codec u.bytes.items) c.in-Ok-Some.field-0-is c.in-Ok-Some.ensures.next in
    takes_text p old u c.in-Ok-Some.text h d

pub returns-in-Ok-Some-clause-shorter : goal.returns-in-Ok-Some-clause-shorter
returns-in-Ok-Some-clause-shorter c =
    let old = c.args.self.now in
    let d = subst (λ (o : Option (String Global)). Decodes gives_lines old.codec old.bytes.items (Ok o) c.decode.new.self c.decode.new.src.items) c.in-Ok-Some.field-0-is c.in-Ok-Some.ensures.next in
    takes_byte old.codec old.bytes.items c.in-Ok-Some.text c.decode.new.self c.decode.new.src.items d

pub returns-in-Ok-None-clause-takes : goal.returns-in-Ok-None-clause-takes
returns-in-Ok-None-clause-takes c p h =
    let u : Unread = record { codec = c.decode.new.self; bytes = c.decode.new.src } in
    let old = c.args.self.now in
    let d = subst (λ (o : Option (String Global)). Decodes gives_lines old.codec old.bytes.items (Ok o) u.codec u.bytes.items) c.in-Ok-None.field-0-is c.in-Ok-None.ensures.next in
    takes_none p old u h d.0 d.1

pub returns-in-Err-clause-takes : goal.returns-in-Err-clause-takes
returns-in-Err-clause-takes c p h =
    let u : Unread = record { codec = c.decode.new.self; bytes = c.decode.new.src } in
    takes_error p c.args.self.now u c.in-Err.error c.cut_at.result h c.in-Err.ensures.next c.cut_at.ensures

pub returns-in-Err-clause-shorter : goal.returns-in-Err-clause-shorter
returns-in-Err-clause-shorter c = error_no_shorter c.in-Err.error c.cut_at.result _ _ c.cut_at.ensures
