use Rattle.std.proofs.Common.{add-one, drop-cons, take, take-suc, take_all, arith}
use Rattle.std.specs.Prelude.{All}
use Rattle.std.proofs.lemmas.List.{drop_all}
use Rattle.std.proofs.lemmas.List.Elements.{All-push}
use Rattle.st_file.proofs.TextWriting.{puts_then}
use Rattle.st_journal.specs.EntryLines.{entries_text}
use Rattle.st_journal.specs.Telling.{WasWritten}
use Rattle.st_journal.proofs.LinesWritten.{on_any, puts_nothing, written}
use Rattle.st_journal.proofs.lines.write_lines.Goals as goal

pub loop-entry-preserved : goal.loop-entry-preserved
loop-entry-preserved g c =
    let entries = c.args.entries.now in
    let index = c.loop-entry.entry-index in
    let before = c.loop-entry.invariant in
    let is_text = c.can_be_line.ensures.0 c.if-not-can_be_line.false in (
      λ d w more.
          before.0 d w (rw (drop-cons entries index c.entry-item.result (omega arith), ← c.entry-item.is) (puts_then (puts_then c.write.ensures c.put.ensures) (rw (add-one) at more))),
      rw (add-one, take-suc entries index c.entry-item.result (omega arith), ← c.entry-item.is)
          (All-push (WasWritten c.args.names.now c.args.version.now) (take index entries) c.entry-item.result before.1 (is_text, c.write.ensures.utf8)),
    )

pub returns-clause-text : goal.returns-clause-text
returns-clause-text g c =
    let new = c.new-writer.ensures in
    let left = drop_all c.loop-entry.entry-index c.args.entries.now (omega (arith, c.loop-entry-test.false)) in
    let all = c.loop-entry.invariant.0 _ _ (rw left (puts_nothing _ _)) in
    written c.finish.result (entries_text c.args.names.now c.args.version.now c.args.entries.now) new.unfailed new.nothing.0 new.nothing.1 all.sends c.finish.ensures

pub returns-clause-written : goal.returns-clause-written
returns-clause-written g c =
    let all = take_all c.loop-entry.entry-index c.args.entries.now (omega (arith, c.loop-entry-test.false)) in
    on_any c.finish.result (All (WasWritten c.args.names.now c.args.version.now) c.args.entries.now) (rw all at c.loop-entry.invariant.1)
