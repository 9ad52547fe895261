use Rattle.std.proofs.Common.{ℕ, List, refl, subst}
use Rattle.std.specs.Prelude.{All}
use Rattle.serde_json.specs.Written.{compact_text}
use Rattle.st_classes.specs.declared.edits.Edit.{Edit}
use Rattle.st_image.specs.declared.actor_part.ActorPart.{ActorPart}
use Rattle.st_image.specs.Parts.{world_of_parts}
use Rattle.st_file.specs.ImageJson.{image_json}
use Rattle.st_file.specs.Ranges.{ActorIsInRange, ClientIsInRange}
use Rattle.st_file.specs.Saving.{IsWrittenAs, TellsSnapshot}
use Rattle.st_file.specs.Tellable.{HasSent}
use Rattle.st_file.specs.TextWriters.{Puts}
use Rattle.st_file.proofs.Described.{clients_have_sent, told_document}
use Rattle.st_file.proofs.ImageForms.{image_plain, image_read, image_text_again}
use Rattle.st_file.proofs.NamedParts.{world_actors_are_named}
use Rattle.st_file.proofs.image_snapshots.ImageSnapshot.write.Goals as goal

pub returns : goal.returns
returns g c =
    let m = c.self.inside in
    let kept = c.self.invariant in
    let json = image_json m.names m.table m.parts.items m.clients.items m.counts in
    let named = world_actors_are_named m.names m.table _ m.parts.items kept.actors.each in
    let range : All ActorIsInRange m.parts.items = rw c.deref.ensures.value at c.all_in_range.ensures in
    let ranged : All ClientIsInRange m.clients.items = rw c.deref-2.ensures.value at c.all_in_range-2.ensures in
    let sent : All HasSent m.clients.items = clients_have_sent _ m.clients.items kept.senders.0 in
    let read = image_read m.names m.table m.parts.items m.clients.items m.counts c.known.ensures kept.lawful named range sent ranged kept.counted in
    let plain = image_plain m.names m.table m.parts.items m.clients.items m.counts in
    let tells : TellsSnapshot (record { names = m.names; base = world_of_parts m.table m.parts.items m.clients.items; counts = m.counts }) _ = record {
      parts = m.parts.items;
      names = refl;
      edits = refl;
      actors = read.meant;
      of_parts = refl;
      fit = kept.actors;
      in_order = kept.senders;
      reloads = c.reloads.ensures m.names m.table c.known.ensures kept.lawful kept.suited kept.compiled;
      senders = refl;
      counts = refl;
    } in
    let written : IsWrittenAs json (record { names = m.names; base = world_of_parts m.table m.parts.items m.clients.items; counts = m.counts }) = record {
      document = told_document json _ _ (read.read, read.format) plain.ordered tells;
      again = image_text_again m.names m.table m.parts.items m.clients.items m.counts range ranged kept.counted;
      shallow = plain.shallow;
      whole = plain.whole;
    } in
    let put = λ (edits : List Edit) (parts : List ActorPart) (clients : List (ℕ × ℕ)).
    Puts g.O.Output.contents g.O.Output.failures g.O.Output.flushes c.args.output.now c.image.new.output c.args.writer.now c.image.new.writer (compact_text (image_json m.names edits parts clients m.counts)) in
    let shown = subst (λ edits. put edits c.deref-3.result.now c.deref-4.result.now) c.shown-version.ensures c.image.ensures in
    let with_parts = subst (λ parts. put m.table parts c.deref-4.result.now) c.deref-3.ensures.value shown in
    let puts = subst (λ clients. put m.table m.parts.items clients) c.deref-4.ensures.value with_parts in
    rw (← c.self.view_is) (json, written, puts)
