use Rattle.std.proofs.Common.{rules, ◌≡◌, ◌<◌, ◌+◌, ◌++◌, ◌∷◌, [], ◌∙◌, List, ap, length, refl, subst, sym, take}
use Rattle.std.proofs.lemmas.List.{take_more}
use Rattle.st_system.specs.declared.events.Event.{Event}
use Rattle.st_system.specs.Acts.{Leads}
use Rattle.st_system.specs.Happening.{Happen}
use Rattle.st_system.specs.Schedules.{schedule}
use Rattle.st_system.proofs.EventRuns.{leads_push}
use Rattle.st_system.proofs.Happening.{happen_push}
use Rattle.st_system.proofs.Segmenting.{one_segment, segments_more}
use Rattle.st_system.proofs.system.System.run.Goals as goal

pub loop-event-init : goal.loop-event-init
loop-event-init g c = (([], refl), one_segment c.args.self.now.image c.known_segment.ensures, refl)

pub loop-event-preserved : goal.loop-event-preserved
loop-event-preserved g c =
    let events = c.args.events.now in
    let i = c.loop-event.event-index in
    let event = c.event-item.result in
    let within : i < length events = search rules in
    let first : take (i + 1) events ≡ take i events ++ event ∷ [] =
    take_more events i event within ∙ ap (λ (e : Event). take i events ++ e ∷ []) (sym c.event-item.is) in (
      subst (λ (es : List Event). Leads (schedule c.args.self.now) es (schedule c.apply-answer.new.self)) (sym first) (leads_push (schedule c.args.self.now) (schedule c.loop-event.self) (schedule c.apply-answer.new.self) (take i events) event c.apply-answer.result c.loop-event.invariant.0 c.apply-answer.ensures.acts),
      segments_more c.args.self.now.image (schedule c.loop-event.self) (schedule c.apply-answer.new.self) event c.apply-answer.result c.known_segment-in-loop-event.ensures c.apply-answer.ensures.acts c.loop-event.invariant.1,
      subst (λ (es : List Event). Happen g.G.Guard.count g.G.Guard.floor g.G.Guard.raises c.args.self.now es c.apply-answer.new.self) (sym first) (happen_push g.G.Guard.count g.G.Guard.floor g.G.Guard.raises c.args.self.now c.loop-event.self c.apply-answer.new.self (take i events) event c.apply-answer.result c.loop-event.invariant.2 (record {
        acts = c.apply-answer.ensures.acts;
        forgotten = c.apply-answer.ensures.forgotten;
        others = c.apply-answer.ensures.others;
        work = c.apply-answer.ensures.work;
      })),
    )
