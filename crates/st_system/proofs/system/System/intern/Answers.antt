use Rattle.std.proofs.Common.{Result, ap, refl, subst, sym}
use Rattle.st_classes.specs.declared.refusals.Refusal.{Refusal}
use Rattle.st_calls.specs.declared.calls.Answer.TheVariants.{Interned}
use Rattle.st_calls.specs.declared.calls.Call.TheVariants as call
use Rattle.st_system.specs.declared.events.Answer.{Answer}
use Rattle.st_system.specs.declared.events.Answer.TheVariants.{Called}
use Rattle.st_calls.specs.Does.{told}
use Rattle.st_system.specs.ImageEvents.{Calls}
use Rattle.st_system.specs.Schedules.{schedule}
use Rattle.st_system.specs.SystemWorkers.{SystemView}
use Rattle.st_system.proofs.OtherWorkers.{leaves_all}
use Rattle.st_system.proofs.SystemWorkers.{all_later}
use Rattle.st_system.proofs.WorkersActing.{image_acts}
use Rattle.st_system.proofs.system.System.intern.Goals as goal

pub invariant_of-self : goal.invariant_of-self
invariant_of-self g c = all_later c.self.inside.image c.intern-answer.new.image c.self.inside.workers.items c.intern-answer.ensures.later c.self.invariant

pub returns-clause-acts : goal.returns-clause-acts
returns-clause-acts g c =
    let S : SystemView g.row.G.Denot = record { image = c.self.inside.image; workers = c.self.inside.workers.items } in
    let T : SystemView g.row.G.Denot = record { image = c.intern-answer.new.image; workers = c.self.inside.workers.items } in
    let acts : Calls (schedule c.args.self.now) (call.Intern c.args.text.now) (told Called (told Interned c.intern-answer.result)) (schedule T) =
    subst (λ (X : SystemView g.row.G.Denot). Calls (schedule X) (call.Intern c.args.text.now) (told Called (told Interned c.intern-answer.result)) (schedule T)) c.self.view_is (image_acts (call.Intern c.args.text.now) S T (told Interned c.intern-answer.result) c.intern-answer.ensures.does refl) in
    subst (λ (r : Result Answer Refusal). Calls (schedule c.args.self.now) (call.Intern c.args.text.now) r (schedule T)) (sym c.called.ensures) acts

pub returns-clause-others : goal.returns-clause-others
returns-clause-others g c = leaves_all _ c.args.self.now.workers c.self.inside.workers.items (ap (λ (X : SystemView g.row.G.Denot). X.workers) c.self.view_is)
