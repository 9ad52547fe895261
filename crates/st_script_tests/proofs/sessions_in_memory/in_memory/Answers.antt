use Rattle.std.proofs.Common.{◌≡◌, List, ℕ, ◌++◌, Some, drop, refl, ap, ◌∙◌}
use Rattle.st_classes.specs.Refusals.{first_of}
use Rattle.st_wire.specs.Streams.{InputView}
use Rattle.st_script.specs.Scripts.{script_rules, with_settings}
use Rattle.st_script_tests.proofs.InMemory.{answers_whole, refuses_unread}
use Rattle.st_script_tests.proofs.sessions_in_memory.in_memory.Goals as goal

pub returns-clause-refused : goal.returns-clause-refused
returns-clause-refused c =
    let s = c.script_on-image.ensures.script in
    let wrote = s.1 ∙ ap (λ (t : List ℕ). t ++ s.0) c.new-output.ensures.empty in
    refuses_unread (first_of (script_rules c.args.settings)) _ _ _ _ _ _ _ _ wrote s.2

pub returns-clause-answered : goal.returns-clause-answered
returns-clause-answered c =
    let s = c.script_on-image.ensures.script in
    let from = c.new-input.result in
    let to = c.script_on-image.new.input in
    let before : InputView = record { remaining = Some (drop from.place from.bytes.items); failures = 0; reads = from.reads } in
    let after : InputView = record { remaining = Some (drop to.place to.bytes.items); failures = 0; reads = to.reads } in
    let known : Some (drop from.place from.bytes.items) ≡ Some c.args.bytes.items = ap (λ (n : ℕ). Some (drop n from.bytes.items)) c.new-input.ensures.start ∙ rw c.new-input.ensures.whole refl in
    let wrote = s.1 ∙ ap (λ (t : List ℕ). t ++ s.0) c.new-output.ensures.empty in
    answers_whole (first_of (script_rules c.args.settings)) c.args.settings.quantum (with_settings c.args.image c.args.settings) _ before after c.args.bytes.items _ _ _ _ known refl refl wrote s.2
