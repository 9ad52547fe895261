use Rattle.std.proofs.Common.{◌≡◌, ◌+◌, codes, refl, rules}
use Rattle.std.proofs.lemmas.Result.{on_ok_weaker}
use Rattle.serde_json.specs.Data.{number, string, array, unsigned}
use Rattle.st_wire.specs.declared.line_fields.LineFields.{LineFields}
use Rattle.st_wire.proofs.FoundParts.{whole_kept, text_kept, arguments_kept}
use Rattle.st_wire.proofs.line_fields.LineFields.read.Goals as goal

pub returns-in_ok-read_whole-in-actor-clause-read : goal.returns-in_ok-read_whole-in-actor-clause-read
returns-in_ok-read_whole-in-actor-clause-read c =
    let f = c.args.self.now in
    let g : LineFields = record f { count = f.count + 1; actor = c.keep.new.place } in
    let key : c.args.key.now ≡ codes "actor" = search rules in
    on_ok_weaker c.keep.result (λ h. (number (unsigned c.in_ok-read_whole-in-actor.field-0), c.in_ok-read_whole-in-actor.ensures.read 126, λ ms found. whole_kept f g c.args.key.now (codes "actor") ms key refl (λ q e. rw e) f.actor c.keep.new.place c.in_ok-read_whole-in-actor.field-0 refl refl h found)) c.keep.ensures

pub returns-in_ok-read_arguments-in-args-clause-read : goal.returns-in_ok-read_arguments-in-args-clause-read
returns-in_ok-read_arguments-in-args-clause-read c =
    let f = c.args.self.now in
    let g : LineFields = record f { count = f.count + 1; args = c.keep-in-args.new.place } in
    let key : c.args.key.now ≡ codes "args" = search rules in
    let read = c.in_ok-read_arguments-in-args.ensures.read in
    on_ok_weaker c.keep-in-args.result (λ h. (array read.0, read.1, λ ms found. arguments_kept f g c.args.key.now (codes "args") ms key refl (λ q e. rw e) f.args c.keep-in-args.new.place c.in_ok-read_arguments-in-args.field-0 read.0 refl refl h read.2 found)) c.keep-in-args.ensures

pub returns-in_ok-read_text-in-cmd-clause-read : goal.returns-in_ok-read_text-in-cmd-clause-read
returns-in_ok-read_text-in-cmd-clause-read c =
    let f = c.args.self.now in
    let g : LineFields = record f { count = f.count + 1; cmd = c.keep-in-cmd.new.place } in
    let key : c.args.key.now ≡ codes "cmd" = search rules in
    on_ok_weaker c.keep-in-cmd.result (λ h. (string c.in_ok-read_text-in-cmd.field-0.now, c.in_ok-read_text-in-cmd.ensures.read 126, λ ms found. text_kept f g c.args.key.now (codes "cmd") ms key refl (λ q e. rw e) f.cmd c.keep-in-cmd.new.place c.in_ok-read_text-in-cmd.field-0 refl refl h found)) c.keep-in-cmd.ensures

pub returns-in_ok-read_whole-in-quanta-clause-read : goal.returns-in_ok-read_whole-in-quanta-clause-read
returns-in_ok-read_whole-in-quanta-clause-read c =
    let f = c.args.self.now in
    let g : LineFields = record f { count = f.count + 1; quanta = c.keep-in-quanta.new.place } in
    let key : c.args.key.now ≡ codes "quanta" = search rules in
    on_ok_weaker c.keep-in-quanta.result (λ h. (number (unsigned c.in_ok-read_whole-in-quanta.field-0), c.in_ok-read_whole-in-quanta.ensures.read 126, λ ms found. whole_kept f g c.args.key.now (codes "quanta") ms key refl (λ q e. rw e) f.quanta c.keep-in-quanta.new.place c.in_ok-read_whole-in-quanta.field-0 refl refl h found)) c.keep-in-quanta.ensures

pub returns-in_ok-read_text-in-selector-clause-read : goal.returns-in_ok-read_text-in-selector-clause-read
returns-in_ok-read_text-in-selector-clause-read c =
    let f = c.args.self.now in
    let g : LineFields = record f { count = f.count + 1; selector = c.keep-in-selector.new.place } in
    let key : c.args.key.now ≡ codes "selector" = search rules in
    on_ok_weaker c.keep-in-selector.result (λ h. (string c.in_ok-read_text-in-selector.field-0.now, c.in_ok-read_text-in-selector.ensures.read 126, λ ms found. text_kept f g c.args.key.now (codes "selector") ms key refl (λ q e. rw e) f.selector c.keep-in-selector.new.place c.in_ok-read_text-in-selector.field-0 refl refl h found)) c.keep-in-selector.ensures

pub returns-in_ok-read_whole-in-sender-clause-read : goal.returns-in_ok-read_whole-in-sender-clause-read
returns-in_ok-read_whole-in-sender-clause-read c =
    let f = c.args.self.now in
    let g : LineFields = record f { count = f.count + 1; sender = c.keep-in-sender.new.place } in
    let key : c.args.key.now ≡ codes "sender" = search rules in
    on_ok_weaker c.keep-in-sender.result (λ h. (number (unsigned c.in_ok-read_whole-in-sender.field-0), c.in_ok-read_whole-in-sender.ensures.read 126, λ ms found. whole_kept f g c.args.key.now (codes "sender") ms key refl (λ q e. rw e) f.sender c.keep-in-sender.new.place c.in_ok-read_whole-in-sender.field-0 refl refl h found)) c.keep-in-sender.ensures

pub returns-in_ok-read_whole-in-seq-clause-read : goal.returns-in_ok-read_whole-in-seq-clause-read
returns-in_ok-read_whole-in-seq-clause-read c =
    let f = c.args.self.now in
    let g : LineFields = record f { count = f.count + 1; seq = c.keep-in-seq.new.place } in
    let key : c.args.key.now ≡ codes "seq" = search rules in
    on_ok_weaker c.keep-in-seq.result (λ h. (number (unsigned c.in_ok-read_whole-in-seq.field-0), c.in_ok-read_whole-in-seq.ensures.read 126, λ ms found. whole_kept f g c.args.key.now (codes "seq") ms key refl (λ q e. rw e) f.seq c.keep-in-seq.new.place c.in_ok-read_whole-in-seq.field-0 refl refl h found)) c.keep-in-seq.ensures

pub returns-in_ok-read_whole-in-turn-clause-read : goal.returns-in_ok-read_whole-in-turn-clause-read
returns-in_ok-read_whole-in-turn-clause-read c =
    let f = c.args.self.now in
    let g : LineFields = record f { count = f.count + 1; turn = c.keep-in-turn.new.place } in
    let key : c.args.key.now ≡ codes "turn" = search rules in
    on_ok_weaker c.keep-in-turn.result (λ h. (number (unsigned c.in_ok-read_whole-in-turn.field-0), c.in_ok-read_whole-in-turn.ensures.read 126, λ ms found. whole_kept f g c.args.key.now (codes "turn") ms key refl (λ q e. rw e) f.turn c.keep-in-turn.new.place c.in_ok-read_whole-in-turn.field-0 refl refl h found)) c.keep-in-turn.ensures

pub returns-in_ok-read_text-in-class-clause-read : goal.returns-in_ok-read_text-in-class-clause-read
returns-in_ok-read_text-in-class-clause-read c =
    let f = c.args.self.now in
    let g : LineFields = record f { count = f.count + 1; class = c.keep-in-class.new.place } in
    let key : c.args.key.now ≡ codes "class" = search rules in
    on_ok_weaker c.keep-in-class.result (λ h. (string c.in_ok-read_text-in-class.field-0.now, c.in_ok-read_text-in-class.ensures.read 126, λ ms found. text_kept f g c.args.key.now (codes "class") ms key refl (λ q e. rw e) f.class c.keep-in-class.new.place c.in_ok-read_text-in-class.field-0 refl refl h found)) c.keep-in-class.ensures

pub returns-in_ok-read_text-in-epoch-clause-read : goal.returns-in_ok-read_text-in-epoch-clause-read
returns-in_ok-read_text-in-epoch-clause-read c =
    let f = c.args.self.now in
    let g : LineFields = record f { count = f.count + 1; epoch = c.keep-in-epoch.new.place } in
    let key : c.args.key.now ≡ codes "epoch" = search rules in
    on_ok_weaker c.keep-in-epoch.result (λ h. (string c.in_ok-read_text-in-epoch.field-0.now, c.in_ok-read_text-in-epoch.ensures.read 126, λ ms found. text_kept f g c.args.key.now (codes "epoch") ms key refl (λ q e. rw e) f.epoch c.keep-in-epoch.new.place c.in_ok-read_text-in-epoch.field-0 refl refl h found)) c.keep-in-epoch.ensures

pub returns-in_ok-read_text-in-source-clause-read : goal.returns-in_ok-read_text-in-source-clause-read
returns-in_ok-read_text-in-source-clause-read c =
    let f = c.args.self.now in
    let g : LineFields = record f { count = f.count + 1; source = c.keep-in-source.new.place } in
    let key : c.args.key.now ≡ codes "source" = search rules in
    on_ok_weaker c.keep-in-source.result (λ h. (string c.in_ok-read_text-in-source.field-0.now, c.in_ok-read_text-in-source.ensures.read 126, λ ms found. text_kept f g c.args.key.now (codes "source") ms key refl (λ q e. rw e) f.source c.keep-in-source.new.place c.in_ok-read_text-in-source.field-0 refl refl h found)) c.keep-in-source.ensures

pub returns-in_ok-read_whole-in-ms-clause-read : goal.returns-in_ok-read_whole-in-ms-clause-read
returns-in_ok-read_whole-in-ms-clause-read c =
    let f = c.args.self.now in
    let g : LineFields = record f { count = f.count + 1; ms = c.keep-in-ms.new.place } in
    let key : c.args.key.now ≡ codes "ms" = search rules in
    on_ok_weaker c.keep-in-ms.result (λ h. (number (unsigned c.in_ok-read_whole-in-ms.field-0), c.in_ok-read_whole-in-ms.ensures.read 126, λ ms found. whole_kept f g c.args.key.now (codes "ms") ms key refl (λ q e. rw e) f.ms c.keep-in-ms.new.place c.in_ok-read_whole-in-ms.field-0 refl refl h found)) c.keep-in-ms.ensures
