use Rattle.std.proofs.Common.{◌≡◌, true, drop}
use Rattle.std.specs.List.{list_all}
use Rattle.st_reader.specs.Syntax.{Expression}
use Rattle.st_reader.specs.TreeViews.{expression_view, message_view, sends, parts_of, further_of, seen_parts, seen_further}
use Rattle.st_reader.specs.WellFormed.{allowed, parts_allowed, further_allowed}
use Rattle.st_reader.specs.Variables.{argument_texts}
use Rattle.st_reader.specs.ExpressionKinds.{expression_kind}
use Rattle.std.proofs.Common.{map}
use Rattle.st_reader.proofs.Allowed.{Sending}
use Rattle.st_reader.proofs.rules.+rules.Given as goal

abbrev pub invariant-further_allowed-loop-message : goal.invariant-further_allowed-loop-message
invariant-further_allowed-loop-message l =
    further_allowed (argument_texts l.pattern) (further_of (seen_further l.further)) ≡ further_allowed (argument_texts l.pattern) (further_of (seen_further (drop l.message-index l.further)))

abbrev pub invariant-parts_allowed-loop-part : goal.invariant-parts_allowed-loop-part
invariant-parts_allowed-loop-part l =
    parts_allowed (argument_texts l.pattern) (parts_of (seen_parts l.parts)) ≡ parts_allowed (argument_texts l.pattern) (parts_of (seen_parts (drop l.part-index l.parts)))

abbrev pub invariant-sentences_allowed-loop-sentence : goal.invariant-sentences_allowed-loop-sentence
invariant-sentences_allowed-loop-sentence l =
    list_all (λ s. allowed (argument_texts l.pattern) (expression_view s.0)) l.before ≡ list_all (λ s. allowed (argument_texts l.pattern) (expression_view s.0)) (drop l.sentence-index l.before)

abbrev pub invariant-messages_allowed-loop-message : goal.invariant-messages_allowed-loop-message
invariant-messages_allowed-loop-message l =
    (e : Expression) → expression_kind e ≡ l.fn.receiver → allowed (argument_texts l.pattern) e ≡ true → Sending (argument_texts l.pattern) l.receiver (sends e (map message_view l.messages)) (drop l.message-index l.messages)
