use Rattle.std.proofs.Common.{[], ◌∷◌, Bool, sym, ap, ◌∙◌, Option, ℕ}
use Rattle.std.specs.Prelude.{not}
use Rattle.std.proofs.lemmas.Option.{slice_get_within}
use Rattle.st_classes.specs.declared.refusals.Refusal.TheVariants.{BadArguments}
use Rattle.st_classes.specs.Refusals.{first_of}
use Rattle.st_image.specs.PostRules.{number_rule, old_rule}
use Rattle.st_image.proofs.Lists.{first_here, first_later}
use Rattle.st_image.proofs.Acts.{if_none, kept_box_rules, rules_kept}
use Rattle.st_image.proofs.acting.post_refusal.Goals as goal

pub returns-then-not-message_fits-clause-value : goal.returns-then-not-message_fits-clause-value
returns-then-not-message_fits-clause-value g c = λ w s l.
    let m = c.args.message.now in
    let k = c.in-Some.found.now in
    sym (rules_kept c.args.names.now c.args.version.now c.args.actors.now.list w c.args.actor k m s (sym c.in-Some.ensures) ∙ ap (λ (t : Bool). first_of ((not t, BadArguments) ∷ number_rule w m.sender m.seq ∷ kept_box_rules k)) (sym c.if-not-message_fits.ensures))

pub returns-in-Some-number_refusal-clause-value : goal.returns-in-Some-number_refusal-clause-value
returns-in-Some-number_refusal-clause-value g c = λ w s l.
    let m = c.args.message.now in
    let k = c.in-Some.found.now in
    sym (rules_kept c.args.names.now c.args.version.now c.args.actors.now.list w c.args.actor k m s (sym c.in-Some.ensures) ∙ ap (λ (t : Bool). first_of ((not t, BadArguments) ∷ number_rule w m.sender m.seq ∷ kept_box_rules k)) (sym c.if-not-message_fits.ensures) ∙ first_here (number_rule w m.sender m.seq ∷ []) (kept_box_rules k) c.in-Some-number_refusal.refusal (ap (λ (o : Option ℕ). first_of (old_rule o m.seq ∷ [])) l ∙ sym c.in-Some-number_refusal.ensures))

pub returns-in-None-clause-value : goal.returns-in-None-clause-value
returns-in-None-clause-value g c = λ w s l.
    let m = c.args.message.now in
    let k = c.in-Some.found.now in
    c.refusal.ensures ∙ sym (rules_kept c.args.names.now c.args.version.now c.args.actors.now.list w c.args.actor k m s (sym c.in-Some.ensures) ∙ ap (λ (t : Bool). first_of ((not t, BadArguments) ∷ number_rule w m.sender m.seq ∷ kept_box_rules k)) (sym c.if-not-message_fits.ensures) ∙ first_later (number_rule w m.sender m.seq ∷ []) (kept_box_rules k) (ap (λ (o : Option ℕ). first_of (old_rule o m.seq ∷ [])) l ∙ sym c.in-None.ensures))

pub returns-in-None-clause-there : goal.returns-in-None-clause-there
returns-in-None-clause-there g c = if_none c.refusal.result _ (slice_get_within c.args.actors.now.list c.args.actor.0 c.in-Some.found.now (sym c.in-Some.ensures))
