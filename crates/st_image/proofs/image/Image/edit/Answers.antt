use Rattle.st_image.specs.ActResults.{constants_of}
use Rattle.std.proofs.Common.{arith, ◌≡◌, ◌+◌, ◌++◌, [], ◌∷◌, List, length, true, None, refl, sym, ap, ◌∙◌, subst}
use Rattle.std.proofs.lemmas.Grind.{common_steps}
use Rattle.st_classes.specs.declared.edits.Edit.{Edit}
use Rattle.st_classes.specs.Refusals.{first_of}
use Rattle.st_classes.specs.EditRules.{edit_rules}
use Rattle.st_classes.specs.MethodSuits.{edit_suits}
use Rattle.st_image.specs.declared.history.Item.TheVariants.{Edited}
use Rattle.st_image.specs.Images.{ImageView, run_rules, world, world_of}
use Rattle.st_image.specs.CompiledEdits.{AllCompiled, IsCompiledEdit}
use Rattle.st_image.proofs.CompiledEdits.{all_with}
use Rattle.st_image.proofs.Posting.{seen, standing_of}
use Rattle.st_image.proofs.Keeping.{edits_few}
use Rattle.st_image.proofs.Lists.{off_append}
use Rattle.st_image.proofs.Editing.{IsEdited, edited}
use Rattle.st_image.proofs.ClientNumbers.{kept_other}
use Rattle.st_image.proofs.Sends.{sends_other}
use Rattle.st_image.proofs.CountingChanges.{counts_other}
use Rattle.st_image.proofs.CountingItems.{items_other}
use Rattle.st_image.proofs.Failing.{failures_other}
use Rattle.st_image.proofs.image.Image.edit.Goals as goal

pub overflow_add-self : goal.overflow_add-self
overflow_add-self g c = omega (arith, edits_few c.self.inside.history.items, c.self.invariant.image.counted, c.self.invariant.image.few_items, c.self.invariant.image.numbers.few_items)

pub with_edit-requires-clause-accepted : goal.with_edit-requires-clause-accepted
with_edit-requires-clause-accepted g c = (off_append (edit_rules (world c.args.self.now).edits c.args.edit) (run_rules c.args.self.now) (sym c.in_default.ensures)).0

pub invariant_of-self-2 : goal.invariant_of-self-2
invariant_of-self-2 g c =
    let i = c.self.inside in
    let w = world_of (constants_of i.names i.settings.capacity) i.base i.history.items in
    let suits : edit_suits i.names w.edits c.args.edit ≡ true = subst (λ (v : ImageView). edit_suits v.names (world v).edits c.args.edit ≡ true) (sym c.self.view_is) c.requires.suits in
    let allowed : first_of (edit_rules w.edits c.args.edit ++ run_rules (seen i.base i.names i.history.items i.settings (standing_of i.earlier i.next_from i.actors.out i.tallies))) ≡ None = subst (λ (v : ImageView). first_of (edit_rules (world v).edits c.args.edit ++ run_rules v) ≡ None) (sym c.self.view_is) (sym c.in_default.ensures) in
    let after : c.in_ok-made.made.token ≡ w.edits ++ c.args.edit ∷ [] = subst (λ (v : ImageView). c.in_ok-made.made.token ≡ (world v).edits ++ c.args.edit ∷ []) (sym c.self.view_is) c.in_ok-made.ensures.token in
    let put : c.push.new.self.items ≡ i.history.items ++ Edited c.in_ok-made.made.item ∷ [] = grind (arith, common_steps) in
    let items : c.push.new.self.items ≡ i.history.items ++ Edited c.args.edit ∷ [] = subst (λ (x : Edit). c.push.new.self.items ≡ i.history.items ++ Edited x ∷ []) c.in_ok-made.ensures.item put in
    let here : IsCompiledEdit i.names i.token c.args.edit = subst (λ (es : List Edit). IsCompiledEdit i.names es c.args.edit) (sym c.self.invariant.image.shows.edits_are) (subst (λ (v : ImageView). IsCompiledEdit v.names (world v).edits c.args.edit) (sym c.self.view_is) c.requires.compiled) in
    let compiled : AllCompiled i.names c.in_ok-made.made.token = subst (AllCompiled i.names) (sym (after ∙ ap (λ (es : List Edit). es ++ c.args.edit ∷ []) (sym c.self.invariant.image.shows.edits_are))) (all_with i.names i.token c.args.edit c.self.invariant.compiled here) in
    let e : IsEdited i.base i.names c.in_ok-made.made.token i.actors.list (i.history.items ++ Edited c.args.edit ∷ []) (i.edits_made + 1) i.settings = edited i.base i.names i.token c.in_ok-made.made.token i.actors.list i.history.items i.edits_made i.settings (standing_of i.earlier i.next_from i.actors.out i.tallies) c.args.edit c.self.invariant.image c.known.ensures suits allowed after in
    rw items (record { image = e.image; numbers_of_clients = kept_other i.clients i.base.clients i.history.items (Edited c.args.edit) (λ qs. refl) c.self.invariant.numbers_of_clients; sends = sends_other i.base i.names i.token i.actors.list i.history.items i.edits_made i.settings i.tallies (Edited c.args.edit) c.self.invariant.image c.self.invariant.sends refl; counts = counts_other i.changes i.history.items (Edited c.args.edit) (λ a. refl) c.self.invariant.counts; totals = items_other i.counts i.earlier i.history.items (Edited c.args.edit) refl refl c.self.invariant.totals; compiled = compiled; before = c.self.invariant.before; failures = failures_other i.base i.names i.token i.actors.list i.history.items i.edits_made i.settings i.earlier.steps i.failures (Edited c.args.edit) c.self.invariant.image c.self.invariant.failures refl })

pub returns : goal.returns
returns g c =
    let i = c.self.inside in
    let w = world_of (constants_of i.names i.settings.capacity) i.base i.history.items in
    let suits : edit_suits i.names w.edits c.args.edit ≡ true = subst (λ (v : ImageView). edit_suits v.names (world v).edits c.args.edit ≡ true) (sym c.self.view_is) c.requires.suits in
    let allowed : first_of (edit_rules w.edits c.args.edit ++ run_rules (seen i.base i.names i.history.items i.settings (standing_of i.earlier i.next_from i.actors.out i.tallies))) ≡ None = subst (λ (v : ImageView). first_of (edit_rules (world v).edits c.args.edit ++ run_rules v) ≡ None) (sym c.self.view_is) (sym c.in_default.ensures) in
    let after : c.in_ok-made.made.token ≡ w.edits ++ c.args.edit ∷ [] = subst (λ (v : ImageView). c.in_ok-made.made.token ≡ (world v).edits ++ c.args.edit ∷ []) (sym c.self.view_is) c.in_ok-made.ensures.token in
    let put : c.push.new.self.items ≡ i.history.items ++ Edited c.in_ok-made.made.item ∷ [] = grind (arith, common_steps) in
    let items : c.push.new.self.items ≡ i.history.items ++ Edited c.args.edit ∷ [] = subst (λ (x : Edit). c.push.new.self.items ≡ i.history.items ++ Edited x ∷ []) c.in_ok-made.ensures.item put in
    let e : IsEdited i.base i.names c.in_ok-made.made.token i.actors.list (i.history.items ++ Edited c.args.edit ∷ []) (i.edits_made + 1) i.settings = edited i.base i.names i.token c.in_ok-made.made.token i.actors.list i.history.items i.edits_made i.settings (standing_of i.earlier i.next_from i.actors.out i.tallies) c.args.edit c.self.invariant.image c.known.ensures suits allowed after in
    let count : c.edits-edits.result ≡ length (world_of (constants_of i.names i.settings.capacity) i.base (i.history.items ++ Edited c.args.edit ∷ [])).edits = c.edits-edits.ensures ∙ ap (λ (es : List Edit). length es) c.shown.ensures ∙ ap (λ (es : List Edit). length es) (sym e.edits_are) in
    ((sym c.in_default.ensures, (rw (items, ← c.self.view_is) refl, rw items count)), tt)
