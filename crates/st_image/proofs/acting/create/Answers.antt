use Rattle.std.proofs.Common.{◌≡◌, ◌<◌, ◌++◌, ◌∷◌, [], arith, length, false, ap, ◌∙◌, subst}
use Rattle.std.proofs.lemmas.Grind.{common_steps}
use Rattle.std.proofs.lemmas.Bool.Decides.{nat_tests}
use Rattle.st_classes.specs.EditRules.{is_value_class}
use Rattle.st_turn.specs.declared.body.Body.{Body}
use Rattle.st_image.specs.ActorViews.{ActorView, ActorsView, new_actor_view}
use Rattle.st_image.proofs.Keeping.{fresh_body}
use Rattle.st_image.proofs.Creating.{fresh_with}
use Rattle.st_image.proofs.Acts.{create_does, create_grows, kept_is, pushed_out}
use Rattle.st_image.proofs.acting.create.Goals as goal

pub returns-clause-ok : goal.returns-clause-ok
returns-clause-ok g c = λ names w i.
    let body : c.in_ok-body.body ≡ fresh_body c.args.version.now c.args.class = c.in_ok-body.ensures ∙ ap (fresh_with c.args.class) c.slots.ensures in
    let pushed : c.push.new.self.list ≡ c.args.actors.now.list ++ new_actor_view c.args.class c.args.capacity c.in_ok-body.body ∷ [] = kept_is _ _ c.in_ok-push.ensures.ok ∙ ap (λ (k : ActorView). c.args.actors.now.list ++ k ∷ []) c.in_ok-new.ensures in
    let actors : c.push.new.self.list ≡ c.args.actors.now.list ++ new_actor_view c.args.class c.args.capacity (fresh_body c.args.version.now c.args.class) ∷ [] = subst (λ (b : Body). c.push.new.self.list ≡ c.args.actors.now.list ++ new_actor_view c.args.class c.args.capacity b ∷ []) body pushed in
    let open' : is_value_class c.args.class ≡ false = grind (arith, common_steps, nat_tests) in
    let few : length c.args.actors.now.list < 65536 = grind (arith, common_steps) in
    create_does names c.args.capacity c.args.version.now c.args.actors.now.list c.push.new.self.list w c.args.class c.len-number.result i open' few c.len-number.ensures.value actors

pub returns-clause-grown : goal.returns-clause-grown
returns-clause-grown g c = create_grows c.args.actors.now.list c.push.new.self.list c.args.class c.args.capacity c.in_ok-body.body (kept_is _ _ c.in_ok-push.ensures.ok ∙ ap (λ (k : ActorView). c.args.actors.now.list ++ k ∷ []) c.in_ok-new.ensures)

pub returns-clause-out : goal.returns-clause-out
returns-clause-out g c = pushed_out c.args.actors.now.out c.push.new.self.out (ap (λ (v : ActorsView). v.out) c.in_ok-push.ensures.ok)
