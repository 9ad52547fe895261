use Rattle.std.proofs.Common.{◌≡◌, sym, ap, ◌∙◌, subst}
use Rattle.st_classes.specs.declared.values.ActorId.{ActorId}
use Rattle.st_turn.specs.Claims.{ClaimView}
use Rattle.st_image.specs.Worlds.{change_at}
use Rattle.st_image.specs.ClaimsOut.{one_less}
use Rattle.st_image.specs.Images.{ImageView}
use Rattle.st_image.specs.Commits.{CommitAllowed, steps_of}
use Rattle.st_image.proofs.Posting.{seen, standing_of}
use Rattle.st_image.proofs.Acts.{out_same}
use Rattle.st_image.proofs.Committing.{committed_none}
use Rattle.st_image.proofs.image.Image.commit_unchanged.Goals as goal

pub returns-then-steps-eq0 : goal.returns-then-steps-eq0
returns-then-steps-eq0 g c =
    let i = c.self.inside in
    let d : ClaimView = c.args.claim in
    let allowed : CommitAllowed (seen i.base i.names i.history.items i.settings (standing_of i.earlier i.next_from i.actors.out i.tallies)) d = subst (λ (v : ImageView). CommitAllowed v d) (sym c.self.view_is) c.in_default.ensures in
    let none : steps_of d ≡ 0 = sym c.steps_to_commit-steps.ensures ∙ c.if-steps-eq0.true in
    rw (← c.self.view_is) (committed_none i.base i.names i.history.items i.settings i.earlier i.next_from i.actors.out c.release.new.self.out i.tallies d allowed c.known.ensures none (out_same _ _ c.release.ensures ∙ ap (λ (b : ActorId). change_at one_less b.0 i.actors.out) c.actor.ensures))
