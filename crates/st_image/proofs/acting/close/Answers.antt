use Rattle.std.proofs.Common.{None, Some, sym, ap, ◌∙◌}
use Rattle.std.specs.Option.{option_copied}
use Rattle.st_image.specs.ActorViews.{ActorView}
use Rattle.st_image.proofs.Acts.{close_does, close_grows, close_not, kept_is, some_kept}
use Rattle.st_image.proofs.acting.close.Goals as goal

pub returns-in-Some-clause-does : goal.returns-in-Some-clause-does
returns-in-Some-clause-does g c = λ names capacity w i. close_does names capacity c.args.version.now c.args.actors.now.list c.close.new.self.list w c.args.to c.in-Some.found.now i (sym c.in-Some.ensures) (sym c.if-is_open.ensures) (kept_is _ _ c.close.ensures)

pub returns-in-Some-clause-grown : goal.returns-in-Some-clause-grown
returns-in-Some-clause-grown g c = close_grows c.args.actors.now.list c.close.new.self.list c.args.to.0 (kept_is _ _ c.close.ensures)

pub returns-in_default-clause-does : goal.returns-in_default-clause-does
returns-in_default-clause-does g c = λ names capacity w i. close_not names capacity c.args.version.now c.args.actors.now.list w c.args.to (Some c.in-Some.found.now) i (sym c.in-Some.ensures) (λ k e. ap (λ (x : ActorView). x.is_open) (some_kept k c.in-Some.found.now (sym e)) ∙ sym c.if-is_open.ensures)

pub returns-in_default-2-clause-does : goal.returns-in_default-2-clause-does
returns-in_default-2-clause-does g c = λ names capacity w i. close_not names capacity c.args.version.now c.args.actors.now.list w c.args.to None i (sym c.get.ensures ∙ ap option_copied c.in_default.is) (λ k e. cc)
