use Rattle.std.proofs.Common.{map, ap, ◌∙◌}
use Rattle.st_classes.specs.Selectors.{place_of}
use Rattle.st_compile.specs.Scopes.{named}
use Rattle.st_compile.proofs.Places.{local_place}
use Rattle.st_compile.proofs.scope.Scope.local.Goals as goal

pub returns : goal.returns
returns c = c.place_among.ensures ∙ (local_place c.as_slice.result.now c.args.text.now ∙ ap (λ ns. place_of (map (λ n. n.text) (named ns)) c.args.text.now) c.as_slice.ensures.value)
