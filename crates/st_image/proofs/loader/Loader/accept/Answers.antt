use Rattle.std.proofs.Common.{sym, subst}
use Rattle.st_classes.proofs.LawGrowing.{all_suit_with}
use Rattle.st_image.specs.CompiledEdits.{IsCompiledEdit}
use Rattle.st_image.specs.Loading.{HoldsLoader, LoaderView}
use Rattle.st_image.proofs.CompiledEdits.{all_with}
use Rattle.st_image.proofs.loader.Loader.accept.Goals as goal

pub with_edit-requires : goal.with_edit-requires
with_edit-requires c = (c.self.inside.names, rw (← c.self.view_is) at c.requires.suits)

pub invariant_of-self : goal.invariant_of-self
invariant_of-self c =
    subst (HoldsLoader c.self.inside.names) (sym c.in_ok-version.ensures.answers.1) (record {
      suited = all_suit_with c.self.inside.names c.self.inside.version c.args.edit c.known.ensures.lawful c.in_ok-version.ensures.answers.0 c.self.invariant.suited (rw (← c.self.view_is) at c.requires.suits);
      compiled = all_with c.self.inside.names c.self.inside.version c.args.edit c.self.invariant.compiled (subst (λ (v : LoaderView). IsCompiledEdit v.names v.edits c.args.edit) (sym c.self.view_is) c.requires.compiled);
    })
