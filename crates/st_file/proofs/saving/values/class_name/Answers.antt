use Rattle.std.proofs.Common.{ap, sym, subst, unwrap_or, []}
use Rattle.st_file.specs.Tellable.{IsText}
use Rattle.st_file.proofs.TableTexts.{class_is_text}
use Rattle.st_file.proofs.saving.values.class_name.Goals as goal

pub text-requires : goal.text-requires
text-requires g c = subst IsText (ap (λ o. unwrap_or o []) (sym c.in-Some.ensures)) (class_is_text c.args.version.now c.args.class c.known.ensures.lawful)
