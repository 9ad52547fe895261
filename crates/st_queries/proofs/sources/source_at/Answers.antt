use Rattle.std.proofs.Common.{sym, subst}
use Rattle.st_file.specs.Tellable.{IsText}
use Rattle.st_queries.proofs.InstalledTexts.{method_is_text}
use Rattle.st_queries.proofs.sources.source_at.Goals as goal

pub text-requires : goal.text-requires
text-requires c =
    subst IsText (sym c.source.ensures) (method_is_text c.args.names.now c.args.version.now c.args.method c.in-Some.method.now c.requires (sym c.in-Some.ensures))
