use Rattle.std.proofs.Common.{sym, ap, ◌∙◌, Some, subst}
use Rattle.st_file.specs.Tellable.{IsText}
use Rattle.st_queries.proofs.InstalledTexts.{installed_is_text}
use Rattle.st_queries.proofs.versions.VersionRowsRows.row.Goals as goal

pub install-requires : goal.install-requires
install-requires c =
    let rows = c.args.self.now in
    subst IsText (sym c.source.ensures) (installed_is_text rows.names.now rows.version.now c.args.number c.in-Some-Install.class c.in-Some-Install.method c.requires (sym c.in-Some-Install.ensures ∙ ap Some c.in-Some-Install.field-0-is))
