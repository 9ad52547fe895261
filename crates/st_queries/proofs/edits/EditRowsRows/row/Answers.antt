use Rattle.std.proofs.Common.{List, ℕ, sym, ap, ◌∙◌, All, Some, subst}
use Rattle.st_file.specs.Tellable.{IsText}
use Rattle.st_file.proofs.TableTexts.{define_is_text}
use Rattle.st_queries.proofs.InstalledTexts.{installed_is_text}
use Rattle.st_queries.proofs.edits.EditRowsRows.row.Goals as goal

pub define-requires-clause-name : goal.define-requires-clause-name
define-requires-clause-name c =
    let rows = c.args.self.now in
    let d = c.in-Some-Define in
    let told = define_is_text rows.version.now c.known.ensures.lawful c.args.number d.name d.parent d.slots (sym d.ensures ∙ ap Some d.field-0-is) in
    subst IsText (sym c.as_slice.ensures) told.0

pub define-requires-clause-slots : goal.define-requires-clause-slots
define-requires-clause-slots c =
    let rows = c.args.self.now in
    let d = c.in-Some-Define in
    let told = define_is_text rows.version.now c.known.ensures.lawful c.args.number d.name d.parent d.slots (sym d.ensures ∙ ap Some d.field-0-is) in
    subst (λ (ts : List (List ℕ)). All IsText ts) (sym c.as_slice-in-Some-Define.ensures) told.2

pub install-requires : goal.install-requires
install-requires c =
    let rows = c.args.self.now in
    let i = c.in-Some-Install in
    subst IsText (sym c.source.ensures) (installed_is_text rows.names.now rows.version.now c.args.number i.class i.method c.requires (sym i.ensures ∙ ap Some i.field-0-is))
