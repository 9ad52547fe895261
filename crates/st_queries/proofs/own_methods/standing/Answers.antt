use Rattle.std.proofs.Common.{sym, ap, ◌∙◌, Some}
use Rattle.st_queries.proofs.Standing.{install_is_class}
use Rattle.st_queries.proofs.own_methods.standing.Goals as goal

pub own-requires : goal.own-requires
own-requires c = install_is_class c.args.version.now c.args.place c.in-Some-Install.class c.in-Some-Install.method c.known.ensures.lawful (sym c.in-Some-Install.ensures ∙ ap Some c.in-Some-Install.field-0-is)

pub returns-then-is_at-clause-class : goal.returns-then-is_at-clause-class
returns-then-is_at-clause-class c = install_is_class c.args.version.now c.args.place c.in-Some-Install.class c.in-Some-Install.method c.known.ensures.lawful (sym c.in-Some-Install.ensures ∙ ap Some c.in-Some-Install.field-0-is)
