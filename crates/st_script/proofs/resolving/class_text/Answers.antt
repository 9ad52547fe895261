use Rattle.std.proofs.Common.{sym, ap, ◌∙◌}
use Rattle.std.specs.Option.{option_copied}
use Rattle.st_script.proofs.Names.{class_name_ascii}
use Rattle.st_script.proofs.resolving.class_text.Goals as goal

pub returns-in-Some-clause-ascii : goal.returns-in-Some-clause-ascii
returns-in-Some-clause-ascii c = class_name_ascii c.version-version.result.now c.args.class c.in-Some.name.now c.known.ensures.lawful (sym c.class_name.ensures ∙ ap option_copied c.in-Some.is)
