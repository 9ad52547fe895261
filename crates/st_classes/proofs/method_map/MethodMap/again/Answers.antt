use Rattle.std.proofs.Common.{rules}
use Rattle.std.proofs.lemmas.List.Elements.{same_from_all_zip}
use Rattle.st_classes.proofs.method_map.MethodMap.again.Goals as goal

pub returns : goal.returns
returns c = search (rules, same_from_all_zip)
