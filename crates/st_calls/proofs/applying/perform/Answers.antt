use Rattle.std.proofs.Common.{ℕ, List, subst}
use Rattle.st_image.specs.Calls.{Defines}
use Rattle.st_calls.proofs.applying.perform.Goals as goal

pub returns-in-Define : goal.returns-in-Define
returns-in-Define g c =
    let named = subst (λ (name : List ℕ). Defines c.args.image.now name c.in-Define.parent c.in-Define.slots c.define.result c.define.new.self) c.as_slice-in-Define.ensures c.define.ensures in
    rw c.in-Define.is (c.define.result, c.version.ensures, named)
