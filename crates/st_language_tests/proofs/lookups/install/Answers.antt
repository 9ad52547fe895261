use Rattle.std.proofs.Common.{arith, refl, ◌≡◌, ◌<◌, ◌+◌, ℕ, zero, suc, List, [], ◌∷◌, Some, true, slice_get, codes, nat_eq}
use Rattle.std.proofs.lemmas.Bool.{eq-eqb}
use Rattle.st_classes.specs.declared.values.ClassId.{ClassId}
use Rattle.st_classes.specs.declared.values.Selector.{Selector}
use Rattle.st_classes.specs.declared.instructions.Instruction.TheVariants.{PushSelf, Send, Answer}
use Rattle.st_classes.specs.declared.methods.MethodParts.{MethodParts}
use Rattle.st_classes.specs.declared.edits.Edit.{Edit}
use Rattle.st_classes.specs.MethodSuits.{suits}
use Rattle.st_language_tests.proofs.lookups.install.Goals as goal

-- so many names without arguments
abbrev names_of : ℕ → List (List ℕ)
names_of zero = []
names_of (suc n) = codes "x" ∷ names_of n

name_at : (n i : ℕ) → i < n → slice_get (names_of n) i ≡ Some (codes "x")
name_at zero i h = absurd (omega (arith, h))
name_at (suc n) zero h = refl
name_at (suc n) (suc i) h = name_at n i (omega (arith, h))

suits-asking : (es : List Edit) (c : ClassId) (m : MethodParts) (s : Selector) → m.holder ≡ c → m.arguments ≡ 0 → m.code ≡ PushSelf ∷ Send s 0 ∷ Answer ∷ [] → suits (names_of (suc (m.selector.0 + s.0))) es c m ≡ true
suits-asking es c m s h a k =
    let n : nat_eq m.holder.0 c.0 ≡ true = eq-eqb m.holder.0 c.0 cc in
    let own = name_at (suc (m.selector.0 + s.0)) m.selector.0 (omega arith) in
    let sent = name_at (suc (m.selector.0 + s.0)) s.0 (omega arith) in
    rw (n, own, a, k, sent)

pub install_method-requires : goal.install_method-requires
install_method-requires c = (names_of (suc (c.in-Ok.method.selector.0 + c.args.asked.0)), suits-asking c.args.version.now c.args.class c.in-Ok.method c.args.asked c.in-Ok.ensures.holder c.in-Ok.ensures.arguments c.in-Ok.ensures.code)
