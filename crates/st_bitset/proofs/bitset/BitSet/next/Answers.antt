use Rattle.std.proofs.Common.{◌≡◌, ℕ, List, Bool, IfNone, IfSome, false, subst}
use Rattle.st_bitset.specs.BitSet.{IsNext, is_raised}
use Rattle.st_bitset.specs.Words.{IsFirst, NoneFrom}
use Rattle.st_bitset.proofs.Next.{next_ahead, none_behind, some_behind}
use Rattle.st_bitset.proofs.bitset.BitSet.next.Goals as goal

pub returns-in-Some-clause-some : goal.returns-in-Some-clause-some
returns-in-Some-clause-some c =
    let low = c.self.inside.low.items in
    let first : IsFirst low c.args.from c.in-Some.at = subst (λ (ws : List ℕ). IsFirst ws c.args.from c.in-Some.at) c.deref.ensures.value c.in-Some.ensures.some in
    subst (λ (fs : List Bool). IsNext fs c.args.from c.in-Some.at) c.self.view_is (next_ahead c.self.inside.len low c.args.from c.in-Some.at c.self.invariant.past first)

pub returns-in-None-clause-some : goal.returns-in-None-clause-some
returns-in-None-clause-some c =
    let low = c.self.inside.low.items in
    let r = c.first_from-in-None.result in
    let none : NoneFrom low c.args.from = subst (λ (ws : List ℕ). NoneFrom ws c.args.from) c.deref.ensures.value c.in-None.ensures.none in
    let first : IfSome r (λ a. IsFirst low 0 a) = subst (λ (ws : List ℕ). IfSome r (λ a. IsFirst ws 0 a)) c.deref-in-None.ensures.value c.first_from-in-None.ensures.some in
    subst (λ (fs : List Bool). IfSome r (λ a. IsNext fs c.args.from a)) c.self.view_is (some_behind c.self.inside.len low c.args.from r c.self.invariant.past none first)

pub returns-in-None-clause-none : goal.returns-in-None-clause-none
returns-in-None-clause-none c =
    let low = c.self.inside.low.items in
    let r = c.first_from-in-None.result in
    let none : IfNone r (NoneFrom low 0) = subst (λ (ws : List ℕ). IfNone r (NoneFrom ws 0)) c.deref-in-None.ensures.value c.first_from-in-None.ensures.none in
    subst (λ (fs : List Bool). IfNone r ((a : ℕ) → is_raised fs a ≡ false)) c.self.view_is (none_behind c.self.inside.len low r c.self.invariant.past none)
