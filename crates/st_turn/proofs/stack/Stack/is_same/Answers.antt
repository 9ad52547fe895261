use Rattle.std.proofs.Common.{arith, rules, sym, ◌∙◌, ◌≡◌, IsTrue, true}
use Rattle.st_turn.proofs.StackDetermined.{alike, same_frames}
use Rattle.st_turn.proofs.stack.Stack.is_same.Goals as goal

pub returns-then-not-same_place : goal.returns-then-not-same_place
returns-then-not-same_place c =
    let s = c.self.inside in
    let o = c.other.inside in (
      λ f. absurd (grind arith),
      λ e.
          let a = alike s.callers o.callers s.at o.at s.top o.top s.values.items o.values.items c.self.invariant c.other.invariant (c.self.view_is ∙ e ∙ sym c.other.view_is) in
          let t = c.same_place.ensures.1 a.at in
          grind arith,
    )

pub returns-then-not-same_places : goal.returns-then-not-same_places
returns-then-not-same_places c =
    let s = c.self.inside in
    let o = c.other.inside in (
      λ f. absurd (grind arith),
      λ e.
          let a = alike s.callers o.callers s.at o.at s.top o.top s.values.items o.values.items c.self.invariant c.other.invariant (c.self.view_is ∙ e ∙ sym c.other.view_is) in
          let t = c.same_places.ensures.1 (c.as_slice.ensures ∙ a.callers ∙ sym c.as_slice-2.ensures) in
          grind arith,
    )

pub returns : goal.returns
returns c =
    let s = c.self.inside in
    let o = c.other.inside in
    let t : IsTrue true = search rules in
    let p = c.if-not-same_place.ensures.0 t in
    let q : s.callers ≡ o.callers = sym c.as_slice.ensures ∙ c.if-not-same_places.ensures.0 t ∙ c.as_slice-2.ensures in
    let v = rw (c.deref.ensures.value, c.deref-2.ensures.value) at c.same_values.ensures in (
      λ f. sym c.self.view_is ∙ same_frames s.callers o.callers s.at o.at s.top o.top s.values.items o.values.items c.self.invariant c.other.invariant (record { callers = q; at = p; values = v.0 f }) ∙ c.other.view_is,
      λ e.
          let a = alike s.callers o.callers s.at o.at s.top o.top s.values.items o.values.items c.self.invariant c.other.invariant (c.self.view_is ∙ e ∙ sym c.other.view_is) in
          v.1 a.values,
    )
