use Rattle.std.proofs.Common.{arith, ◌≡◌, ◌∙◌, ap, ℕ, List, sym, take}
use Rattle.std.proofs.lemmas.Grind.{common_steps}
use Rattle.st_classes.specs.declared.values.Value.{Value}
use Rattle.st_turn.specs.StackLayout.{frames_of}
use Rattle.st_turn.specs.declared.stack.Place.{Place}
use Rattle.st_turn.proofs.StackMoves.{frames_same}
use Rattle.st_turn.proofs.stack.Stack.copy_in.Goals as goal

pub returns : goal.returns
returns c =
    let vs : List Value = c.self.inside.values.items in
    let ws : List Value = c.extend_from_slice-2.new.self.items in
    let at : Place = c.self.inside.at in
    let top : ℕ = c.self.inside.top in
    let same : take top vs ≡ take top ws = grind (arith, common_steps) in
    ap (λ (ps : List Place). frames_of ps at top ws) (c.in_ok-callers.ensures)
    ∙ sym (frames_same c.self.inside.callers at top vs ws c.self.invariant.temps same)
    ∙ c.self.view_is
