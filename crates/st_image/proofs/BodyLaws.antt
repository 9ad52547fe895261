-- Laws of bodies, for the names and the number of actors of a world.
use Rattle.std.proofs.Common.{subst, le_refl, append-nil, ℕ, ◌≤◌, ◌++◌, [], ◌∷◌, List, length, refl}
use Rattle.st_classes.specs.declared.edits.Edit.{Edit}
use Rattle.st_classes.specs.EditLists.{AreLawful, AllSuit}
use Rattle.st_classes.proofs.LawGrowing.{extends_self, extends_more}
use Rattle.st_turn.specs.declared.body.Body.{Body}
use Rattle.st_turn.specs.declared.body.Object.{Object}
use Rattle.st_turn.specs.declared.body.Outcome.{Outcome}
use Rattle.st_turn.specs.declared.body.Outcome.TheVariants.{Answer, Fault}
use Rattle.st_turn.specs.declared.body.Phase.TheVariants.{Done}
use Rattle.st_turn.specs.BodyFits.{Referents, Fits, FitsPhase, IsThere}
use Rattle.st_turn.proofs.KeepingGrowth.{fits_later, fits_given_more, there_later, there_wider}
use Rattle.st_image.specs.WorldInvariant.{given}

-- after one edit more
pub fits_after : (g : Referents) (edits : List Edit) (e : Edit) (b : Body) → AreLawful (edits ++ e ∷ []) → AllSuit g.names edits → Fits g edits b → Fits g (edits ++ e ∷ []) b
fits_after g edits e b l s f = fits_later g edits (e ∷ []) b l s f

-- with more names and actors
pub fits_given : (names more : List (List ℕ)) (n m : ℕ) (edits : List Edit) (b : Body) → AreLawful edits → AllSuit names edits → n ≤ m → Fits (given names n) edits b → Fits (given (names ++ more) m) edits b
fits_given names more n m edits b l s h f = fits_given_more (given names n) (given (names ++ more) m) edits more b l s refl h f

-- ---- what a result names stays there

-- after one edit more
pub told_after : (g : Referents) (edits : List Edit) (e : Edit) (objects : List Object) (o : Outcome) → FitsPhase g edits objects (Done o) → FitsPhase g (edits ++ e ∷ []) objects (Done o)
told_after g edits e objects (Answer v) h = there_later g g edits (e ∷ []) (length objects) (record { names = extends_self g.names; actors = le_refl g.actors }) v h
told_after g edits e objects (Fault f) h = tt

-- with more names and actors
pub told_given : (names more : List (List ℕ)) (n m : ℕ) (edits : List Edit) (objects : List Object) → n ≤ m → (o : Outcome) → FitsPhase (given names n) edits objects (Done o) → FitsPhase (given (names ++ more) m) edits objects (Done o)
told_given names more n m edits objects l (Answer v) h = subst (λ (es : List Edit). IsThere (given (names ++ more) m) es (length objects) v) (append-nil edits) (there_later (given names n) (given (names ++ more) m) edits [] (length objects) (record { names = extends_more names more; actors = l }) v h)
told_given names more n m edits objects l (Fault f) h = tt

-- with no fewer objects
pub told_later : (g : Referents) (edits : List Edit) (old new : List Object) → length old ≤ length new → (o : Outcome) → FitsPhase g edits old (Done o) → FitsPhase g edits new (Done o)
told_later g edits old new l (Answer v) h = there_wider g edits (length old) (length new) l v h
told_later g edits old new l (Fault f) h = tt
