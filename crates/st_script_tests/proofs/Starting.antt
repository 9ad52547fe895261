-- Bodies of actors to which a message without arguments was sent.
use Rattle.std.proofs.Common.{arith, ◌≡◌, ℕ, [], ◌∷◌, List, length, true, refl, sym, subst, Some}
use Rattle.std.proofs.lemmas.List.Elements.{All-nil, All-cons}
use Rattle.st_classes.specs.declared.values.ClassId.{ClassId}
use Rattle.st_classes.specs.declared.values.Selector.{Selector}
use Rattle.st_classes.specs.declared.edits.Edit.{Edit}
use Rattle.st_classes.specs.Classes.{slots}
use Rattle.st_classes.specs.Kernel.{does_not_understand}
use Rattle.st_classes.specs.EditLists.{AllSuit}
use Rattle.st_classes.specs.MethodSuits.{arity_at}
use Rattle.st_turn.specs.declared.body.Object.{Object}
use Rattle.st_turn.specs.declared.body.Body.{Body}
use Rattle.st_turn.specs.declared.body.Phase.TheVariants.{Start}
use Rattle.st_turn.specs.BodyFits.{FitsSome, Referents, IsObject, IsThere, has_instances}
use Rattle.st_image.specs.Images.{ImageView, world}
use Rattle.st_image.specs.WorldInvariant.{BeginsWithKernel, IsLawful}

-- the body of an actor without instance variables, to which a message without arguments was sent
abbrev asked_body : ClassId → Selector → Body
asked_body c s = record { objects = record { class = c; slots = [] } ∷ []; phase = Start s [] }

missing_one : (names : List (List ℕ)) → BeginsWithKernel names → arity_at names does_not_understand ≡ Some 1
missing_one names (more, is) = rw is refl

fits_table : (names : List (List ℕ)) (edits : List Edit) (c : ClassId) (s : Selector) → BeginsWithKernel names → AllSuit names edits
    → has_instances edits c ≡ true → length (slots edits c) ≡ 0 → arity_at names s ≡ Some 0 → FitsSome edits (record { 0 = 0 }) (asked_body c s)
fits_table names edits c s kernel suited instances none unary =
    let given : Referents = record { names = names; actors = 1 } in
    let itself : Object = record { class = c; slots = [] } in
    let object : IsObject given edits 1 itself = record { class = instances; slots = sym none; values = All-nil (IsThere given edits 1) } in (
      given,
      suited,
      missing_one names kernel,
      omega arith,
      record {
        some = omega arith;
        few = omega arith;
        objects = All-cons (IsObject given edits 1) itself [] object (All-nil (IsObject given edits 1));
        phase = (unary, All-nil (IsThere given edits 1));
      },
    )

-- it fits an image's table
pub asked_fits : (i : ImageView) (names : List (List ℕ)) (edits : List Edit) (c : ClassId) (s : Selector) → IsLawful i → names ≡ i.names → edits ≡ (world i).edits
    → has_instances edits c ≡ true → length (slots edits c) ≡ 0 → arity_at names s ≡ Some 0 → FitsSome (world i).edits (record { 0 = 0 }) (asked_body c s)
asked_fits i names edits c s lawful named edited instances none unary =
    let suited : AllSuit i.names edits = subst (AllSuit i.names) (sym edited) lawful.standing.suited in
    let alone : arity_at i.names s ≡ Some 0 = subst (λ (ns : List (List ℕ)). arity_at ns s ≡ Some 0) named unary in
    subst (λ (es : List Edit). FitsSome es (record { 0 = 0 }) (asked_body c s)) edited
    (fits_table i.names edits c s lawful.standing.constants.kernel suited instances none alone)
