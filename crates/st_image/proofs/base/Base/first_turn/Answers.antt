use Rattle.std.proofs.Common.{◌≡◌, ℕ, List, Option, Some, None, length, map, refl, slice_get, ap, sym, ◌∙◌}
use Rattle.std.specs.Prelude.{option_map}
use Rattle.std.proofs.lemmas.Bool.{ltb-true, ltb-false}
use Rattle.std.proofs.lemmas.Option.{slice_get-map, slice_get_past, slice_get_read}
use Rattle.st_image.specs.declared.actor_part.ActorPart.{ActorPart}
use Rattle.st_image.specs.Parts.{actor_of}
use Rattle.st_image.specs.Worlds.{World}
use Rattle.st_image.specs.WorldInvariant.{first_of_phase, first_turn}
use Rattle.st_image.proofs.base.Base.first_turn.Goals as goal

abbrev first_of : ActorPart → ℕ
first_of p = first_of_phase p.body.phase

first_of_some : (o : Option ActorPart) (n : ℕ) → option_map first_of o ≡ Some n → n ≡ first_turn (option_map actor_of o)
first_of_some None n e = cc
first_of_some (Some p) n e = cc

first_of_none : (o : Option ActorPart) → option_map first_of o ≡ None → 1 ≡ first_turn (option_map actor_of o)
first_of_none None e = refl
first_of_none (Some p) e = cc

some_at : (ps : List ActorPart) (ns : List ℕ) (a n : ℕ) → ns ≡ map first_of ps → slice_get ns a ≡ Some n → n ≡ first_turn (slice_get (map actor_of ps) a)
some_at ps ns a n same at = first_of_some (slice_get ps a) n (sym (slice_get-map first_of ps a) ∙ ap (λ (ms : List ℕ). slice_get ms a) (sym same) ∙ at) ∙ ap first_turn (sym (slice_get-map actor_of ps a))

none_at : (ps : List ActorPart) (ns : List ℕ) (a : ℕ) → ns ≡ map first_of ps → slice_get ns a ≡ None → 1 ≡ first_turn (slice_get (map actor_of ps) a)
none_at ps ns a same at = first_of_none (slice_get ps a) (sym (slice_get-map first_of ps a) ∙ ap (λ (ms : List ℕ). slice_get ms a) (sym same) ∙ at) ∙ ap first_turn (sym (slice_get-map actor_of ps a))

pub returns-in-Some : goal.returns-in-Some
returns-in-Some c =
    let a : ℕ = c.args.actor.0 in
    let ns : List ℕ = c.deref.result.now in
    let l = c.in-Some.ensures.lookup in
    let at = slice_get_read ns (length ns) a c.in-Some.first.now refl (ltb-true a (length ns) (sym l.0)) l.1 in
    c.from.ensures ∙ some_at c.self.inside.actors.items ns a c.in-Some.first.now (c.deref.ensures.value ∙ c.self.invariant) at ∙ ap (λ (w : World). first_turn (slice_get w.actors a)) c.self.view_is

pub returns-in-None : goal.returns-in-None
returns-in-None c =
    let a : ℕ = c.args.actor.0 in
    let ns : List ℕ = c.deref.result.now in
    let at = slice_get_past ns a (ltb-false a (length ns) (sym c.in-None.ensures.lookup.0)) in
    none_at c.self.inside.actors.items ns a (c.deref.ensures.value ∙ c.self.invariant) at ∙ ap (λ (w : World). first_turn (slice_get w.actors a)) c.self.view_is
