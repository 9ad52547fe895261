-- The sites of claims have their places in the tallies.
use Rattle.std.proofs.Common.{◌≡◌, ℕ, ◌+◌, ◌<◌, List, [], ◌∷◌, Option, true, sym, subst, length, take}
use Rattle.std.specs.Prelude.{All}
use Rattle.std.specs.List.{slice_index_or}
use Rattle.std.specs.Option.{IfSome}
use Rattle.std.proofs.lemmas.List.{take_more}
use Rattle.std.proofs.lemmas.List.Elements.{All-append, All-cons, All-nil, All-weaker}
use Rattle.st_classes.specs.declared.keys.SiteId.{SiteId}
use Rattle.st_turn.specs.declared.claim.Sent.{Sent}
use Rattle.st_turn.specs.declared.sums.SiteSum.{SiteSum}
use Rattle.st_turn.specs.declared.tally.Tally.{Tally}
use Rattle.st_turn.specs.Tallies.{AreSums}
use Rattle.st_image.specs.Tallies.{HasPlaces, KeepsPlaces, has_place}
use Rattle.st_image.proofs.Tallying.{all_sent}

-- the sites of sums have their places
abbrev pub Placed : List (List Tally) → List SiteSum → Type 0
Placed rows ms = All (λ (m : SiteSum). has_place rows m.site ≡ true) ms

placed_later : (old new : List (List Tally)) (ms : List SiteSum) → KeepsPlaces old new → Placed old ms → Placed new ms
placed_later old new ms keeps all = All-weaker (λ (m : SiteSum). has_place old m.site ≡ true) (λ (m : SiteSum). has_place new m.site ≡ true) (λ m h. keeps m.site h) ms all

-- those of the first ones, and of one more
pub placed_more : (old new : List (List Tally)) (ms : List SiteSum) (i : ℕ) (d : SiteSum) → i < length ms → KeepsPlaces old new → Placed old (take i ms) → has_place new (slice_index_or ms i d).site ≡ true → Placed new (take (i + 1) ms)
placed_more old new ms i d h keeps before one =
    let m : SiteSum = slice_index_or ms i d in
    let last : Placed new (m ∷ []) = All-cons (λ (x : SiteSum). has_place new x.site ≡ true) m [] one (All-nil (λ (x : SiteSum). has_place new x.site ≡ true)) in
    subst (Placed new) (sym (take_more ms i d h)) (All-append (λ (x : SiteSum). has_place new x.site ≡ true) (take i ms) (m ∷ []) (placed_later old new (take i ms) keeps before) last)

-- the sites of sends have theirs where those of their sums have, also where an act gets its place then
pub places_of : (old new : List (List Tally)) (ms : List SiteSum) (ss : List Sent) (act : Option SiteId) → AreSums ms ss → KeepsPlaces old new → Placed old ms → IfSome act (λ id. has_place new id ≡ true) → HasPlaces new ss act
places_of old new ms ss act sums keeps all at = (all_sent ms ss sums (has_place new) (placed_later old new ms keeps all), at)
