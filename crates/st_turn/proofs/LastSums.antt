-- Where the last sum of a site lies.
use Rattle.std.proofs.Common.{arith, refl, ◌≡◌, ℕ, ◌+◌, ◌*◌, ◌<◌, ◌≤◌, List, [], ◌∷◌, ◌++◌, ap, sym, subst, ◌∙◌, length, Bool, true, false, ◌≢◌, ◌==◌, eqb-true, slice_set, ltb-true, ltb-false, nat_lt}
use Rattle.std.specs.List.{slice_index_or}
use Rattle.std.proofs.lemmas.List.{get_or_append_left, get_or_default, get_or-set_other, length-append, length-set}
use Rattle.std.proofs.lemmas.Bool.{eqb-false}
use Rattle.std.proofs.lemmas.Grind.{get_or-set_at}
use Rattle.std.proofs.lemmas.Nat.{mod_below}
use Rattle.std.proofs.Math.Seq.{get_or-append_seam}
use Rattle.st_classes.specs.declared.keys.SiteId.{SiteId}
use Rattle.st_guard.specs.SiteTables.{is_site}
use Rattle.st_guard.proofs.Numbering.{site_is}
use Rattle.st_turn.specs.declared.sums.SiteSum.{SiteSum}
use Rattle.st_turn.specs.Tallies.{AreLast, IsLastOf, no_sum, bucket}

no_other : (b : Bool) → (b ≡ true → ⊥) → b ≡ false
no_other true h = absurd (h refl)
no_other false h = refl

-- the sum at the place that is kept for a bucket is the last of its site
pub is_last : (lasts : List ℕ) (id : SiteId) (ms : List SiteSum) (i : ℕ) → AreLast lasts ms → i ≡ slice_index_or lasts (bucket id) 0 → i < length ms → is_site id (slice_index_or ms i no_sum).site ≡ true → IsLastOf id ms i
is_last lasts id ms i last e h here = record {
  within = h;
  here = here;
  last = λ k d low high. no_other (is_site id (slice_index_or ms k d).site) (λ f.
      let same : id ≡ (slice_index_or ms k no_sum).site = site_is id (slice_index_or ms k d).site f ∙ ap (λ (m : SiteSum). m.site) (get_or_default ms k d no_sum high) in
      let before : k ≤ slice_index_or lasts (bucket id) 0 = subst (λ (x : SiteId). k ≤ slice_index_or lasts (bucket x) 0) (sym same) (last.last k high) in
      omega (arith, e));
}

-- a place that is kept in the place of one that is no greater
kept_more : (lasts : List ℕ) (bucket r i n : ℕ) → bucket < length lasts → i ≤ n → (r ≢ bucket → i ≤ slice_index_or lasts r 0) → i ≤ slice_index_or (slice_set lasts bucket n) r 0
kept_more lasts bucket r i n within h others = (elim (r == bucket) as (λ b. (r == bucket) ≡ b → i ≤ slice_index_or (slice_set lasts bucket n) r 0) [
  | true ↦ λ e. omega (arith, h, get_or-set_at lasts bucket r n 0 (eqb-true r bucket e) within)
  | false ↦ λ e. omega (arith, get_or-set_other lasts bucket r n 0 (eqb-false r bucket e), others (eqb-false r bucket e))
]) refl

-- a sum more, whose place is kept
pub last_pushed : (lasts : List ℕ) (ms : List SiteSum) (m : SiteSum) → AreLast lasts ms → AreLast (slice_set lasts (bucket m.site) (length ms)) (ms ++ m ∷ [])
last_pushed lasts ms m h =
    let s = bucket m.site in
    let within : s < length lasts = omega (arith, h.all, mod_below (m.site.method.0 * 167 + m.site.place) 512 (omega arith)) in
    record {
      all = length-set lasts s (length ms) ∙ h.all;
      last = λ i less. (elim (nat_lt i (length ms)) as (λ b. nat_lt i (length ms) ≡ b → i ≤ slice_index_or (slice_set lasts s (length ms)) (bucket (slice_index_or (ms ++ m ∷ []) i no_sum).site) 0) [
        | true ↦ λ e.
            let low : i < length ms = ltb-true i (length ms) e in
            let here : slice_index_or ms i no_sum ≡ slice_index_or (ms ++ m ∷ []) i no_sum = sym (get_or_append_left ms (m ∷ []) no_sum i low) in
            subst (λ (x : SiteSum). i ≤ slice_index_or (slice_set lasts s (length ms)) (bucket x.site) 0) here (kept_more lasts s (bucket (slice_index_or ms i no_sum).site) i (length ms) within (omega (arith, low)) (λ o. h.last i low))
        | false ↦ λ e.
            let at : length ms ≡ i = omega (arith, ltb-false i (length ms) e, less, length-append ms (m ∷ [])) in
            let here : m ≡ slice_index_or (ms ++ m ∷ []) i no_sum = sym (get_or-append_seam ms m [] no_sum) ∙ ap (λ (k : ℕ). slice_index_or (ms ++ m ∷ []) k no_sum) at in
            subst (λ (x : SiteSum). i ≤ slice_index_or (slice_set lasts s (length ms)) (bucket x.site) 0) here (omega (arith, at, get_or-set_at lasts s s (length ms) 0 refl within))
      ]) refl;
    }

-- the sum that changes stays of its site
pub last_changed : (lasts : List ℕ) (ms : List SiteSum) (i : ℕ) (m : SiteSum) → m.site ≡ (slice_index_or ms i no_sum).site → AreLast lasts ms → AreLast lasts (slice_set ms i m)
last_changed lasts ms i m e h = record {
  all = h.all;
  last = λ k less.
      let high : k < length ms = omega (arith, less, length-set ms i m) in
      let same : (slice_index_or ms k no_sum).site ≡ (slice_index_or (slice_set ms i m) k no_sum).site = (elim (k == i) as (λ b. (k == i) ≡ b → (slice_index_or ms k no_sum).site ≡ (slice_index_or (slice_set ms i m) k no_sum).site) [
        | true ↦ λ f.
            let at : k ≡ i = eqb-true k i f in
            let within : i < length ms = omega (arith, high, at) in
            ap (λ (n : ℕ). (slice_index_or ms n no_sum).site) at ∙ sym e ∙ sym (ap (λ (x : SiteSum). x.site) (get_or-set_at ms i k m no_sum at within))
        | false ↦ λ f. sym (ap (λ (x : SiteSum). x.site) (get_or-set_other ms i k m no_sum (eqb-false k i f)))
      ]) refl in
      subst (λ (id : SiteId). k ≤ slice_index_or lasts (bucket id) 0) same (h.last k high);
}
