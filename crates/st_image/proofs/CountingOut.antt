-- The counts of claims, where one of them changes, and the actors that may be checked out.
use Rattle.std.proofs.Common.{arith, ◌≡◌, ℕ, zero, suc, ◌<◌, [], ◌∷◌, List, length, Option, Some, None, Bool, true, false, cond, refl, ap, sym, ◌∙◌, slice_get, ◌⊎◌, inl, inr}
use Rattle.std.specs.Prelude.{◌==◌, ◌&&◌}
use Rattle.std.proofs.Math.Dec.{eqb-suc-zero, eqb-zero-suc, eqb-suc-suc}
use Rattle.st_classes.specs.declared.values.ActorId.{ActorId}
use Rattle.st_classes.specs.declared.edits.Edit.{Edit}
use Rattle.st_image.specs.Worlds.{World, changed, change_at}
use Rattle.st_image.specs.ClaimsOut.{claims_of, one_less, trimmed}
use Rattle.st_image.specs.EarlierCounts.{EarlierCounts}
use Rattle.st_image.specs.Images.{ImageView, world}
use Rattle.st_image.specs.Scheduling.{IsNextReady, is_free_at, is_ready_at}
use Rattle.st_image.specs.ActorViews.{ActorsView, IsNextFree, SameOut, Shows, is_free_in}
use Rattle.st_turn.specs.declared.tally.Tally.{Tally}
use Rattle.st_image.specs.declared.history.Item.{Item}
use Rattle.st_image.specs.declared.settings.Settings.{Settings}
use Rattle.st_classes.specs.declared.refusals.Refusal.{Refusal}
use Rattle.st_classes.specs.declared.refusals.Refusal.TheVariants.{Stale, Changed, HistoryFull}
use Rattle.st_turn.specs.Claims.{ClaimView}
use Rattle.st_image.specs.Commits.{CommitRefused, CountsOut, IsReleased, RefusesCommit, out_at}
use Rattle.st_image.proofs.Posting.{seen, standing_of}
use Rattle.st_image.proofs.ClaimsTrimmed.{claims_trimmed}
use Rattle.st_image.proofs.Showing.{ready_is}

set_suc : (f : ℕ → ℕ) (a n : ℕ) (ns : List ℕ) (o : Option ℕ) → changed f (suc a) (n ∷ ns) o ≡ n ∷ changed f a ns o
set_suc f a n ns None = refl
set_suc f a n ns (Some m) = refl

zero_out : (f : ℕ → ℕ) (b a : ℕ) → f 0 ≡ 0 → 0 ≡ cond (b == a) (f 0) 0
zero_out f b a e = by_test (b == a)
  where
    by_test : (t : Bool) → 0 ≡ cond t (f 0) 0
    by_test true = sym e
    by_test false = refl

less_within : (a n : ℕ) (ns : List ℕ) (f : ℕ → ℕ) → (suc a < length (n ∷ ns)) ⊎ (f 0 ≡ 0) → (a < length ns) ⊎ (f 0 ≡ 0)
less_within a n ns f (inl h) = inl (omega (arith, h))
less_within a n ns f (inr e) = inr e

-- one count changed, where it is there or a count of 0 stays
pub counts_change : (f : ℕ → ℕ) (ns : List ℕ) (a b : ℕ) → (a < length ns) ⊎ (f 0 ≡ 0) → claims_of (change_at f a ns) b ≡ cond (b == a) (f (claims_of ns b)) (claims_of ns b)
counts_change f [] a b (inl h) = absurd (omega (arith, h))
counts_change f [] a b (inr e) = zero_out f b a e
counts_change f (n ∷ ns) zero zero h = refl
counts_change f (n ∷ ns) zero (suc b) h = ap (λ (t : Bool). cond t (f (claims_of ns b)) (claims_of ns b)) (sym (eqb-suc-zero b))
counts_change f (n ∷ ns) (suc a) zero h = ap (λ (ms : List ℕ). claims_of ms zero) (set_suc f a n ns (slice_get ns a)) ∙ ap (λ (t : Bool). cond t (f n) n) (sym (eqb-zero-suc a))
counts_change f (n ∷ ns) (suc a) (suc b) h =
    ap (λ (ms : List ℕ). claims_of ms (suc b)) (set_suc f a n ns (slice_get ns a)) ∙ counts_change f ns a b (less_within a n ns f h) ∙ ap (λ (t : Bool). cond t (f (claims_of ns b)) (claims_of ns b)) (sym (eqb-suc-suc b a))

-- the counts that callers see, where one of them changed
pub counts_out : (count : ℕ → ℕ) (a : ActorId) (i j : ImageView) (old new : List ℕ) → i.standing.claims_out ≡ trimmed old → j.standing.claims_out ≡ trimmed new → new ≡ change_at count a.0 old → (a.0 < length old) ⊎ (count 0 ≡ 0) → CountsOut count a i j
counts_out count a i j old new e f put h = λ b.
    let was : out_at i b ≡ claims_of old b = ap (λ (ns : List ℕ). claims_of ns b) e ∙ claims_trimmed old b in
    ap (λ (ns : List ℕ). claims_of ns b) f ∙ claims_trimmed new b ∙ ap (λ (ns : List ℕ). claims_of ns b) put ∙ counts_change count old a.0 b h ∙ ap (λ (n : ℕ). cond (b == a.0) (count n) n) (sym was)

-- the same, where counts that are the same were kept before the change
pub counts_same_out : (count : ℕ → ℕ) (a : ActorId) (i j : ImageView) (old mid new : List ℕ) → i.standing.claims_out ≡ trimmed old → j.standing.claims_out ≡ trimmed new → SameOut old mid → new ≡ change_at count a.0 mid → count 0 ≡ 0 → CountsOut count a i j
counts_same_out count a i j old mid new e f same put h = λ b.
    let was : out_at i b ≡ claims_of mid b = ap (λ (ns : List ℕ). claims_of ns b) e ∙ claims_trimmed old b ∙ sym (same b) in
    ap (λ (ns : List ℕ). claims_of ns b) f ∙ claims_trimmed new b ∙ ap (λ (ns : List ℕ). claims_of ns b) put ∙ counts_change count mid a.0 b (inr h) ∙ ap (λ (n : ℕ). cond (b == a.0) (count n) n) (sym was)

-- what callers see of a release
pub released : (base : World) (names : List (List ℕ)) (h : List Item) (s : Settings) (earlier : EarlierCounts) (n : ℕ) (old new : List ℕ) (rows : List (List Tally)) (a : ActorId) → new ≡ change_at one_less a.0 old → IsReleased (seen base names h s (standing_of earlier n old rows)) a (seen base names h s (standing_of earlier n new rows))
released base names h s earlier n old new rows a put = record {
  image = refl;
  counted = counts_out one_less a (seen base names h s (standing_of earlier n old rows)) (seen base names h s (standing_of earlier n new rows)) old new refl refl put (inr refl);
}

-- a claim that is refused, but not for the history, is spent
pub spent : (i : ImageView) (c : ClaimView) (e : Refusal) (j : ImageView) → CommitRefused i c e → (e ≡ HistoryFull → ⊥) → IsReleased i c.actor j → RefusesCommit i c e None j
spent i c (Stale version) j r n h = (r, refl, h)
spent i c Changed j r n h = (r, refl, h)
spent i c HistoryFull j r n h = absurd (n refl)
spent i c _ j r n h = absurd r

-- ---- the actors that may be checked out

pub free_is : (edits : List Edit) (v : ActorsView) (i : ImageView) (a : ℕ) → Shows edits v.list (world i) → i.standing.claims_out ≡ trimmed v.out → is_free_in v a ≡ is_free_at i a
free_is edits v i a s e =
    ap (λ (t : Bool). t && (claims_of v.out a == 0)) (ready_is edits v.list (world i) a s)
    ∙ ap (λ (n : ℕ). is_ready_at (world i) a && (n == 0)) (sym (claims_trimmed v.out a) ∙ ap (λ (ns : List ℕ). claims_of ns a) (sym e))

pub next_free : (edits : List Edit) (v : ActorsView) (i : ImageView) (a : ℕ) → Shows edits v.list (world i) → i.standing.claims_out ≡ trimmed v.out → IsNextFree v i.standing.next_from a → IsNextReady i a
next_free edits v i a s e n = record {
  free = sym (free_is edits v i a s e) ∙ n.free;
  first = λ b h. n.first b (free_is edits v i b s e ∙ h);
}
