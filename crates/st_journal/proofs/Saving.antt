-- What each state of the disk leads to while a save goes on.
use Rattle.std.proofs.Common.{◌≡◌, ℕ, List, [], ◌∷◌, ◌++◌, take, drop, Bool, true, false, Option, Some, None, option_and_then, refl, sym, ◌∙◌, ap, inl, inr}
use Rattle.std.specs.Prelude.{if◌then◌else◌, ◌==◌, ◌&&◌, ◌⊎◌}
use Rattle.std.specs.Str.{bytes_eq}
use Rattle.std.proofs.Common.{arith}
use Rattle.std.proofs.lemmas.Bool.Decides.{nat_tests}
use Rattle.st_image.specs.Parts.{rebase}
use Rattle.st_image.specs.Worlds.{Constants, World}
use Rattle.st_journal.specs.Marks.{Mark, emptied, after, after_all}
use Rattle.st_journal.specs.Saved.{Saved, Journal, Disk, next_behind, behind, begun_anew, checkpointed, led_to, led_over, world_of_disk, SavesKeep}

then_assoc : (o : Option World) (f g : World → Option World) → option_and_then (λ v. option_and_then g (f v)) o ≡ option_and_then g (option_and_then f o)
then_assoc None f g = refl
then_assoc (Some v) f g = refl

on_each : (o : Option World) (f g : World → Option World) → ((v : World) → f v ≡ g v) → option_and_then f o ≡ option_and_then g o
on_each None f g h = refl
on_each (Some v) f g h = h v

-- entries behind others
after_append : (c : Constants) (w : World) (xs ys : List Mark) → after_all c w (xs ++ ys) ≡ option_and_then (λ v. after_all c v ys) (after_all c w xs)
after_append c w [] ys = refl
after_append c w (x ∷ xs) ys =
    on_each (after c w x) (λ v. after_all c v (xs ++ ys)) (λ v. option_and_then (λ u. after_all c u ys) (after_all c v xs)) (λ v. after_append c v xs ys)
    ∙ then_assoc (after c w x) (λ v. after_all c v xs) (λ v. after_all c v ys)

nat_same : (n : ℕ) → (n == n) ≡ true
nat_same n = grind (arith, nat_tests)

same_bytes : (bs : List ℕ) → bytes_eq bs bs ≡ true
same_bytes [] = refl
same_bytes (b ∷ bs) = ap (λ (x : Bool). x && bytes_eq bs bs) (nat_same b) ∙ same_bytes bs

-- a journal that goes on from an image has all its entries behind it, whatever other journal there is
at_head : (digest : List ℕ) (j : Journal) (next : Option Journal) → j.from ≡ digest → behind digest j next ≡ Some j.entries
at_head digest j next is =
    ap (λ (d : List ℕ). if bytes_eq digest d then Some j.entries else next_behind digest next) is
    ∙ ap (λ (b : Bool). if b then Some j.entries else next_behind digest next) (same_bytes digest)

-- of an image from which only the other journal goes on, that one's entries are behind it
at_next : (digest : List ℕ) (j n : Journal) → bytes_eq digest j.from ≡ false → n.from ≡ digest → behind digest j (Some n) ≡ Some n.entries
at_next digest j n other is =
    ap (λ (b : Bool). if b then Some j.entries else next_behind digest (Some n)) other
    ∙ ap (λ (d : List ℕ). if bytes_eq digest d then Some n.entries else None) is
    ∙ ap (λ (b : Bool). if b then Some n.entries else None) (same_bytes digest)

-- of an image with the digest of the old one, the old journal's entries are behind it
at_same : (digest : List ℕ) (j : Journal) (next : Option Journal) → bytes_eq digest j.from ≡ true → behind digest j next ≡ Some j.entries
at_same digest j next same = ap (λ (b : Bool). if b then Some j.entries else next_behind digest next) same

-- a checkpoint where a save was taken
checkpoint_at : (c : Constants) (w v : World) (k : ℕ) (ms : List Mark) → after_all c w (take k ms) ≡ Some v → after_all c (rebase v) (drop k ms) ≡ after_all c w (checkpointed k ms)
checkpoint_at c w v k ms led =
    sym (after_append c w (take k ms) (emptied ∷ drop k ms)
    ∙ ap (λ (o : Option World). option_and_then (λ u. after_all c u (emptied ∷ drop k ms)) o) led)

abbrev Moved : Constants → Saved → Journal → ℕ → Option World → Type 0
Moved c s j k w = (w ≡ led_to c s j) ⊎ (w ≡ led_over c s j k)

pub saves_keep : SavesKeep
saves_keep c s j k new h =
    let run : Saved → Option (List Mark) → Option World = λ i o. option_and_then (after_all c i.world) o in
    let behind_it : after_all c new.world (drop k j.entries) ≡ led_over c s j k =
    ap (λ (w : World). after_all c w (drop k j.entries)) h.is ∙ checkpoint_at c s.world h.world k j.entries h.led in
    record {
      written = λ next. ap (run s) (at_head s.digest j next h.goes_on);
      moved = by behind_it (bytes_eq new.digest s.digest) refl;
      anew = λ next. ap (run new) (at_head new.digest (begun_anew new k j) next refl) ∙ behind_it;
    }
  where
    by : after_all c new.world (drop k j.entries) ≡ led_over c s j k → (b : Bool) → bytes_eq new.digest s.digest ≡ b
        → Moved c s j k (world_of_disk c (record { image = new; journal = j; next = Some (begun_anew new k j) }))
    by behind_it true same =
        let from : bytes_eq new.digest j.from ≡ true = ap (λ (d : List ℕ). bytes_eq new.digest d) h.goes_on ∙ same in
        inl (ap (λ (o : Option (List Mark)). option_and_then (after_all c new.world) o) (at_same new.digest j (Some (begun_anew new k j)) from)
        ∙ ap (λ (w : World). after_all c w j.entries) (h.one_text same))
    by behind_it false other =
        let from : bytes_eq new.digest j.from ≡ false = ap (λ (d : List ℕ). bytes_eq new.digest d) h.goes_on ∙ other in
        inr (ap (λ (o : Option (List Mark)). option_and_then (after_all c new.world) o) (at_next new.digest j (begun_anew new k j) from refl)
        ∙ behind_it)
