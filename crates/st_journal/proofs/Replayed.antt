-- An item that a call of an image appended leads from the image's world to the new one.
use Rattle.std.proofs.Common.{◌≡◌, ◌++◌, [], ◌∷◌, Option, Some, sym, ap, ◌∙◌, option_and_then}
use Rattle.st_image.specs.declared.history.Item.{Item}
use Rattle.st_image.specs.ClaimsOut.{claims_of}
use Rattle.st_image.specs.Images.{ImageView, Standing, appended, constants, world}
use Rattle.st_image.specs.Replay.{next, replay}
use Rattle.st_image.proofs.Replays.{replay_push}
use Rattle.st_image.specs.WorldInvariant.{IsLawful}
use Rattle.st_image.specs.Worlds.{World}
use Rattle.st_journal.specs.declared.entries.Entry.{Entry}
use Rattle.st_journal.specs.Entries.{Does, IsCompiledItem, KeepsBeside, Redone, told}

-- both images are lawful, and the new one has the item last
pub redone : (i : ImageView) (x : Item) (j : ImageView) → IsLawful i → IsLawful j → j ≡ record (appended i (x ∷ [])) { standing = j.standing } → KeepsBeside i j → Redone i x j
redone i x j before behind is beside =
    let c = constants i in
    let whole : replay c i.base (i.history ++ x ∷ []) ≡ Some (world j) = sym (ap (λ (k : ImageView). replay (constants k) k.base k.history) is) ∙ behind.lawful in
    let last : next c (world i) x ≡ Some (world j) =
    sym (ap (λ (o : Option World). option_and_then (λ v. next c v x) o) before.lawful) ∙ sym (replay_push c i.base i.history x) ∙ whole in
    record { image = is; world = last; beside = beside }

-- the item alone was appended
pub redone_alone : (i : ImageView) (x : Item) (j : ImageView) → IsLawful i → IsLawful j → j ≡ appended i (x ∷ []) → Redone i x j
redone_alone i x j before behind is =
    let same : j.standing ≡ i.standing = ap (λ (k : ImageView). k.standing) is in
    redone i x j before behind
    (is ∙ ap (λ (s : Standing). record (appended i (x ∷ [])) { standing = s }) (sym same))
    (record { out = λ a few. ap (λ (s : Standing). claims_of s.claims_out a) same; earlier = ap (λ (s : Standing). s.earlier) same })

-- an item that a call appended is done again
pub does_alone : (i : ImageView) (x : Item) (e : Entry) (j : ImageView) → told x ≡ e → IsCompiledItem i.names (world i).edits x → IsLawful i → IsLawful j → j ≡ appended i (x ∷ []) → Does i e j
does_alone i x e j is compiled before behind alone = record { happened = x; telling = is; compiled = compiled; redone = redone_alone i x j before behind alone }

-- the same, where also some of what is kept beside the world was changed
pub does_beside : (i : ImageView) (x : Item) (e : Entry) (j : ImageView) → told x ≡ e → IsCompiledItem i.names (world i).edits x → IsLawful i → IsLawful j → j ≡ record (appended i (x ∷ [])) { standing = j.standing } → KeepsBeside i j → Does i e j
does_beside i x e j is compiled before behind last beside = record { happened = x; telling = is; compiled = compiled; redone = redone i x j before behind last beside }
