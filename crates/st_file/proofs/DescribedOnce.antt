-- A value describes one world at most, and none where something is wrong of it.
use Rattle.std.proofs.Common.{◌≡◌, ◌⊎◌, ℕ, List, Some, None, Result, Ok, Err, IfErr, inl, inr, sym, ap, subst, ◌∙◌}
use Rattle.std.proofs.lemmas.Option.{same_Some}
use Rattle.serde_json.specs.Data.{Data}
use Rattle.st_classes.specs.declared.refusals.Refusal.{Refusal}
use Rattle.st_classes.specs.declared.refusals.Refusal.TheVariants.{NoMemory}
use Rattle.st_classes.specs.declared.refusals.ImagePlace.TheVariants as place
use Rattle.st_image.specs.declared.actor_part.ActorPart.{ActorPart}
use Rattle.st_image.specs.declared.counts.Counts.{Counts}
use Rattle.st_image.specs.Images.{ImageView}
use Rattle.st_image.specs.Loading.{LoaderView, LeadsToOne, LoadsAll, LoadsEdit, LoadsName}
use Rattle.st_image.specs.Parts.{world_of_parts}
use Rattle.st_image.specs.Worlds.{World}
use Rattle.st_file.specs.declared.texts.ImageText.{ImageText}
use Rattle.st_file.specs.Describes.{kernel_table, Describes, DescribesOne, HasActors, HasEdits, HasNames, HasSenderNumbers, HasShape, IsWrongAt, LoadsImage, WrongDescribesNone}
use Rattle.st_file.specs.Meanings.{actors_meant}

-- ---- what a value has at each place is one

same_text : (v : Data) (s t : ImageText) → HasShape v s → HasShape v t → s ≡ t
same_text v s t p q = same_Some s t (sym p ∙ q)

same_names : LeadsToOne (LoadsAll LoadsName) → (s t : ImageText) (m n : LoaderView) → s ≡ t → HasNames s m → HasNames t n → m ≡ n
same_names one s t m n e p q = one kernel_table t.names m n (subst (λ (x : ImageText). HasNames x m) e p) q

same_edits : LeadsToOne (LoadsAll LoadsEdit) → (s t : ImageText) (m n k l : LoaderView) → s ≡ t → m ≡ n → HasEdits s m k → HasEdits t n l → k ≡ l
same_edits one s t m n k l e f p q =
    one n t.edits k l (subst (λ (x : LoaderView). HasEdits t x k) f (subst (λ (x : ImageText). HasEdits x m k) e p)) q

same_actors : (s t : ImageText) (k l : LoaderView) (ps qs : List ActorPart) → s ≡ t → k ≡ l → HasActors s k ps → HasActors t l qs → ps ≡ qs
same_actors s t k l ps qs e f p q =
    same_Some ps qs (sym p.meant ∙ ap (λ (x : ImageText). actors_meant k.names k.edits x.actors) e ∙ ap (λ (x : LoaderView). actors_meant x.names x.edits t.actors) f ∙ q.meant)

-- ---- one world

world_at : (k l : LoaderView) (ps qs : List ActorPart) (s t : ImageText) → k ≡ l → ps ≡ qs → s ≡ t → world_of_parts k.edits ps s.senders ≡ world_of_parts l.edits qs t.senders
world_at k l ps qs s t e f g =
    ap (λ (x : LoaderView). world_of_parts x.edits ps s.senders) e ∙ ap (λ (x : List ActorPart). world_of_parts l.edits x s.senders) f ∙ ap (λ (x : ImageText). world_of_parts l.edits qs x.senders) g

pub describes_once : LeadsToOne (LoadsAll LoadsName) → LeadsToOne (LoadsAll LoadsEdit) → DescribesOne
describes_once one_names one_edits v names others w u counts other_counts d e =
    let text = same_text v d.text e.text d.shape e.shape in
    let named = same_names one_names d.text e.text d.named e.named text d.names_load e.names_load in
    let loaded = same_edits one_edits d.text e.text d.named e.named d.loaded e.loaded text named d.edits_load e.edits_load in
    let parts = same_actors d.text e.text d.loaded e.loaded d.parts e.parts text loaded d.actors e.actors in (
      d.names_are ∙ ap (λ (x : LoaderView). x.names) loaded ∙ sym e.names_are,
      d.world_is ∙ world_at d.loaded e.loaded d.parts e.parts d.text e.text loaded parts text ∙ sym e.world_is,
      d.counts_are ∙ ap (λ (x : ImageText). x.counts) text ∙ sym e.counts_are,
    )

-- ---- or none

no_shape : (v : Data) (t : ImageText) → HasShape v t → IsWrongAt place.Shape v → ⊥
no_shape v t p q = let none : Some t ≡ None = sym p ∙ q in cc

pub wrong_none : LeadsToOne (LoadsAll LoadsName) → LeadsToOne (LoadsAll LoadsEdit) → WrongDescribesNone
wrong_none one_names one_edits place.Json v names w counts wrong d = wrong
wrong_none one_names one_edits place.Shape v names w counts wrong d = no_shape v d.text d.shape wrong
wrong_none one_names one_edits place.Names v names w counts (t, shape, nowhere) d =
    let text = same_text v d.text t d.shape shape in
    nowhere d.named (subst (λ (x : ImageText). HasNames x d.named) text d.names_load)
wrong_none one_names one_edits place.Edits v names w counts (t, m, shape, names_load, nowhere) d =
    let text = same_text v d.text t d.shape shape in
    let named = same_names one_names d.text t d.named m text d.names_load names_load in
    nowhere d.loaded (subst (λ (x : LoaderView). HasEdits t x d.loaded) named (subst (λ (x : ImageText). HasEdits x d.named d.loaded) text d.edits_load))
wrong_none one_names one_edits place.Actors v names w counts (t, m, l, shape, names_load, edits_load, none) d =
    let text = same_text v d.text t d.shape shape in
    let named = same_names one_names d.text t d.named m text d.names_load names_load in
    let loaded = same_edits one_edits d.text t d.named m d.loaded l text named d.edits_load edits_load in
    none d.parts (subst (λ (x : LoaderView). HasActors t x d.parts) loaded (subst (λ (x : ImageText). HasActors x d.loaded d.parts) text d.actors))
wrong_none one_names one_edits place.Senders v names w counts (t, m, l, ps, shape, names_load, edits_load, actors, none) d =
    let text = same_text v d.text t d.shape shape in
    let named = same_names one_names d.text t d.named m text d.names_load names_load in
    let loaded = same_edits one_edits d.text t d.named m d.loaded l text named d.edits_load edits_load in
    let parts = same_actors d.text t d.loaded l d.parts ps text loaded d.actors actors in
    none (subst (λ (x : List ActorPart). HasSenderNumbers t l x) parts (subst (λ (x : LoaderView). HasSenderNumbers t x d.parts) loaded (subst (λ (x : ImageText). HasSenderNumbers x d.loaded d.parts) text d.senders)))

-- what is refused for another cause than memory describes no world
pub refused_none : (v : Data) (r : Result ImageView Refusal) → WrongDescribesNone → LoadsImage v r
    → IfErr r (λ e. (e ≡ NoMemory) ⊎ ((names : List (List ℕ)) (w : World) (counts : Counts) → Describes v names w counts → ⊥))
refused_none v (Ok i) none loads = tt
refused_none v (Err e) none (inl m) = inl m
refused_none v (Err e) none (inr (p, is, wrong)) = inr (λ names w counts d. none p v names w counts wrong d)
