-- How much more an image has counted after each of its calls.
use Rattle.std.proofs.Common.{◌≡◌, ℕ, ◌+◌, ◌==◌, List, [], ◌∷◌, ◌++◌, Option, Some, None, Result, Ok, Err, Bool, true, false, length, length-append, refl, ap, sym, ◌∙◌, subst, arith, append-nil, inl, inr, slice_get, if◌then◌else◌}
use Rattle.std.specs.Prelude.{is_ok, IfOk, OnErr, OnOk}
use Rattle.st_classes.specs.declared.values.ActorId.{ActorId}
use Rattle.st_classes.specs.declared.values.ClassId.{ClassId}
use Rattle.st_classes.specs.declared.values.Selector.{Selector}
use Rattle.st_classes.specs.declared.edits.Edit.TheVariants.{Define, Install, Remove, Reparent}
use Rattle.st_classes.specs.declared.edits.Edit.{Edit}
use Rattle.st_classes.specs.declared.refusals.Refusal.{Refusal}
use Rattle.st_classes.specs.declared.refusals.Refusal.TheVariants.{NoMemory, Stale, Changed, HistoryFull, TooMany}
use Rattle.st_classes.specs.declared.refusals.Limited.TheVariants.{Names, Edits}
use Rattle.st_classes.specs.Refusals.{Rule}
use Rattle.st_classes.specs.Names.{interned}
use Rattle.st_turn.specs.Claims.{ClaimView}
use Rattle.st_mailbox.specs.declared.messages.Message.{Message}
use Rattle.st_image.specs.declared.history.Item.{Item}
use Rattle.st_image.specs.declared.history.Item.TheVariants.{Begun, Closed, Created, Edited, Posted, Ran}
use Rattle.st_image.specs.Images.{ImageView, accepted_by, appended, close_rules, create_rules, image_define_rules, image_post_rules, image_remove_rules, image_reparent_rules, world, counts_of}
use Rattle.st_image.specs.Calls.{Adds, Closes, Creates, Defines, InstallsIn, Posts, Removes, Reparents}
use Rattle.st_image.specs.declared.counts.Counts.{Counts}
use Rattle.st_image.specs.EarlierCounts.{EarlierCounts}
use Rattle.st_image.specs.Worlds.{World}
use Rattle.st_image.specs.Checkpoints.{MakesCheckpoint}
use Rattle.st_image.specs.RanTargets.{edits_among}
use Rattle.st_image.specs.Installs.{LeavesNames}
use Rattle.st_image.specs.Commits.{ChecksOut, HasCheckedOut, RefusesCommit, ReleasesBack, Settles, idle_at, steps_of, with_out}
use Rattle.st_image.specs.WorldInvariant.{IsLawful}
use Rattle.st_calls.specs.Growth.{Grows, counted, committed}
use Rattle.st_image.specs.Counts.{edits_of, posts_of, ran_of, weigh}
use Rattle.st_image.specs.GoingOn.{GoesOnIn}
use Rattle.st_image.proofs.GrowingEdits.{edits_longer as edits_go_on}
use Rattle.st_image.proofs.Checkpointing.{world_is}
use Rattle.st_image.proofs.CountingItems.{weigh_append}
use Rattle.st_image.proofs.Renewal.{edits_counted}
use Rattle.st_image.proofs.CallsLater.{commits_later, refused_later, released_later, same_image}
use Rattle.st_calls.proofs.GoingThen.{goes_then}

-- items are counted
by_items : (i j : ImageView) (items : List Item) (posts edits steps : ℕ) → IsLawful i → IsLawful j → j.base ≡ i.base → j.history ≡ i.history ++ items → j.standing.earlier ≡ i.standing.earlier
    → weigh posts_of items ≡ posts → weigh edits_of items ≡ edits → weigh ran_of items ≡ steps → Grows posts edits steps i j
by_items i j items posts edits steps li lj base history earlier p e s =
    let more : (f : Item → ℕ) → weigh f j.history ≡ weigh f i.history + weigh f items = λ f. ap (weigh f) history ∙ weigh_append f i.history items in
    let longer : (world j).edits ≡ (world i).edits ++ edits_among items = edits_go_on i j li lj (record { base = base; items = items; history = history }) in
    let long : length (world j).edits ≡ length ((world i).edits ++ edits_among items) = ap (λ (es : List Edit). length es) longer in
    let were : j.standing.earlier.posts ≡ i.standing.earlier.posts = ap (λ (x : EarlierCounts). x.posts) earlier in
    let took : j.standing.earlier.steps ≡ i.standing.earlier.steps = ap (λ (x : EarlierCounts). x.steps) earlier in
    record {
      more_posts = omega (arith, were, more posts_of, p);
      more_edits = omega (arith, long, length-append (world i).edits (edits_among items), edits_counted items, e);
      more_steps = omega (arith, took, more ran_of, s);
    }

-- nothing is added
pub none : (i j : ImageView) → IsLawful i → IsLawful j → j.base ≡ i.base → j.history ≡ i.history → j.standing.earlier ≡ i.standing.earlier → Grows 0 0 0 i j
none i j li lj base history earlier = by_items i j [] 0 0 0 li lj base (history ∙ sym (append-nil i.history)) earlier refl refl refl

-- an image that differs in none of these
same_by : (i j : ImageView) → IsLawful i → IsLawful j → j ≡ i → Grows 0 0 0 i j
same_by i j li lj e = none i j li lj (ap (λ (x : ImageView). x.base) e) (ap (λ (x : ImageView). x.history) e) (ap (λ (x : ImageView). x.standing.earlier) e)

-- one item is added
pub one : (i j : ImageView) (item : Item) → IsLawful i → IsLawful j → j.base ≡ i.base → j.history ≡ i.history ++ item ∷ [] → j.standing.earlier ≡ i.standing.earlier → Grows (posts_of item) (edits_of item) (ran_of item) i j
one i j item li lj base history earlier = by_items i j (item ∷ []) (posts_of item) (edits_of item) (ran_of item) li lj base history earlier (omega arith) (omega arith) (omega arith)

by_none : {T : Type 0} (rules : List Rule) (i j : ImageView) (item : Item) (answer : ImageView → T) (e : Refusal) → IsLawful i → IsLawful j → Adds rules i item answer (Err e) j → Grows 0 0 0 i j
by_none rules i j item answer e li lj h = same_by i j li lj h.1

by_one : {T : Type 0} (rules : List Rule) (i j : ImageView) (item : Item) (answer : ImageView → T) (v : T) → IsLawful i → IsLawful j → Adds rules i item answer (Ok v) j → Grows (posts_of item) (edits_of item) (ran_of item) i j
by_one rules i j item answer v li lj h = one i j item li lj (ap (λ (x : ImageView). x.base) h.0.1.0) (ap (λ (x : ImageView). x.history) h.0.1.0) (ap (λ (x : ImageView). x.standing.earlier) h.0.1.0)

pub defines_grow : (i j : ImageView) (name : List ℕ) (parent : ClassId) (slots : List (List ℕ)) (r : Result ℕ Refusal) → IsLawful i → IsLawful j → Defines i name parent slots r j → Grows 0 (counted (is_ok r)) 0 i j
defines_grow i j name parent slots (Ok v) li lj (inl h) = cc (h.0)
defines_grow i j name parent slots (Ok v) li lj (inr h) = by_one (image_define_rules i name parent slots) i j (Edited (Define name parent slots)) (λ x. length (world x).edits) v li lj h
defines_grow i j name parent slots (Err e) li lj (inl h) = same_by i j li lj h.1
defines_grow i j name parent slots (Err e) li lj (inr h) = by_none (image_define_rules i name parent slots) i j (Edited (Define name parent slots)) (λ x. length (world x).edits) e li lj h

pub removes_grow : (i j : ImageView) (class : ClassId) (s : Selector) (r : Result ℕ Refusal) → IsLawful i → IsLawful j → Removes i class s r j → Grows 0 (counted (is_ok r)) 0 i j
removes_grow i j class s (Ok v) li lj h = by_one (image_remove_rules i class s) i j (Edited (Remove class s)) (λ x. length (world x).edits) v li lj h
removes_grow i j class s (Err e) li lj h = by_none (image_remove_rules i class s) i j (Edited (Remove class s)) (λ x. length (world x).edits) e li lj h

pub reparents_grow : (i j : ImageView) (class parent : ClassId) (r : Result ℕ Refusal) → IsLawful i → IsLawful j → Reparents i class parent r j → Grows 0 (counted (is_ok r)) 0 i j
reparents_grow i j class parent (Ok v) li lj h = by_one (image_reparent_rules i class parent) i j (Edited (Reparent class parent)) (λ x. length (world x).edits) v li lj h
reparents_grow i j class parent (Err e) li lj h = by_none (image_reparent_rules i class parent) i j (Edited (Reparent class parent)) (λ x. length (world x).edits) e li lj h

pub creates_grow : (i j : ImageView) (class : ClassId) (r : Result ActorId Refusal) → IsLawful i → IsLawful j → Creates i class r j → Grows 0 0 0 i j
creates_grow i j class (Ok v) li lj h = by_one {T = ActorId} (create_rules i class) i j (Created class) (λ x. record { 0 = length (world i).actors }) v li lj h
creates_grow i j class (Err e) li lj h = by_none {T = ActorId} (create_rules i class) i j (Created class) (λ x. record { 0 = length (world i).actors }) e li lj h

pub posts_grow : (i j : ImageView) (a : ActorId) (m : Message) (r : Result ℕ Refusal) → IsLawful i → IsLawful j → Posts i a m r j → Grows (counted (is_ok r)) 0 0 i j
posts_grow i j a m (Ok v) li lj h = by_one (image_post_rules i a m) i j (Posted a m) (λ x. accepted_by (slice_get (world x).actors a.0)) v li lj h
posts_grow i j a m (Err e) li lj h = by_none (image_post_rules i a m) i j (Posted a m) (λ x. accepted_by (slice_get (world x).actors a.0)) e li lj h

pub closes_grow : (i j : ImageView) (a : ActorId) (r : Result (Unit {0}) Refusal) → IsLawful i → IsLawful j → Closes i a r j → Grows 0 0 0 i j
closes_grow i j a (Ok v) li lj h = by_one {T = Unit {0}} (close_rules i (slice_get (world i).actors a.0)) i j (Closed a) (λ x. tt {0}) v li lj h
closes_grow i j a (Err e) li lj h = by_none {T = Unit {0}} (close_rules i (slice_get (world i).actors a.0)) i j (Closed a) (λ x. tt {0}) e li lj h

-- only names are left
named_by : (i j : ImageView) (names : List (List ℕ)) → IsLawful i → IsLawful j → j ≡ record i { names = names } → Grows 0 0 0 i j
named_by i j names li lj e = none i j li lj (ap (λ (x : ImageView). x.base) e) (ap (λ (x : ImageView). x.history) e) (ap (λ (x : ImageView). x.standing.earlier) e)

left_grow : (i j : ImageView) (c : ClassId) (text : List ℕ) (e : Refusal) → IsLawful i → IsLawful j → LeavesNames i c text e j → Grows 0 0 0 i j
left_grow i j c text NoMemory li lj (inl h) = same_by i j li lj h
left_grow i j c text NoMemory li lj (inr h) = named_by i j j.names li lj h.only
left_grow i j c text (TooMany Names) li lj h = named_by i j j.names li lj h.0.only
left_grow i j c text (TooMany Edits) li lj h = named_by i j j.names li lj h.only
left_grow i j c text HistoryFull li lj h = named_by i j j.names li lj h.only
left_grow i j c text e li lj h = same_by i j li lj h

pub installs_grow : (i j : ImageView) (c : ClassId) (text : List ℕ) (r : Result ℕ Refusal) → IsLawful i → IsLawful j → InstallsIn i c text r j → Grows 0 (counted (is_ok r)) 0 i j
installs_grow i j c text (Ok n) li lj h = one i j (Edited (Install c h.0.3.parts)) li lj (ap (λ (x : ImageView). x.base) h.0.3.added) (ap (λ (x : ImageView). x.history) h.0.3.added) (ap (λ (x : ImageView). x.standing.earlier) h.0.3.added)
installs_grow i j c text (Err e) li lj h = left_grow i j c text e li lj h.1.0

pub interns_grow : (i j : ImageView) (text : List ℕ) (r : Result Selector Refusal) → IsLawful i → IsLawful j → OnOk r (j ≡ record i { names = interned i.names text }) → OnErr r (j ≡ i) → Grows 0 0 0 i j
interns_grow i j text (Ok s) li lj h e = named_by i j (interned i.names text) li lj h
interns_grow i j text (Err x) li lj h e = same_by i j li lj e

-- a checkpoint counts nothing
pub checkpoints_grow : (i j : ImageView) (r : Result (Unit {0}) Refusal) → MakesCheckpoint i r j → Grows 0 0 0 i j
checkpoints_grow i j (Ok v) h =
    let edits : length (world j).edits ≡ length (world i).edits = ap (λ (w : World). length w.edits) (world_is i j h) in
    let posts : (counts_of j).posts ≡ (counts_of i).posts = ap (λ (c : Counts). c.posts) h.counts in
    let steps : (counts_of j).steps ≡ (counts_of i).steps = ap (λ (c : Counts). c.steps) h.counts in
    record { more_posts = omega (arith, posts); more_edits = omega (arith, edits); more_steps = omega (arith, steps) }
checkpoints_grow i j (Err e) h = subst (Grows 0 0 0 i) (sym h.1) (record { more_posts = omega arith; more_edits = omega arith; more_steps = omega arith })

-- the base, the history and what was counted before it are those of another image
record SameCounts (i j : ImageView) : Type 0 where
  base : j.base ≡ i.base
  history : j.history ≡ i.history
  earlier : j.standing.earlier ≡ i.standing.earlier

counts_by : (i j : ImageView) → j.base ≡ i.base → j.history ≡ i.history → j.standing.earlier ≡ i.standing.earlier → SameCounts i j
counts_by i j b h e = record { base = b; history = h; earlier = e }

-- ---- claims

went_out : (idle : Bool) (i j : ImageView) (a : ActorId) → IsLawful i → IsLawful j → j ≡ with_out (let begun : ImageView = if idle then appended i (Begun a ∷ []) else i in record begun { standing = record begun.standing { next_from = a.0 + 1 } }) j → Grows 0 0 0 i j
went_out true i j a li lj h = one i j (Begun a) li lj (ap (λ (x : ImageView). x.base) h) (ap (λ (x : ImageView). x.history) h) (ap (λ (x : ImageView). x.standing.earlier) h)
went_out false i j a li lj h = none i j li lj (ap (λ (x : ImageView). x.base) h) (ap (λ (x : ImageView). x.history) h) (ap (λ (x : ImageView). x.standing.earlier) h)

pub checks_out_grow : (i j : ImageView) (a : ActorId) (r : Result ClaimView Refusal) → IsLawful i → IsLawful j → ChecksOut i a r j → Grows 0 0 0 i j
checks_out_grow i j a (Ok c) li lj h = went_out (idle_at (slice_get (world i).actors a.0)) i j a li lj h.0.1.image
checks_out_grow i j a (Err e) li lj h = same_by i j li lj h.1

same_table : (idle : Bool) (i j : ImageView) (a : ActorId) → IsLawful i → IsLawful j → j ≡ with_out (let begun : ImageView = if idle then appended i (Begun a ∷ []) else i in record begun { standing = record begun.standing { next_from = a.0 + 1 } }) j → (world j).edits ≡ (world i).edits
same_table true i j a li lj h = edits_go_on i j li lj (record { base = ap (λ (x : ImageView). x.base) h; items = Begun a ∷ []; history = ap (λ (x : ImageView). x.history) h }) ∙ append-nil (world i).edits
same_table false i j a li lj h = edits_go_on i j li lj (record { base = ap (λ (x : ImageView). x.base) h; items = []; history = ap (λ (x : ImageView). x.history) h ∙ sym (append-nil i.history) }) ∙ append-nil (world i).edits

-- a claim that is handed out is one of the table of the image after it
pub checked_out_present : (i j : ImageView) (a : ActorId) (c : ClaimView) → IsLawful i → IsLawful j → HasCheckedOut i a c j → c.edits ≡ (world j).edits
checked_out_present i j a c li lj h = ap (λ (d : ClaimView). d.edits) h.claim ∙ sym (same_table (idle_at (slice_get (world i).actors a.0)) i j a li lj h.image)

ran : (i j : ImageView) (a : ActorId) (n : ℕ) → IsLawful i → IsLawful j → (b : Bool) → (n == 0) ≡ b → j.base ≡ i.base → j.history ≡ i.history ++ (if b then [] else Ran a n ∷ []) → j.standing.earlier ≡ i.standing.earlier → Grows 0 0 n i j
ran i j a n li lj true zero base h earlier = let is : n ≡ 0 = grind (arith, zero) in subst (λ m. Grows 0 0 m i j) (sym is) (none i j li lj base (h ∙ append-nil i.history) earlier)
ran i j a n li lj false zero base h earlier = one i j (Ran a n) li lj base h earlier

-- a refused commit, which is released where it was handed back, leaves all that is counted
refused_same : (i j : ImageView) (c : ClaimView) (e : Refusal) (back : Option ClaimView) → RefusesCommit i c e back j → SameCounts i j
refused_same i j c (Stale version) back h = counts_by i j (ap (λ (x : ImageView). x.base) h.2.image) (ap (λ (x : ImageView). x.history) h.2.image) (ap (λ (x : ImageView). x.standing.earlier) h.2.image)
refused_same i j c Changed back h = counts_by i j (ap (λ (x : ImageView). x.base) h.2.image) (ap (λ (x : ImageView). x.history) h.2.image) (ap (λ (x : ImageView). x.standing.earlier) h.2.image)
refused_same i j c HistoryFull back h = counts_by i j (ap (λ (x : ImageView). x.base) h.2.image) (ap (λ (x : ImageView). x.history) h.2.image) (ap (λ (x : ImageView). x.standing.earlier) h.2.image)
refused_same i j c NoMemory back h = counts_by i j (ap (λ (x : ImageView). x.base) h.2.image) (ap (λ (x : ImageView). x.history) h.2.image) (ap (λ (x : ImageView). x.standing.earlier) h.2.image)
refused_same i j c _ back h = absurd h

back_same : (i j : ImageView) (back : Option ClaimView) → ReleasesBack i back j → SameCounts i j
back_same i j None h = counts_by i j (ap (λ (x : ImageView). x.base) h) (ap (λ (x : ImageView). x.history) h) (ap (λ (x : ImageView). x.standing.earlier) h)
back_same i j (Some c) h = counts_by i j (ap (λ (x : ImageView). x.base) h.image) (ap (λ (x : ImageView). x.history) h.image) (ap (λ (x : ImageView). x.standing.earlier) h.image)

pub settles_grow : (i j : ImageView) (c : ClaimView) (r : Result ℕ Refusal) → IsLawful i → IsLawful j → Settles i c r j → Grows 0 0 (committed r) i j
settles_grow i j c (Ok n) li lj h = subst (λ m. Grows 0 0 m i j) (sym h.steps) (ran i j c.actor (steps_of c) li lj (steps_of c == 0) refl (ap (λ (x : ImageView). x.base) h.image) (ap (λ (x : ImageView). x.history) h.image) h.earlier)
settles_grow i j c (Err e) li lj h =
    let first = refused_same i h.1 c e h.0 h.2 in
    let after = back_same h.1 j h.0 h.3 in
    none i j li lj (after.base ∙ first.base) (after.history ∙ first.history) (after.earlier ∙ first.earlier)

pub checks_out_present : (i j : ImageView) (a : ActorId) (r : Result ClaimView Refusal) → IsLawful i → IsLawful j → ChecksOut i a r j → IfOk r (λ c. c.edits ≡ (world j).edits)
checks_out_present i j a (Ok c) li lj h = checked_out_present i j a c li lj h.0.1
checks_out_present i j a (Err e) li lj h = tt

released_back : (i j : ImageView) (back : Option ClaimView) → ReleasesBack i back j → GoesOnIn i j
released_back i j None h = same_image i j h
released_back i j (Some c) h = released_later i j c.actor h

pub settles_later : (i j : ImageView) (c : ClaimView) (r : Result ℕ Refusal) → IsLawful i → IsLawful j → Settles i c r j → GoesOnIn i j
settles_later i j c (Ok n) li lj h = commits_later i j c (Ok n) li lj h
settles_later i j c (Err e) li lj h = goes_then i h.1 j (refused_later i h.1 c e h.0 h.2) (released_back h.1 j h.0 h.3)
