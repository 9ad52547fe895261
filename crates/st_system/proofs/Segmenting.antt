-- The segments of a run, one event more.
use Rattle.std.proofs.Common.{◌≡◌, ℕ, [], ◌∷◌, ◌++◌, List, Option, Some, None, Result, ap, sym, ◌∙◌, refl, append_assoc, append-nil, slice_get, inl, inr}
use Rattle.std.proofs.lemmas.List.Elements.{All-nil, All-push}
use Rattle.st_classes.specs.declared.values.ActorId.{ActorId}
use Rattle.st_classes.specs.declared.refusals.Refusal.{Refusal}
use Rattle.st_image.specs.Delivery.{IsPrefixOf}
use Rattle.st_image.specs.Images.{ImageView}
use Rattle.st_image.specs.WorldInvariant.{settings_of}
use Rattle.st_image.specs.Checkpoints.{BeginsAnew}
use Rattle.st_image.proofs.GrowingEdits.{GoesOn, goes_from}
use Rattle.st_image.proofs.CallsGoOn.{checks_out_goes, commits_goes, out_goes}
use Rattle.st_calls.proofs.DoingMoves.{Moves, does_moves}
use Rattle.st_system.specs.declared.events.Answer.{Answer}
use Rattle.st_system.specs.declared.events.Event.{Event}
use Rattle.st_system.specs.declared.events.Event.TheVariants.{Call, Checkout, Local, Commit, Release, Forget}
use Rattle.st_system.specs.Schedules.{BareClaim, Schedule, with_sends}
use Rattle.st_system.specs.ClaimEvents.{AtWorker, CommitsClaim, KeepsClaim, OfClaim, ReleasesClaim, StepsClaim, TakesClaim}
use Rattle.st_system.specs.Acts.{Acts}
use Rattle.st_system.specs.Segments.{Follow, GoesOnTo, HasSegments, IsSegment, begun_anew}
use Rattle.st_system.proofs.Keeping.{Keeps, event_keeps}

-- ---- one event

same : (S T : Schedule) → T ≡ S → Moves S.image T.image
same S T e = inl (goes_from S.image T.image (ap (λ (X : Schedule). X.image) e))

same_image : (i j : ImageView) → j ≡ i → Moves i j
same_image i j e = inl (goes_from i j e)

takes_moves : (S T : Schedule) (w : ℕ) (a : ActorId) (r : Result Answer Refusal) (o : Option (Option BareClaim)) → AtWorker (TakesClaim a) S w r T o → Moves S.image T.image
takes_moves S T w a r None h = same S T h.1
takes_moves S T w a r (Some (Some c)) h = same_image S.image T.image h.1.1
takes_moves S T w a r (Some None) h = inl (checks_out_goes S.image T.image a h.1.0 h.1.2)

local_moves : (S T : Schedule) (w : ℕ) (r : Result Answer Refusal) (o : Option (Option BareClaim)) → AtWorker (OfClaim StepsClaim) S w r T o → Moves S.image T.image
local_moves S T w r None h = same S T h.1
local_moves S T w r (Some None) h = same_image S.image T.image h.1.1
local_moves S T w r (Some (Some c)) h = same_image S.image T.image h.1.4

commit_moves : (S T : Schedule) (w : ℕ) (r : Result Answer Refusal) (o : Option (Option BareClaim)) → AtWorker (OfClaim CommitsClaim) S w r T o → Moves S.image T.image
commit_moves S T w r None h = same S T h.1
commit_moves S T w r (Some None) h = same_image S.image T.image h.1.1
commit_moves S T w r (Some (Some c)) h = inl (commits_goes S.image T.image (with_sends c h.1.0 h.1.1) h.1.2 h.1.4)

release_moves : (S T : Schedule) (w : ℕ) (r : Result Answer Refusal) (o : Option (Option BareClaim)) → AtWorker (OfClaim ReleasesClaim) S w r T o → Moves S.image T.image
release_moves S T w r None h = same S T h.1
release_moves S T w r (Some None) h = same_image S.image T.image h.1.1
release_moves S T w r (Some (Some c)) h = inl (out_goes S.image T.image h.1.1.image)

forget_moves : (S T : Schedule) (w : ℕ) (r : Result Answer Refusal) (o : Option (Option BareClaim)) → AtWorker KeepsClaim S w r T o → Moves S.image T.image
forget_moves S T w r None h = same S T h.1
forget_moves S T w r (Some c) h = same_image S.image T.image h.1.1

event_moves : (S T : Schedule) (e : Event) (r : Result Answer Refusal) → Acts S e r T → Moves S.image T.image
event_moves S T (Call c) r (inl h) = same S T h.1.1
event_moves S T (Call c) r (inr h) = does_moves S.image T.image c h.0 h.2
event_moves S T (Checkout w a) r h = takes_moves S T w a r (slice_get S.claims w) h
event_moves S T (Local w) r h = local_moves S T w r (slice_get S.claims w) h
event_moves S T (Commit w) r h = commit_moves S T w r (slice_get S.claims w) h
event_moves S T (Release w) r h = release_moves S T w r (slice_get S.claims w) h
event_moves S T (Forget w) r h = forget_moves S T w r (slice_get S.claims w) h

-- ---- segments

longer : {X : Type 0} (before h k items : List X) → k ≡ h ++ items → IsPrefixOf before h → IsPrefixOf before k
longer {X} before h k items e (rest, is) = (rest ++ items, e ∙ ap (λ (xs : List X). xs ++ items) is ∙ append_assoc before rest items)

goes_further : (i j k : ImageView) → GoesOn j k → Keeps j k → GoesOnTo i j → GoesOnTo i k
goes_further i j k g n f = record {
  base = g.base ∙ f.base;
  settings = n.settings ∙ f.settings;
  history = longer i.history j.history k.history g.items g.history f.history;
  names = longer i.names j.names k.names n.names.0 n.names.1 f.names;
}

goes_anew : (j k : ImageView) → BeginsAnew j k → GoesOnTo (begun_anew j) k
goes_anew j k h = record {
  base = ap (λ (x : ImageView). x.base) h.image;
  settings = ap settings_of h.image;
  history = (k.history, refl);
  names = ([], ap (λ (x : ImageView). x.names) h.image ∙ sym (append-nil j.names));
}

-- the last segment goes on
follow_on : (i : ImageView) (es : List ImageView) (j k : ImageView) → GoesOn j k → Keeps j k → Follow i es j → Follow i es k
follow_on i [] j k g n f = goes_further i j k g n f
follow_on i (e ∷ es) j k g n f = (f.0, follow_on (begun_anew e) es j k g n f.1)

-- the last segment ends, and another begins
follow_anew : (i : ImageView) (es : List ImageView) (j k : ImageView) → BeginsAnew j k → Follow i es j → Follow i (es ++ j ∷ []) k
follow_anew i [] j k h f = (f, goes_anew j k h)
follow_anew i (e ∷ es) j k h f = (f.0, follow_anew (begun_anew e) es j k h f.1)

segments_by : (i j k : ImageView) → IsSegment k → Moves j k → Keeps j k → HasSegments i j → HasSegments i k
segments_by i j k known (inl g) n s = record { ended = s.ended; each = s.each; last = known; follow = follow_on i s.ended j k g n s.follow }
segments_by i j k known (inr h) n s = record { ended = s.ended ++ j ∷ []; each = All-push IsSegment s.ended j s.each s.last; last = known; follow = follow_anew i s.ended j k h s.follow }

pub segments_more : (i : ImageView) (S T : Schedule) (e : Event) (r : Result Answer Refusal) → IsSegment T.image → Acts S e r T → HasSegments i S.image → HasSegments i T.image
segments_more i S T e r known h s = segments_by i S.image T.image known (event_moves S T e r h) (event_keeps S T e r h) s

pub one_segment : (i : ImageView) → IsSegment i → HasSegments i i
one_segment i known = record { ended = []; each = All-nil IsSegment; last = known; follow = record { base = refl; settings = refl; history = ([], sym (append-nil i.history)); names = ([], sym (append-nil i.names)) } }
