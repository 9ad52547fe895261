-- The reply says what was answered to a query.
use Rattle.std.proofs.Common.{◌≡◌, ◌∙◌, IfOk, Result, Ok, Err, ap, inl, inr, refl, subst}
use Rattle.std.specs.declared.alloc.AllocError.{AllocError}
use Rattle.serde_json.specs.Data.{Data}
use Rattle.serde_json.specs.View.{view}
use Rattle.serde_json.specs.declared.value.Value.{Value}
use Rattle.st_classes.specs.declared.refusals.Refusal.{Refusal}
use Rattle.st_classes.specs.declared.refusals.Refusal.TheVariants.{NoMemory}
use Rattle.st_wire.specs.Replies.{ok}
use Rattle.st_image.specs.Images.{ImageView}
use Rattle.st_wire.specs.declared.queries.Query.{Query}
use Rattle.st_wire.specs.declared.replies.Reply.{Reply}
use Rattle.st_wire.specs.declared.replies.Reply.TheVariants.{Refused, Told}
use Rattle.st_queries.specs.Answers.{IsAnswer}
use Rattle.st_queries.specs.declared.hosts.Host.{Host}
use Rattle.st_queries.specs.Snapshots.{Snapshot, snapshot}
use Rattle.st_queries.specs.Replying.{Looks, Says, TellsOf, TellsSeen}

pub says_told : (d : Result Data Refusal) (told v : Value) → IsAnswer d (Ok told) → view v ≡ ok (view told) → Says d (Told v)
says_told (Ok x) told v h e = inl (v, refl, e ∙ ap ok h)
says_told (Err e) told v h f = absurd (let none : Ok told ≡ Err e = h in cc)

-- there was no memory to tell it
pub says_nothing : (d : Result Data Refusal) (told : Value) → IsAnswer d (Ok told) → Says d (Refused NoMemory)
says_nothing (Ok x) told h = inr refl
says_nothing (Err e) told h = absurd (let none : Ok told ≡ Err e = h in cc)

pub says_refused : (d : Result Data Refusal) (e : Refusal) → IsAnswer d (Err e) → Says d (Refused e)
says_refused (Ok x) e h = inr (ap Refused h)
says_refused (Err f) e h = let same : e ≡ f = let both : Err e ≡ Err f = h in cc in ap Refused same

-- what is seen of an image is told of it
pub looked : (i : ImageView) (host : Host) (q : Query) (s : Result Snapshot AllocError) (r : Reply) → IfOk s (λ (x : Snapshot). x ≡ snapshot i q) → TellsSeen s host q r → Looks i host q r
looked i host q (Ok x) r e h = inl (subst (λ (y : Snapshot). TellsOf y host q r) e h)
looked i host q (Err f) r e h = inr h
