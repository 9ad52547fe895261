-- Holds, one after the other, are a hold.
use Rattle.std.proofs.Common.{◌≡◌, ℕ, ◌+◌, List, [], ◌∷◌, ◌++◌, Bool, true, false, Result, Ok, Err, refl, ap₂, subst, sym}
use Rattle.std.specs.Prelude.{MatchBool}
use Rattle.st_classes.specs.declared.refusals.Refusal.{Refusal}
use Rattle.st_classes.specs.declared.values.Selector.{Selector}
use Rattle.st_calls.specs.declared.calls.Answer.TheVariants as answer
use Rattle.st_calls.specs.declared.calls.Call.TheVariants as call
use Rattle.st_calls.specs.Does.{Does, told}
use Rattle.st_turn.specs.Claims.{ClaimView}
use Rattle.st_image.specs.Images.{ImageView}
use Rattle.st_calls.specs.Growth.{committed}
use Rattle.st_pool.specs.declared.pool_state.working.Work.{Work}
use Rattle.st_pool.specs.declared.pool_state.working.Work.TheVariants.{Claimed, Stop, Wait}
use Rattle.st_pool.specs.Books.{BooksView, no_books}
use Rattle.st_pool.specs.Calling.{booked}
use Rattle.st_pool.specs.Done.{CommitsAndClaims, PoolView, Takes, takes_more}
use Rattle.st_pool.specs.Holds.{Event, called, employed, given, handed, settled, any, Happen, Happens, IsHold, IsRun, of_worker, opened}

happen_then : (kind : Event → Bool) (o m p : PoolView) (es fs : List Event) → Happen kind o es m → Happen kind m fs p → Happen kind o (es ++ fs) p
happen_then kind o m p [] fs h k = subst (λ (x : PoolView). Happen kind x fs p) h k
happen_then kind o m p (e ∷ es) fs h k = (h.0, (h.1.0, h.1.1, happen_then kind h.1.0 m p es fs h.1.2 k))

pub hold_none : (kind : Event → Bool) (o p : PoolView) → p ≡ o → IsHold kind o p
hold_none kind o p h = record { events = []; happen = h }

pub hold_one : (kind : Event → Bool) (o p : PoolView) (e : Event) → kind e ≡ true → Happens o e p → IsHold kind o p
hold_one kind o p e is h = record { events = e ∷ []; happen = (is, (p, h, refl)) }

pub hold_then : (kind : Event → Bool) (o m p : PoolView) → IsHold kind o m → IsHold kind m p → IsHold kind o p
hold_then kind o m p h k = record { events = h.events ++ k.events; happen = happen_then kind o m p h.events k.events h.happen k.happen }

pub same_pool : (o p : PoolView) → p.image ≡ o.image → p.books ≡ o.books → p ≡ o
same_pool o p i b = ap₂ (λ (x : ImageView) (y : BooksView). let q : PoolView = record { image = x; books = y } in q) i b

-- what a worker finds is a hold
pub takes_hold : (o p : PoolView) (w : Work ClaimView) → Takes o.image w p.image → p.books ≡ o.books → IsHold of_worker o p
takes_hold o p Stop h b = hold_none of_worker o p (same_pool o p h b)
takes_hold o p (Wait moves) h b = hold_none of_worker o p (same_pool o p h.0 b)
takes_hold o p (Claimed c) h b = hold_one of_worker o p (handed h.0 (Ok c)) refl (h.2, b)

after : (o m p : PoolView) (b : Bool) (w : Work ClaimView) → MatchBool b (Takes m.image w p.image) ((moves : ℕ) × (w ≡ Wait moves) × (p.image ≡ m.image)) → p.books ≡ m.books → IsHold of_worker m p
after o m p true w h b = takes_hold m p w h b
after o m p false w h b = hold_none of_worker m p (same_pool m p h.2 b)

-- so is the end of a quantum
pub commit_and_claim_holds : (o p : PoolView) (c : ClaimView) (starved : Bool) (r : Result ℕ Refusal) (w : Work ClaimView) → CommitsAndClaims o.image c starved r w p.image → p.books ≡ record o.books { steps = o.books.steps + committed r } → IsHold of_worker o p
commit_and_claim_holds o p c starved r w h b =
    let m : PoolView = record { image = h.between; books = record o.books { steps = o.books.steps + committed r } } in
    hold_then of_worker o m p (hold_one of_worker o m (settled c r) refl (h.settles, refl)) (after o m p (takes_more starved r) w h.next b)

-- ---- all that has happened

abbrev at : ImageView → BooksView → PoolView
at i b = record { image = i; books = b }

-- nothing has
pub run_begins : (first i : ImageView) (b : BooksView) → first ≡ i → b ≡ no_books → IsRun first (at i b)
run_begins first i b is none = hold_none any (opened first) (at i b) (same_pool (opened first) (at i b) (sym is) none)

-- and one event more
pub run_then : (first : ImageView) (o p : PoolView) (e : Event) → IsRun first o → Happens o e p → IsRun first p
run_then first o p e h k = hold_then any (opened first) o p h (hold_one any o p e refl k)

pub run_same : (first i : ImageView) (b c : BooksView) → IsRun first (at i b) → c ≡ b → IsRun first (at i c)
run_same first i b c h e = subst (λ (x : BooksView). IsRun first (at i x)) (sym e) h

pub run_given : (first i : ImageView) (b c : BooksView) → IsRun first (at i b) → c ≡ record b { callers = b.callers + 1 } → IsRun first (at i c)
run_given first i b c h e = run_then first (at i b) (at i c) given h (refl, e)

pub run_employed : (first i : ImageView) (b c : BooksView) → IsRun first (at i b) → c ≡ record b { workers = b.workers + 1 } → IsRun first (at i c)
run_employed first i b c h e = run_then first (at i b) (at i c) employed h (refl, e)

interned_booked : (o : PoolView) (x : Result Selector Refusal) → o.books ≡ booked o (told answer.Interned x)
interned_booked o (Ok s) = refl
interned_booked o (Err e) = refl

-- a text was interned
pub run_interned : (first i j : ImageView) (b : BooksView) (text : List ℕ) (x : Result Selector Refusal) → IsRun first (at i b) → Does i (call.Intern text) (told answer.Interned x) j → IsRun first (at j b)
run_interned first i j b text x h does = run_then first (at i b) (at j b) (called (call.Intern text) (told answer.Interned x)) h (does, interned_booked (at i b) x)
