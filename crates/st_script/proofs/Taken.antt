-- What runs took.
use Rattle.std.proofs.Common.{arith, ◌≡◌, ℕ, zero, suc, ◌+◌, ◌≤◌, ◌<◌, Bool, true, false, List, [], ◌∷◌, ◌++◌, All, Result, Ok, Err, MatchResult, length, sum, if◌then◌else◌, refl, sym, ap, subst, ◌∙◌, inl, inr, slice_get, append_assoc, append-nil}
use Rattle.std.specs.Prelude.{◌==◌}
use Rattle.std.proofs.Math.Dec.{eqb-suc-zero}
use Rattle.std.proofs.lemmas.List.Elements.{All-nil, All-cons}
use Rattle.std.proofs.lemmas.List.Sums.{sum_by-cons}
use Rattle.st_classes.specs.declared.values.ActorId.{ActorId}
use Rattle.st_classes.specs.declared.refusals.Refusal.{Refusal}
use Rattle.st_turn.specs.Claims.{ClaimView}
use Rattle.st_image.specs.declared.history.Item.{Item}
use Rattle.st_image.specs.declared.history.Item.TheVariants.{Begun, Ran}
use Rattle.st_image.specs.Images.{ImageView, appended, world}
use Rattle.st_image.specs.Commits.{ChecksOut, HasCheckedOut, HasCommitted, Settles, idle_at, items_of, steps_of, with_out}
use Rattle.st_wire.specs.declared.replies.Reply.TheVariants as reply
use Rattle.st_script.specs.Runners.{RunnerView, NextAdvances, NoneReady, Works}
use Rattle.st_script.specs.CommandReplies.{Runs}
use Rattle.st_script.specs.Totals.{quanta_in, RunsSayWhatTheyTook}
use Rattle.st_script.proofs.Quanta.{answered, few_steps}

-- what has still to be added where so many quanta and steps were taken before
abbrev RunsFrom : ℕ → ℕ → RunnerView → ℕ → ℕ → ℕ → ℕ → RunnerView → Type 0
RunsFrom quantum left i before taken q s j = (items : List Item) × (j.image.history ≡ i.image.history ++ items) × (before + length (quanta_in items) ≡ q) × (taken + sum (quanta_in items) ≡ s) × All (λ n. (1 ≤ n) × (n ≤ quantum + 1)) (quanta_in items) × (q ≤ before + left) × (q < before + left → NoneReady j)

same_quanta : (q s a b : ℕ) → reply.Ran q s ≡ reply.Ran a b → (q ≡ a) × (s ≡ b)
same_quanta q s a b e = (cc, cc)

-- where nothing more is taken
stands : (quantum left before taken q s : ℕ) (i j : RunnerView) → reply.Ran q s ≡ reply.Ran before taken → j ≡ i → (q < before + left → NoneReady i) → RunsFrom quantum left i before taken q s j
stands quantum left before taken q s i j said same none =
    let both = same_quanta q s before taken said in
    ([], ap (λ (k : RunnerView). k.image.history) same ∙ sym (append-nil i.image.history), omega (arith, both.0), omega (arith, both.1), All-nil (λ n. (1 ≤ n) × (n ≤ quantum + 1)), omega (arith, both.0), λ fewer. subst NoneReady (sym same) (none fewer))

-- one quantum is added to a history
abbrev AddsQuantum : List Item → ℕ → List Item → Type 0
AddsQuantum before n after = (added : List Item) × (after ≡ before ++ added) × ((items : List Item) → quanta_in (added ++ items) ≡ n ∷ quanta_in items)

-- the beginning of a message, where the actor was idle, has no quantum
begun_adds : (t : Bool) (i k : ImageView) (a : ActorId) → k ≡ with_out (let begun : ImageView = if t then appended i (Begun a ∷ []) else i in record begun { standing = record begun.standing { next_from = a.0 + 1 } }) k → (added : List Item) × (k.history ≡ i.history ++ added) × ((items : List Item) → quanta_in (added ++ items) ≡ quanta_in items)
begun_adds true i k a e = (Begun a ∷ [], ap (λ (x : ImageView). x.history) e, λ items. refl)
begun_adds false i k a e = ([], ap (λ (x : ImageView). x.history) e ∙ sym (append-nil i.history), λ items. refl)

committed_adds : (n : ℕ) (c : ClaimView) → 1 ≤ n → n ≡ steps_of c → (items : List Item) → quanta_in (items_of c ++ items) ≡ n ∷ quanta_in items
committed_adds n c some is items = items_add n c.actor (steps_of c) items some is
  where
    items_add : (n : ℕ) (a : ActorId) (m : ℕ) (items : List Item) → 1 ≤ n → n ≡ m → quanta_in ((if m == 0 then [] else Ran a m ∷ []) ++ items) ≡ n ∷ quanta_in items
    items_add n a zero items some is = absurd (omega (arith, some, is))
    items_add n a (suc m) items some is = ap (λ (t : Bool). quanta_in ((if t then [] else Ran a (suc m) ∷ []) ++ items)) (eqb-suc-zero m) ∙ ap (λ x. x ∷ quanta_in items) (sym is)

settled_adds : (i k : ImageView) (a : ActorId) (c d : ClaimView) (n : ℕ) (j : ImageView) → 1 ≤ n → HasCheckedOut i a c k → HasCommitted k d n j → AddsQuantum i.history n j.history
settled_adds i k a c d n j some out done =
    let first = begun_adds (idle_at (slice_get (world i).actors a.0)) i k a out.image in
    let ran : j.history ≡ k.history ++ items_of d = ap (λ (x : ImageView). x.history) done.image in
    (first.0 ++ items_of d, ran ∙ ap (λ h. h ++ items_of d) first.1 ∙ append_assoc i.history first.0 (items_of d), λ items. ap quanta_in (append_assoc first.0 (items_of d) items) ∙ first.2 (items_of d ++ items) ∙ committed_adds n d some done.steps items)

works_adds : (quantum n : ℕ) (i : RunnerView) (k : ImageView) (j : RunnerView) (a : ActorId) (c : ClaimView) → 1 ≤ n → HasCheckedOut i.image a c k → Works quantum (record i { image = k }) c (Ok n) j → AddsQuantum i.image.history n j.image.history
works_adds quantum n i k j a c some out (ran, d, settled, steps, settles, is) =
    settled_adds i.image k a c d n j.image some out (subst (λ r. Settles k d r j.image) (answered ran settled n is) settles)

quantum_adds : (quantum n : ℕ) (i j : RunnerView) (a : ActorId) (o : Result ClaimView Refusal) (k : ImageView) → 1 ≤ n → ChecksOut i.image a o k
    → MatchResult o (λ c. Works quantum (record i { image = k }) c (Ok n) j) (λ e. (Ok n ≡ Err e) × (j ≡ record i { image = k })) → AddsQuantum i.image.history n j.image.history
quantum_adds quantum n i j a (Ok c) k some out works = works_adds quantum n i k j a c some out.0.1 works
quantum_adds quantum n i j a (Err e) k some out refused = let never : Ok n ≡ Err e = refused.0 in cc

advance_adds : (quantum n : ℕ) (i j : RunnerView) → NextAdvances quantum i (Ok n) j → AddsQuantum i.image.history n j.image.history
advance_adds quantum n i j t = quantum_adds quantum n i j t.0 t.2.0 t.2.1 t.3 t.2.2 t.2.3

runs_from : (quantum left before taken q s : ℕ) (i j : RunnerView) → Runs quantum left i before taken (reply.Ran q s) j → RunsFrom quantum left i before taken q s j
runs_from quantum zero before taken q s i j (said, same) = stands quantum 0 before taken q s i j said same (λ fewer. let both = same_quanta q s before taken said in absurd (omega (arith, fewer, both.0)))
runs_from quantum (suc left) before taken q s i j (inl (none, said, same)) = stands quantum (suc left) before taken q s i j said same (λ _. none)
runs_from quantum (suc left) before taken q s i j (inr (Err e, k, stops, (said, same))) = cc
runs_from quantum (suc left) before taken q s i j (inr (Ok n, k, takes, rest)) =
    let more = runs_from quantum left (before + 1) (taken + n) q s k j rest in
    let first = advance_adds quantum n i k takes in
    let one = first.2 more.0 in
    let grown : j.image.history ≡ i.image.history ++ (first.0 ++ more.0) = more.1 ∙ ap (λ h. h ++ more.0) first.1 ∙ append_assoc i.image.history first.0 more.0 in
    let within = λ (m : ℕ). (1 ≤ m) × (m ≤ quantum + 1) in
    let here : within n = (takes.3, few_steps quantum n i k takes) in
    (first.0 ++ more.0, grown, omega (arith, ap length one, more.2), omega (arith, ap sum one ∙ sum_by-cons (λ m. m) n (quanta_in more.0), more.3), subst (All within) (sym one) (All-cons within n (quanta_in more.0) here more.4), omega (arith, more.5), λ fewer. more.6 (omega (arith, fewer)))

pub runs_say_what_they_took : RunsSayWhatTheyTook
runs_say_what_they_took quantum quanta q s i j runs =
    let all = runs_from quantum quanta 0 0 q s i j runs in
    (all.0, all.1, omega (arith, all.2), omega (arith, all.3), all.4, omega (arith, all.5), λ fewer. all.6 (omega (arith, fewer)))
