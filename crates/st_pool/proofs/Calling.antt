-- Calls in a hold.
use Rattle.std.proofs.Common.{◌≡◌, ℕ, ◌+◌, ◌++◌, List, [], Option, None, Some, Result, Ok, Err, Bool, true, ap, sym, subst, ◌∙◌, refl, arith, inl, inr}
use Rattle.std.proofs.lemmas.Bool.Decides.{nat_tests}
use Rattle.std.specs.Prelude.{◌≤◌, ◌∷◌, MatchOption, MatchResult, false, is_ok, length, nat_lt}
use Rattle.st_classes.specs.Refusals.{first_of}
use Rattle.st_classes.specs.declared.refusals.Refusal.{Refusal}
use Rattle.st_classes.specs.declared.refusals.Refusal.TheVariants.{BadCommand, NoMemory}
use Rattle.st_classes.specs.declared.values.ActorId.{ActorId}
use Rattle.st_classes.specs.declared.values.ClassId.{ClassId}
use Rattle.st_classes.specs.declared.values.Selector.{Selector}
use Rattle.st_classes.specs.declared.values.Value.{Value}
use Rattle.st_image.specs.Counts.{most_counted}
use Rattle.st_image.specs.declared.counts.Counts.{Counts}
use Rattle.st_image.specs.Calls.{Closes, Creates, Defines, InstallsIn, Interns, Posts, Removes, Reparents}
use Rattle.st_image.specs.Checkpoints.{MakesCheckpoint}
use Rattle.st_image.specs.PostRules.{from_client}
use Rattle.st_image.specs.Images.{ImageView, counts_of}
use Rattle.st_calls.specs.declared.calls.Answer.{Answer}
use Rattle.st_calls.specs.declared.calls.Answer.TheVariants as answer
use Rattle.st_calls.specs.declared.calls.Call.{Call}
use Rattle.st_calls.specs.declared.calls.Call.TheVariants as call
use Rattle.st_calls.specs.Does.{Does, InternsIn, Tells, told}
use Rattle.st_calls.specs.Growth.{Amounts, Grows, counted, edits_by, posts_by}
use Rattle.st_pool.specs.Books.{BooksView, Kept}
use Rattle.st_pool.specs.Checkpointed.{Checkpoints, HasCheckpointed, checkpoint_rules, with_checkpoint}
use Rattle.st_pool.specs.Done.{Done, Finds, PoolView, one_call_more, receipt}
use Rattle.st_pool.specs.Calling.{Asked, CallsOnce, MakesCounted, PoolCalls, PostsOnce, booked, closed_in, counts_in, created_in, done_by, is_plain, place_rules, position_in, version_in}
use Rattle.st_pool.specs.Holds.{IsHold, called, of_caller}
use Rattle.st_pool.proofs.Holding.{hold_none, hold_one, same_pool}
use Rattle.st_pool.proofs.Weights.{kept_on}

-- the books keep up with the image
pub kept_booked : (start : Amounts) (o : PoolView) (j : ImageView) (r : Result Answer Refusal) → Kept start o.image o.books → Grows (posts_by r) (edits_by r) 0 o.image j → Kept start j (booked o r)
kept_booked start o j (Err e) k g = kept_on start o.image j o.books o.books 0 0 0 k g (omega arith) (omega arith) (omega arith)
kept_booked start o j (Ok (answer.Position n)) k g = kept_on start o.image j o.books (booked o (Ok (answer.Position n))) 1 0 0 k g (omega arith) (omega arith) (omega arith)
kept_booked start o j (Ok (answer.Version n)) k g = kept_on start o.image j o.books (booked o (Ok (answer.Version n))) 0 1 0 k g (omega arith) (omega arith) (omega arith)
kept_booked start o j (Ok (answer.Counted n)) k g = kept_on start o.image j o.books (booked o (Ok (answer.Counted n))) 0 0 0 k g (omega arith) (omega arith) (omega arith)
kept_booked start o j (Ok (answer.Interned n)) k g = kept_on start o.image j o.books o.books 0 0 0 k g (omega arith) (omega arith) (omega arith)
kept_booked start o j (Ok (answer.Created n)) k g = kept_on start o.image j o.books o.books 0 0 0 k g (omega arith) (omega arith) (omega arith)
kept_booked start o j (Ok answer.Closed) k g = kept_on start o.image j o.books o.books 0 0 0 k g (omega arith) (omega arith) (omega arith)

-- ---- a post, and a checkpoint

post_told : (o : PoolView) (x : Result ℕ Refusal) → (let b : BooksView = record o.books { posts = o.books.posts + counted (is_ok x) } in b) ≡ booked o (told answer.Position x)
post_told o (Ok n) = refl
post_told o (Err e) = ap (λ (n : ℕ). let b : BooksView = record o.books { posts = n } in b) (omega arith)

ok_told : {A : Type 0} (tell : A → Answer) (x : Result A Refusal) → is_ok (told tell x) ≡ is_ok x
ok_told {A} tell (Ok v) = refl
ok_told {A} tell (Err e) = refl

pub post_booked : (o : PoolView) (sender seq : ℕ) (a : ActorId) (s : Selector) (args : List Value) (r : Result Answer Refusal) (j : ImageView) → Does o.image (call.Post sender seq a s args) r j → (let b : BooksView = record o.books { posts = o.books.posts + counted (is_ok r) } in b) ≡ booked o r
post_booked o sender seq a s args r j h =
    ap (λ (b : Bool). let c : BooksView = record o.books { posts = o.books.posts + counted b } in c) (ap (is_ok {T = Answer} {E = Refusal}) h.1 ∙ ok_told answer.Position h.0) ∙ post_told o h.0 ∙ ap (booked o) (sym h.1)

checkpoint_told : (o : PoolView) (j : ImageView) (x : Result (Unit {0}) Refusal) (v : Answer) → (let r : Result Answer Refusal = Ok v in r) ≡ told (λ _. answer.Counted (counts_of j)) x → booked o (Ok v) ≡ record o.books { emptied = o.books.emptied + length o.image.history }
checkpoint_told o j (Ok u) v e = ap (booked o) e
checkpoint_told o j (Err f) v e = cc

pub checkpoint_booked : (o : PoolView) (v : Answer) (j : ImageView) → Does o.image call.Checkpoint (Ok v) j → booked o (Ok v) ≡ record o.books { emptied = o.books.emptied + length o.image.history }
checkpoint_booked o v j h = checkpoint_told o j h.0 v h.1

-- a checkpoint for whose history there is no room
no_more : (n : ℕ) → n ≤ most_counted → nat_lt most_counted n ≡ false
no_more n few = grind (arith, nat_tests)

pub checkpoint_without_room : (o p : PoolView) (d e : Done) → o.books.emptied + length o.image.history ≤ most_counted → p ≡ o → e ≡ d → MakesCounted o d call.Checkpoint (Err NoMemory) p e
checkpoint_without_room o p d e few same_pool same_done =
    rw (no_more (o.books.emptied + length o.image.history) few, same_pool, same_done) (inr ((Err NoMemory, refl, (refl, refl)), refl), refl)

-- ---- a call that is neither a post nor a checkpoint

-- nothing is added
same_edits : (b : BooksView) → (let c : BooksView = record b { edits = b.edits + 0 } in c) ≡ b
same_edits b = ap (λ (n : ℕ). let c : BooksView = record b { edits = n } in c) (omega arith)

same_done : (d : Done) → (let e : Done = record d { edits = d.edits + 0 } in e) ≡ d
same_done d = ap (λ (n : ℕ). let e : Done = record d { edits = n } in e) (omega arith)

-- what is booked and done by an answer that is told of an edit, or of no post and no checkpoint
pub record IsTold (o : PoolView) (d : Done) (c : Call) (r : Result Answer Refusal) : Type 0 where
  pub books : (let b : BooksView = record o.books { edits = o.books.edits + edits_by r } in b) ≡ booked o r
  pub done : (let e : Done = record d { edits = d.edits + edits_by r } in e) ≡ done_by o c r d

told_version : (o : PoolView) (d : Done) (c : Call) (x : Result ℕ Refusal) → IsTold o d c (told answer.Version x)
told_version o d c (Ok n) = record { books = refl; done = refl }
told_version o d c (Err e) = record { books = same_edits o.books; done = same_done d }

told_by : (o : PoolView) (d : Done) (c : Call) (r s : Result Answer Refusal) → r ≡ s → IsTold o d c s → IsTold o d c r
told_by o d c r s e h = subst (λ (x : Result Answer Refusal). IsTold o d c x) (sym e) h

told_interned : (o : PoolView) (d : Done) (c : Call) {A : Type 0} (tell : A → Answer) (x : Result A Refusal) → ((v : A) → IsTold o d c (Ok (tell v))) → IsTold o d c (told tell x)
told_interned o d c {A} tell (Ok v) h = h v
told_interned o d c {A} tell (Err e) h = record { books = same_edits o.books; done = same_done d }

pub plain_told : (o : PoolView) (d : Done) (c : Call) (r : Result Answer Refusal) (j : ImageView) → is_plain c ≡ true → Does o.image c r j → IsTold o d c r
plain_told o d (call.Intern text) r j p h = told_by o d _ r _ h.1 (told_interned o d (call.Intern text) answer.Interned h.0 (λ v. record { books = same_edits o.books; done = same_done d }))
plain_told o d (call.Define name parent slots) r j p h = told_by o d _ r _ h.1 (told_version o d _ h.0)
plain_told o d (call.Install c source) r j p h = told_by o d _ r _ h.1 (told_version o d _ h.0)
plain_told o d (call.Remove c s) r j p h = told_by o d _ r _ h.1 (told_version o d _ h.0)
plain_told o d (call.Reparent c parent) r j p h = told_by o d _ r _ h.1 (told_version o d _ h.0)
plain_told o d (call.Create c) r j p h = told_by o d _ r _ h.1 (told_interned o d (call.Create c) answer.Created h.0 (λ v. record { books = same_edits o.books; done = same_done d }))
plain_told o d (call.Close a) r j p h = told_by o d _ r _ h.1 (told_interned o d (call.Close a) {A = Unit {0}} (λ _. answer.Closed) h.0 (λ v. record { books = same_edits o.books; done = same_done d }))
plain_told o d (call.Post sender seq a s args) r j p h = cc
plain_told o d call.Checkpoint r j p h = cc

-- such a call in a hold
pub plain_calls : (o p : PoolView) (d e : Done) (c : Call) (r : Result Answer Refusal) → is_plain c ≡ true → Asked o c r p → e ≡ done_by o c r d → MakesCounted o d c r p e
plain_calls o p d e (call.Intern text) r is h done = (h, done)
plain_calls o p d e (call.Define name parent slots) r is h done = (h, done)
plain_calls o p d e (call.Install c source) r is h done = (h, done)
plain_calls o p d e (call.Remove c s) r is h done = (h, done)
plain_calls o p d e (call.Reparent c parent) r is h done = (h, done)
plain_calls o p d e (call.Create c) r is h done = (h, done)
plain_calls o p d e (call.Close a) r is h done = (h, done)
plain_calls o p d e (call.Post sender seq a s args) r is h done = cc
plain_calls o p d e call.Checkpoint r is h done = cc

-- ---- single calls

version_told : (x : Result ℕ Refusal) → version_in (told answer.Version x) ≡ x
version_told (Ok n) = refl
version_told (Err e) = refl

position_told : (x : Result ℕ Refusal) → position_in (told answer.Position x) ≡ x
position_told (Ok n) = refl
position_told (Err e) = refl

created_told : (x : Result ActorId Refusal) → created_in (told answer.Created x) ≡ x
created_told (Ok a) = refl
created_told (Err e) = refl

closed_told : (x : Result (Unit {0}) Refusal) → closed_in (told (λ _. answer.Closed) x) ≡ x
closed_told (Ok u) = refl
closed_told (Err e) = refl

interned_in : Result Answer Refusal → Result Selector Refusal
interned_in (Ok (answer.Interned s)) = Ok s
interned_in (Ok told) = Err BadCommand
interned_in (Err e) = Err e

interned_told : (x : Result Selector Refusal) → interned_in (told answer.Interned x) ≡ x
unfolding interned_in
interned_told (Ok s) = refl
interned_told (Err e) = refl

edit_done : (o : PoolView) (c : Call) (d : Done) (x : Result ℕ Refusal) → done_by o c (told answer.Version x) d ≡ record d { edits = d.edits + counted (is_ok x) }
edit_done o c d (Ok n) = refl
edit_done o c d (Err e) = sym (same_done d)

-- an edit is counted once; Made is what the image's call of that name does
edits_once : (Made : ImageView → Result ℕ Refusal → ImageView → Type 0) (start : Amounts) (first : ImageView) (d f e : Done) (c : Call) (r : Result Answer Refusal) (o p : PoolView) → Finds start first d o → Tells answer.Version (Made o.image) r p.image → e ≡ done_by o c r f
    → (e ≡ record f { edits = f.edits + counted (is_ok (version_in r)) }) × ((q : PoolView) × (j : ImageView) × Finds start first d q × Made q.image (version_in r) j)
edits_once Made start first d f e c r o p finds does done =
    let x = does.0 in
    let is : version_in r ≡ x = ap version_in does.1 ∙ version_told x in
    let done_is : e ≡ record f { edits = f.edits + counted (is_ok x) } = done ∙ ap (λ (s : Result Answer Refusal). done_by o c s f) does.1 ∙ edit_done o c f x in (
      subst (λ (y : Result ℕ Refusal). e ≡ record f { edits = f.edits + counted (is_ok y) }) (sym is) done_is,
      (o, p.image, finds, subst (λ (y : Result ℕ Refusal). Made o.image y p.image) (sym is) does.2),
    )

-- a call that neither posts nor edits leaves what its caller has done
same_once : {A : Type 0} (tell : A → Answer) (read : Result Answer Refusal → Result A Refusal) (Made : ImageView → Result A Refusal → ImageView → Type 0) (start : Amounts) (first : ImageView) (d f e : Done) (c : Call) (r : Result Answer Refusal) (o p : PoolView)
    → ((x : Result A Refusal) → read (told tell x) ≡ x) → ((x : Result A Refusal) → done_by o c (told tell x) f ≡ f)
    → Finds start first d o → Tells tell (Made o.image) r p.image → e ≡ done_by o c r f
    → (e ≡ f) × ((q : PoolView) × (j : ImageView) × Finds start first d q × Made q.image (read r) j)
same_once {A} tell read Made start first d f e c r o p reads stays finds does done =
    let x = does.0 in
    let is : read r ≡ x = ap read does.1 ∙ reads x in (
      done ∙ ap (λ (s : Result Answer Refusal). done_by o c s f) does.1 ∙ stays x,
      (o, p.image, finds, subst (λ (y : Result A Refusal). Made o.image y p.image) (sym is) does.2),
    )

pub defines_once : (start : Amounts) (first : ImageView) (d e : Done) (name : List ℕ) (parent : ClassId) (slots : List (List ℕ)) (r : Result Answer Refusal) → CallsOnce start first d (call.Define name parent slots) r e
    → (e ≡ record (one_call_more d) { edits = d.edits + counted (is_ok (version_in r)) }) × ((o : PoolView) × (j : ImageView) × Finds start first d o × Defines o.image name parent slots (version_in r) j)
defines_once start first d e name parent slots r (o, p, finds, (inl none, done)) = cc (none.0)
defines_once start first d e name parent slots r (o, p, finds, (inr does, done)) = edits_once (λ i x j. Defines i name parent slots x j) start first d (one_call_more d) e (call.Define name parent slots) r o p finds does.0 done

pub installs_once : (start : Amounts) (first : ImageView) (d e : Done) (class : ClassId) (source : List ℕ) (r : Result Answer Refusal) → CallsOnce start first d (call.Install class source) r e
    → (e ≡ record (one_call_more d) { edits = d.edits + counted (is_ok (version_in r)) }) × ((o : PoolView) × (j : ImageView) × Finds start first d o × InstallsIn o.image class source (version_in r) j)
installs_once start first d e class source r (o, p, finds, (inl none, done)) = cc (none.0)
installs_once start first d e class source r (o, p, finds, (inr does, done)) = edits_once (λ i x j. InstallsIn i class source x j) start first d (one_call_more d) e (call.Install class source) r o p finds does.0 done

pub removes_once : (start : Amounts) (first : ImageView) (d e : Done) (class : ClassId) (s : Selector) (r : Result Answer Refusal) → CallsOnce start first d (call.Remove class s) r e
    → (e ≡ record (one_call_more d) { edits = d.edits + counted (is_ok (version_in r)) }) × ((o : PoolView) × (j : ImageView) × Finds start first d o × Removes o.image class s (version_in r) j)
removes_once start first d e class s r (o, p, finds, (inl none, done)) = cc (none.0)
removes_once start first d e class s r (o, p, finds, (inr does, done)) = edits_once (λ i x j. Removes i class s x j) start first d (one_call_more d) e (call.Remove class s) r o p finds does.0 done

pub reparents_once : (start : Amounts) (first : ImageView) (d e : Done) (class parent : ClassId) (r : Result Answer Refusal) → CallsOnce start first d (call.Reparent class parent) r e
    → (e ≡ record (one_call_more d) { edits = d.edits + counted (is_ok (version_in r)) }) × ((o : PoolView) × (j : ImageView) × Finds start first d o × Reparents o.image class parent (version_in r) j)
reparents_once start first d e class parent r (o, p, finds, (inl none, done)) = cc (none.0)
reparents_once start first d e class parent r (o, p, finds, (inr does, done)) = edits_once (λ i x j. Reparents i class parent x j) start first d (one_call_more d) e (call.Reparent class parent) r o p finds does.0 done

create_done : (o : PoolView) (c : Call) (d : Done) (x : Result ActorId Refusal) → done_by o c (told answer.Created x) d ≡ d
create_done o c d (Ok a) = refl
create_done o c d (Err e) = refl

pub creates_once : (start : Amounts) (first : ImageView) (d e : Done) (class : ClassId) (r : Result Answer Refusal) → CallsOnce start first d (call.Create class) r e
    → (e ≡ one_call_more d) × ((o : PoolView) × (j : ImageView) × Finds start first d o × Creates o.image class (created_in r) j)
creates_once start first d e class r (o, p, finds, (inl none, done)) = cc (none.0)
creates_once start first d e class r (o, p, finds, (inr does, done)) = same_once answer.Created created_in (λ i x j. Creates i class x j) start first d (one_call_more d) e (call.Create class) r o p created_told (create_done o (call.Create class) (one_call_more d)) finds does.0 done

close_done : (o : PoolView) (c : Call) (d : Done) (x : Result (Unit {0}) Refusal) → done_by o c (told (λ _. answer.Closed) x) d ≡ d
close_done o c d (Ok u) = refl
close_done o c d (Err e) = refl

pub closes_once : (start : Amounts) (first : ImageView) (d e : Done) (a : ActorId) (r : Result Answer Refusal) → CallsOnce start first d (call.Close a) r e
    → (e ≡ one_call_more d) × ((o : PoolView) × (j : ImageView) × Finds start first d o × Closes o.image a (closed_in r) j)
closes_once start first d e a r (o, p, finds, (inl none, done)) = cc (none.0)
closes_once start first d e a r (o, p, finds, (inr does, done)) = same_once {A = Unit {0}} (λ _. answer.Closed) closed_in (λ i x j. Closes i a x j) start first d (one_call_more d) e (call.Close a) r o p closed_told (close_done o (call.Close a) (one_call_more d)) finds does.0 done

intern_done : (o : PoolView) (c : Call) (d : Done) (x : Result Selector Refusal) → done_by o c (told answer.Interned x) d ≡ d
intern_done o c d (Ok s) = refl
intern_done o c d (Err e) = refl

interns : (start : Amounts) (first : ImageView) (d : Done) (text : List ℕ) (x y : Result Selector Refusal) → y ≡ x → (q : PoolView) × (j : ImageView) × Finds start first d q × InternsIn q.image text y j → (o : PoolView) × (j : ImageView) × Finds start first d o × Interns o.image text x j
interns start first d text x y is (q, j, finds, made) = (q, j, finds, subst (λ (z : Result Selector Refusal). Interns q.image text z j) is made.0)

pub interns_once : (start : Amounts) (first : ImageView) (d e : Done) (text : List ℕ) (x : Result Selector Refusal) → CallsOnce start first d (call.Intern text) (told answer.Interned x) e
    → (e ≡ one_call_more d) × ((o : PoolView) × (j : ImageView) × Finds start first d o × Interns o.image text x j)
interns_once start first d e text x (o, p, finds, (inl none, done)) = cc (none.0)
interns_once start first d e text x (o, p, finds, (inr does, done)) =
    let once = same_once answer.Interned interned_in (λ i y j. InternsIn i text y j) start first d (one_call_more d) e (call.Intern text) (told answer.Interned x) o p interned_told (intern_done o (call.Intern text) (one_call_more d)) finds does.0 done in
    (once.0, interns start first d text x (interned_in (told answer.Interned x)) (interned_told x) once.1)

post_done : (o : PoolView) (d : Done) (sender seq : ℕ) (a : ActorId) (s : Selector) (args : List Value) (x : Result ℕ Refusal) (e : Done)
    → e ≡ done_by o (call.Post sender seq a s args) (told answer.Position x) d
    → MatchResult x (λ turn. e ≡ record d { receipts = d.receipts ++ receipt (o.books.emptied + length o.image.history) a (from_client sender seq s args) ∷ [] }) (λ f. e ≡ d)
post_done o d sender seq a s args (Ok n) e h = h
post_done o d sender seq a s args (Err f) e h = h

-- a message is posted
pub posts_once : (start : Amounts) (first : ImageView) (d e : Done) (sender seq : ℕ) (a : ActorId) (s : Selector) (args : List Value) (r : Result Answer Refusal) → CallsOnce start first d (call.Post sender seq a s args) r e
    → PostsOnce start first d a (from_client sender seq s args) (position_in r) e
posts_once start first d e sender seq a s args r (o, p, finds, (inl none, done)) =
    inl (ap position_in none.1, done ∙ ap (λ (x : Result Answer Refusal). done_by o (call.Post sender seq a s args) x (one_call_more d)) none.1)
posts_once start first d e sender seq a s args r (o, p, finds, (inr does, done)) =
    let x = does.0.0 in
    let is : position_in r ≡ x = ap position_in does.0.1 ∙ position_told x in
    let done_is = post_done o (one_call_more d) sender seq a s args x e (done ∙ ap (λ (y : Result Answer Refusal). done_by o (call.Post sender seq a s args) y (one_call_more d)) does.0.1) in
    inr (
      o,
      p.image,
      finds,
      subst (λ (y : Result ℕ Refusal). Posts o.image a (from_client sender seq s args) y p.image) (sym is) does.0.2,
      subst (λ (y : Result ℕ Refusal). MatchResult y (λ turn. e ≡ record (one_call_more d) { receipts = d.receipts ++ receipt (o.books.emptied + length o.image.history) a (from_client sender seq s args) ∷ [] }) (λ f. e ≡ one_call_more d)) (sym is) done_is,
    )

-- ---- a checkpoint

-- what a checkpoint of the image does, in the hold
made : (o p : PoolView) (d e : Done) (x : Result (Unit {0}) Refusal) (r : Result Answer Refusal) → first_of (checkpoint_rules o) ≡ None → r ≡ told (λ _. answer.Counted (counts_of p.image)) x → MakesCheckpoint o.image x p.image → p.books ≡ booked o r → e ≡ done_by o call.Checkpoint r (one_call_more d)
    → Checkpoints o (counts_in r) p × (e ≡ with_checkpoint o (counts_in r) d)
made o p d e (Ok u) r none is h books done =
    let counted_is : counts_in r ≡ Ok (counts_of p.image) = ap counts_in is in
    let has : HasCheckpointed o (counts_of p.image) p = record { image = h; counts = refl; books = books ∙ ap (booked o) is } in (
      subst (λ (y : Result Counts Refusal). Checkpoints o y p) (sym counted_is) ((none, has), tt),
      done ∙ ap (λ (y : Result Answer Refusal). done_by o call.Checkpoint y (one_call_more d)) is ∙ sym (ap (λ (y : Result Counts Refusal). with_checkpoint o y d) counted_is),
    )
made o p d e (Err f) r none is h books done =
    let refused_is : counts_in r ≡ Err f = ap counts_in is in
    let stays : p ≡ o = same_pool o p h.1 (books ∙ ap (booked o) is) in (
      subst (λ (y : Result Counts Refusal). Checkpoints o y p) (sym refused_is) (inr (none, h.0), stays),
      done ∙ ap (λ (y : Result Answer Refusal). done_by o call.Checkpoint y (one_call_more d)) is ∙ sym (ap (λ (y : Result Counts Refusal). with_checkpoint o y d) refused_is),
    )

ruled : (o p : PoolView) (d e : Done) (r : Result Answer Refusal) (f : Option Refusal) → first_of (checkpoint_rules o) ≡ f → MatchOption f (Asked o call.Checkpoint r p) (λ g. (r ≡ Err g) × (p ≡ o)) → e ≡ done_by o call.Checkpoint r (one_call_more d)
    → Checkpoints o (counts_in r) p × (e ≡ with_checkpoint o (counts_in r) d)
ruled o p d e r None none (inl post) done = cc (post.0)
ruled o p d e r None none (inr does) done = made o p d e does.0.0 r none does.0.1 does.0.2 does.1 done
ruled o p d e r (Some g) some h done =
    let refused_is : counts_in r ≡ Err g = ap counts_in h.0 in (
      subst (λ (y : Result Counts Refusal). Checkpoints o y p) (sym refused_is) (inl some, h.1),
      done ∙ ap (λ (y : Result Answer Refusal). done_by o call.Checkpoint y (one_call_more d)) h.0 ∙ sym (ap (λ (y : Result Counts Refusal). with_checkpoint o y d) refused_is),
    )

pub checkpoints_once : (start : Amounts) (first : ImageView) (d e : Done) (r : Result Answer Refusal) → CallsOnce start first d call.Checkpoint r e
    → (o : PoolView) × (p : PoolView) × Finds start first d o × Checkpoints o (counts_in r) p × (e ≡ with_checkpoint o (counts_in r) d)
checkpoints_once start first d e r (o, p, finds, (h, done)) =
    let both = ruled o p d e r (first_of (checkpoint_rules o)) refl h done in (o, p, finds, both.0, both.1)

-- ---- a call is a hold

called_hold : (o p : PoolView) (c : Call) (r : Result Answer Refusal) (f : Option Refusal) → MatchOption f (Asked o c r p) (λ g. (r ≡ Err g) × (p ≡ o)) → IsHold of_caller o p
called_hold o p c r None (inl none) = hold_none of_caller o p none.2
called_hold o p c r None (inr does) = hold_one of_caller o p (called c r) refl does
called_hold o p c r (Some g) h = hold_none of_caller o p h.1

-- what a call does in a hold is that one event, or none
pub calls_hold : (o p : PoolView) (d e : Done) (c : Call) (r : Result Answer Refusal) → PoolCalls o d c r p e → IsHold of_caller o p
calls_hold o p d e c r h = called_hold o p c r (first_of (place_rules o c)) h.0
