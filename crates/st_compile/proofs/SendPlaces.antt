-- Sites, one instruction more.
use Rattle.std.proofs.Common.{◌≡◌, ℕ, suc, ◌+◌, ◌<◌, Bool, true, false, if◌then◌else◌, List, [], ◌∷◌, ◌++◌, length, take, get_or, refl, sym, ap, ◌∙◌, arith}
use Rattle.std.proofs.lemmas.List.{append_assoc, append-nil, length-take, take_more}
use Rattle.st_classes.specs.declared.instructions.Instruction.{Instruction}
use Rattle.st_classes.specs.declared.instructions.Instruction.TheVariants.{PushLit, PushSelf, PushActor, PushTemp, PushSlot, StoreTemp, StoreSlot, Pop, Dup, Send, SuperSend, Jump, JumpFalse, JumpTrue, Answer}
use Rattle.st_classes.specs.Methods.{send_places}
use Rattle.st_compile.specs.Encodable.{is_send}

-- the site of an instruction at a place
abbrev pub site : ℕ → Instruction → List ℕ
site place i = if is_send i then place ∷ [] else []

places-cons : (place : ℕ) (i : Instruction) (code : List Instruction) → send_places place (i ∷ code) ≡ site place i ++ send_places (place + 1) code
places-cons place (PushLit v) code = refl
places-cons place PushSelf code = refl
places-cons place PushActor code = refl
places-cons place (PushTemp t) code = refl
places-cons place (PushSlot s) code = refl
places-cons place (StoreTemp t) code = refl
places-cons place (StoreSlot s) code = refl
places-cons place Pop code = refl
places-cons place Dup code = refl
places-cons place (Send s n) code = refl
places-cons place (SuperSend s n) code = refl
places-cons place (Jump d) code = refl
places-cons place (JumpFalse d) code = refl
places-cons place (JumpTrue d) code = refl
places-cons place Answer code = refl

places-push : (place : ℕ) (code : List Instruction) (i : Instruction) → send_places place (code ++ i ∷ []) ≡ send_places place code ++ site (place + length code) i
places-push place [] i =
    let z : place ≡ place + 0 = omega arith in
    places-cons place i [] ∙ (append-nil (site place i) ∙ ap (λ (p : ℕ). site p i) z)
places-push place (j ∷ code) i =
    let e : place + 1 + length code ≡ place + suc (length code) = omega arith in
    places-cons place j (code ++ i ∷ []) ∙ (ap (λ (s : List ℕ). site place j ++ s) (places-push (place + 1) code i) ∙ (sym (append_assoc (site place j) (send_places (place + 1) code) (site (place + 1 + length code) i)) ∙ (ap (λ (s : List ℕ). s ++ site (place + 1 + length code) i) (sym (places-cons place j code)) ∙ ap (λ (p : ℕ). send_places place (j ∷ code) ++ site p i) e)))

pub places_more : (code : List Instruction) (k : ℕ) (d : Instruction) → k < length code → send_places 0 (take (k + 1) code) ≡ send_places 0 (take k code) ++ site k (get_or code k d)
places_more code k d l =
    let e : 0 + length (take k code) ≡ k = omega (arith, length-take k code) in
    ap (send_places 0) (take_more code k d l) ∙ (places-push 0 (take k code) (get_or code k d) ∙ ap (λ (p : ℕ). send_places 0 (take k code) ++ site p (get_or code k d)) e)

pub places_send : (code : List Instruction) (k : ℕ) (d : Instruction) → k < length code → is_send (get_or code k d) ≡ true → send_places 0 (take (k + 1) code) ≡ send_places 0 (take k code) ++ k ∷ []
places_send code k d l h = places_more code k d l ∙ ap (λ (b : Bool). send_places 0 (take k code) ++ (if b then k ∷ [] else [])) h

pub places_other : (code : List Instruction) (k : ℕ) (d : Instruction) → k < length code → is_send (get_or code k d) ≡ false → send_places 0 (take (k + 1) code) ≡ send_places 0 (take k code)
places_other code k d l h = places_more code k d l ∙ (ap (λ (b : Bool). send_places 0 (take k code) ++ (if b then k ∷ [] else [])) h ∙ append-nil (send_places 0 (take k code)))
