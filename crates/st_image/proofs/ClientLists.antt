-- The clients of a list of last numbers: one number more, and the clients of a world.
use Rattle.std.proofs.Common.{arith, ◌≡◌, ◌+◌, ◌-◌, ◌<◌, ◌≤◌, ◌==◌, ◌++◌, ℕ, zero, suc, [], ◌∷◌, List, Some, refl, ap, sym, ◌∙◌, length, take, get_or, Bool, true, false, cond, subst, ◌⊎◌, inl, inr}
use Rattle.std.proofs.lemmas.List.{append_assoc, append-nil, length-take, take_more}
use Rattle.std.proofs.lemmas.Bool.Decides.{nat_tests}
use Rattle.st_image.specs.declared.history.Item.{Item}
use Rattle.st_image.specs.Worlds.{Constants, World, client_last}
use Rattle.st_image.specs.Replay.{replay}
use Rattle.st_image.specs.WorldInvariant.{AreClientsFrom}
use Rattle.st_image.specs.Clients.{KeepsClients, clients_from, number_of}
use Rattle.st_image.proofs.ClientNumbers.{kept_last}

-- ---- one number more

-- a client with its last number, where it has sent a message
abbrev pub sent : ℕ → ℕ → List (ℕ × ℕ)
sent s n = cond (n == 0) [] ((s, n) ∷ [])

clients-cons : (s n : ℕ) (ns : List ℕ) → clients_from s (n ∷ ns) ≡ sent s n ++ clients_from (suc s) ns
clients-cons s n ns = by (n == 0)
  where
    by : (none : Bool) → cond none (clients_from (suc s) ns) ((s, n) ∷ clients_from (suc s) ns) ≡ cond none [] ((s, n) ∷ []) ++ clients_from (suc s) ns
    by true = refl
    by false = refl

clients-push : (s : ℕ) (ns : List ℕ) (n : ℕ) → clients_from s (ns ++ n ∷ []) ≡ clients_from s ns ++ sent (s + length ns) n
clients-push s [] n =
    let here : s ≡ s + 0 = omega arith in
    clients-cons s n [] ∙ append-nil (sent s n) ∙ ap (λ (k : ℕ). sent k n) here
clients-push s (m ∷ ns) n =
    let there : suc s + length ns ≡ s + suc (length ns) = omega arith in
    clients-cons s m (ns ++ n ∷ [])
    ∙ ap (λ (ps : List (ℕ × ℕ)). sent s m ++ ps) (clients-push (suc s) ns n)
    ∙ sym (append_assoc (sent s m) (clients_from (suc s) ns) (sent (suc s + length ns) n))
    ∙ ap (λ (ps : List (ℕ × ℕ)). ps ++ sent (suc s + length ns) n) (sym (clients-cons s m ns))
    ∙ ap (λ (k : ℕ). clients_from s (m ∷ ns) ++ sent k n) there

clients_more : (ns : List ℕ) (k d : ℕ) → k < length ns → clients_from 0 (take (k + 1) ns) ≡ clients_from 0 (take k ns) ++ sent k (get_or ns k d)
clients_more ns k d h =
    let here : 0 + length (take k ns) ≡ k = omega (arith, length-take k ns) in
    ap (clients_from 0) (take_more ns k d h) ∙ clients-push 0 (take k ns) (get_or ns k d) ∙ ap (λ (j : ℕ). clients_from 0 (take k ns) ++ sent j (get_or ns k d)) here

pub clients_sent : (ns : List ℕ) (k d : ℕ) → k < length ns → 0 < get_or ns k d → clients_from 0 (take (k + 1) ns) ≡ clients_from 0 (take k ns) ++ (k, get_or ns k d) ∷ []
clients_sent ns k d h some =
    let test : (get_or ns k d == 0) ≡ false = grind (arith, nat_tests) in
    clients_more ns k d h ∙ ap (λ (b : Bool). clients_from 0 (take k ns) ++ cond b [] ((k, get_or ns k d) ∷ [])) test

pub clients_silent : (ns : List ℕ) (k d : ℕ) → k < length ns → get_or ns k d ≤ 0 → clients_from 0 (take (k + 1) ns) ≡ clients_from 0 (take k ns)
clients_silent ns k d h none =
    let test : (get_or ns k d == 0) ≡ true = grind (arith, nat_tests) in
    clients_more ns k d h ∙ ap (λ (b : Bool). clients_from 0 (take k ns) ++ cond b [] ((k, get_or ns k d) ∷ [])) test ∙ append-nil (clients_from 0 (take k ns))

-- ---- the clients of a world

here_is : (s : ℕ) (p : ℕ × ℕ) (ps : List (ℕ × ℕ)) → s ≡ p.0 → client_last s (p ∷ ps) ≡ p.1
here_is s p ps e = let test : (s == p.0) ≡ true = grind (arith, nat_tests) in ap (λ (b : Bool). cond b p.1 (client_last s ps)) test

later_is : (s : ℕ) (p : ℕ × ℕ) (ps : List (ℕ × ℕ)) → p.0 < s → client_last s (p ∷ ps) ≡ client_last s ps
later_is s p ps h = let test : (s == p.0) ≡ false = grind (arith, nat_tests) in ap (λ (b : Bool). cond b p.1 (client_last s ps)) test

before_is : (s : ℕ) (p : ℕ × ℕ) (ps : List (ℕ × ℕ)) → s < p.0 → client_last s (p ∷ ps) ≡ client_last s ps
before_is s p ps h = let test : (s == p.0) ≡ false = grind (arith, nat_tests) in ap (λ (b : Bool). cond b p.1 (client_last s ps)) test

-- clients before the first have sent nothing
none_before : (k s : ℕ) (ps : List (ℕ × ℕ)) → AreClientsFrom k ps → s < k → client_last s ps ≡ 0
none_before k s [] f h = refl
none_before k s (p ∷ ps) f h = before_is s p ps (omega (arith, f.0, h)) ∙ none_before (suc p.0) s ps f.2 (omega (arith, f.0, h))

order : (m n : ℕ) → (m < n) ⊎ ((m ≡ n) ⊎ (n < m))
order zero zero = inr (inl refl)
order zero (suc n) = inl (omega arith)
order (suc m) zero = inr (inr (omega arith))
order (suc m) (suc n) = elim (order m n) [
  | inl less ↦ inl (omega (arith, less))
  | inr rest ↦ elim rest [ inl same ↦ inr (inl (ap suc same)) | inr more ↦ inr (inr (omega (arith, more))) ]
]

-- where a client has sent nothing the others are behind it
rise_later : (k : ℕ) (ps : List (ℕ × ℕ)) → AreClientsFrom k ps → client_last k ps ≡ 0 → AreClientsFrom (suc k) ps
rise_later k [] f h = tt
rise_later k (p ∷ ps) f h = elim (order k p.0) [
  | inl less ↦ (less, f.1, f.2)
  | inr rest ↦ elim rest [
    | inl same ↦ absurd (omega (arith, here_is k p ps same, h, f.1))
    | inr more ↦ absurd (omega (arith, more, f.0))
  ]
]

abbrev pair : ℕ → ℕ → ℕ × ℕ
pair k n = (k, n)

pair_is : (k n : ℕ) (p : ℕ × ℕ) → k ≡ p.0 → n ≡ p.1 → pair k n ≡ p
pair_is k n p e f = ap (λ (j : ℕ). pair j n) e ∙ ap (pair p.0) f

-- what a list of numbers has of each client from one on
abbrev Has : ℕ → List ℕ → List (ℕ × ℕ) → Type 0
Has k ns ps = (s j : ℕ) → s ≡ k + j → client_last s ps ≡ number_of ns j

has_later : (k n : ℕ) (ns : List ℕ) (ps : List (ℕ × ℕ)) → Has k (n ∷ ns) ps → Has (suc k) ns ps
has_later k n ns ps h s j e = h s (suc j) (omega (arith, e))

-- clients that rise are those of the numbers that they have
pub lists_clients : (k : ℕ) (ns : List ℕ) (ps : List (ℕ × ℕ)) → AreClientsFrom k ps → Has k ns ps → clients_from k ns ≡ ps
lists_clients k [] [] f h = refl
lists_clients k [] (p ∷ ps) f h = absurd (omega (arith, here_is p.0 p ps refl, h p.0 (p.0 - k) (omega (arith, f.0)), f.1))
lists_clients k (zero ∷ ns) ps f h = lists_clients (suc k) ns ps (rise_later k ps f (h k 0 (omega arith))) (has_later k 0 ns ps h)
lists_clients k (suc n ∷ ns) [] f h = absurd (omega (arith, h k 0 (omega arith)))
lists_clients k (suc n ∷ ns) (p ∷ ps) f h =
    let last : client_last k (p ∷ ps) ≡ suc n = h k 0 (omega arith) in
    elim (order k p.0) [
      | inl less ↦ absurd (omega (arith, last, none_before (suc k) k (p ∷ ps) (less, f.1, f.2) (omega arith)))
      | inr rest ↦ elim rest [
        | inl same ↦
            let later : Has (suc k) ns ps = λ s j e. sym (later_is s p ps (omega (arith, e, same))) ∙ h s (suc j) (omega (arith, e)) in
            let others : clients_from (suc k) ns ≡ ps = lists_clients (suc k) ns ps (subst (λ (m : ℕ). AreClientsFrom (suc m) ps) (sym same) f.2) later in
            let test : (suc n == 0) ≡ false = grind (arith, nat_tests) in
            ap (λ (b : Bool). cond b (clients_from (suc k) ns) ((k, suc n) ∷ clients_from (suc k) ns)) test ∙ ap (λ (qs : List (ℕ × ℕ)). (k, suc n) ∷ qs) others ∙ ap (λ (q : ℕ × ℕ). q ∷ ps) (pair_is k (suc n) p same (sym last ∙ here_is k p ps same))
        | inr more ↦ absurd (omega (arith, more, f.0))
      ]
    ]

-- the clients of the world that a history leads to
pub kept_list : (c : Constants) (base w : World) (h : List Item) (ns : List ℕ) → replay c base h ≡ Some w → KeepsClients ns base.clients h → AreClientsFrom 0 w.clients
    → clients_from 0 ns ≡ w.clients
kept_list c base w h ns e k f = lists_clients 0 ns w.clients f (λ s j same. let here : s ≡ j = omega (arith, same) in ap (λ (i : ℕ). client_last i w.clients) here ∙ kept_last c base w h ns j e k)
