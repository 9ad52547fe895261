-- Jumps that are written after what they pass.
use Rattle.std.proofs.Common.{◌≡◌, ℕ, suc, ◌+◌, ◌-◌, pos, List, [], ◌∷◌, ◌++◌, length, sym, ap, ◌∙◌, arith, append_assoc, length-append}
use Rattle.std.specs.Prelude.{slice_set}
use Rattle.std.proofs.Math.Seq.{set-append_seam}
use Rattle.st_classes.specs.declared.values.Value.TheVariants.{Nil}
use Rattle.st_compile.specs.DraftCode.{Word, Line, line, literal, drop, jump}
use Rattle.st_compile.specs.Equations.{either, loop}
use Rattle.st_compile.specs.DraftViews.{back}

two_writes : (c a b : List Line) (x y i j : Line) → slice_set (slice_set (c ++ x ∷ (a ++ y ∷ b)) (length c) i) (length (c ++ i ∷ a)) j ≡ c ++ i ∷ (a ++ j ∷ b)
two_writes c a b x y i j =
    ap (λ l. slice_set l (length (c ++ i ∷ a)) j) (set-append_seam c x (a ++ y ∷ b) i ∙ sym (append_assoc c (i ∷ a) (y ∷ b)))
    ∙ set-append_seam (c ++ i ∷ a) y b j
    ∙ append_assoc c (i ∷ a) (j ∷ b)

-- two arms, where both jumps are written at the end
pub patch_either : (br : ℕ → Word) (d : ℕ) (r ac bc c1 c2 c3 c4 w1 w2 : List Line) (x y : Line) (n1 n2 n3 : ℕ) → n1 ≡ length r → c1 ≡ r ++ x ∷ [] → c2 ≡ c1 ++ ac → n2 ≡ length c2 → c3 ≡ c2 ++ y ∷ [] → c4 ≡ c3 ++ bc → n3 ≡ length c4 → w1 ≡ slice_set c4 n1 (line (d + 1) (br (n2 - n1))) → w2 ≡ slice_set w1 n2 (line (d + 1) (jump (pos (n3 - n2 - 1)))) → w2 ≡ either br d r ac bc
patch_either br d r ac bc c1 c2 c3 c4 w1 w2 x y n1 n2 n3 m1 e1 e2 m2 e3 e4 m3 f1 f2 =
    let l1 = ap length e1 ∙ length-append r (x ∷ []) in
    let l2 = ap length e2 ∙ length-append c1 ac in
    let l3 = ap length e3 ∙ length-append c2 (y ∷ []) in
    let l4 = ap length e4 ∙ length-append c3 bc in
    let i = line (d + 1) (br (n2 - n1)) in
    let j = line (d + 1) (jump (pos (n3 - n2 - 1))) in
    let d1 : n2 - n1 ≡ length ac + 1 = omega arith in
    let d2 : n3 - n2 - 1 ≡ length bc = omega arith in
    let at2 : n2 ≡ length (r ++ i ∷ ac) = omega (arith, length-append r (i ∷ ac)) in
    let all : c4 ≡ (((r ++ x ∷ []) ++ ac) ++ y ∷ []) ++ bc = cc in
    let flat : (((r ++ x ∷ []) ++ ac) ++ y ∷ []) ++ bc ≡ r ++ x ∷ (ac ++ y ∷ bc) = simp append_assoc in
    f2 ∙ ap (λ l. slice_set l n2 j) f1 ∙ ap (λ l. slice_set (slice_set l n1 i) n2 j) (all ∙ flat)
    ∙ ap (λ n. slice_set (slice_set (r ++ x ∷ (ac ++ y ∷ bc)) n i) n2 j) m1
    ∙ ap (λ n. slice_set (slice_set (r ++ x ∷ (ac ++ y ∷ bc)) (length r) i) n j) at2
    ∙ two_writes r ac bc x y i j
    ∙ ap (λ n. r ++ line (d + 1) (br n) ∷ (ac ++ j ∷ bc)) d1
    ∙ ap (λ n. r ++ line (d + 1) (br (length ac + 1)) ∷ (ac ++ line (d + 1) (jump (pos n)) ∷ bc)) d2

-- a loop, where the jump out of it is written at the end
pub patch_loop : (br : ℕ → Word) (d : ℕ) (front c bc c0 c1 c2 c3 c4 c5 w : List Line) (x : Line) (n0 n1 n2 : ℕ) → n0 ≡ length front → c0 ≡ front ++ c → n1 ≡ length c0 → c1 ≡ c0 ++ x ∷ [] → c2 ≡ c1 ++ bc → c3 ≡ c2 ++ line (d + 1) drop ∷ [] → n2 ≡ length c3 → c4 ≡ c3 ++ line d (back (n2 - n0 + 1)) ∷ [] → c5 ≡ c4 ++ line d (literal Nil) ∷ [] → w ≡ slice_set c5 n1 (line (d + 1) (br (n2 - n1))) → w ≡ front ++ loop br d c bc
patch_loop br d front c bc c0 c1 c2 c3 c4 c5 w x n0 n1 n2 m0 e0 m1 e1 e2 e3 m2 e4 e5 f =
    let out = line (d + 1) drop in
    let again = line d (back (n2 - n0 + 1)) in
    let nil = line d (literal Nil) in
    let l0 = ap length e0 ∙ length-append front c in
    let l1 = ap length e1 ∙ length-append c0 (x ∷ []) in
    let l2 = ap length e2 ∙ length-append c1 bc in
    let l3 = ap length e3 ∙ length-append c2 (out ∷ []) in
    let i = line (d + 1) (br (n2 - n1)) in
    let d1 : n2 - n1 ≡ length bc + 2 = omega arith in
    let d2 : n2 - n0 + 1 ≡ suc (length c + length bc + 2) = omega arith in
    let all : c5 ≡ ((((c0 ++ x ∷ []) ++ bc) ++ out ∷ []) ++ again ∷ []) ++ nil ∷ [] = cc in
    let flat : ((((c0 ++ x ∷ []) ++ bc) ++ out ∷ []) ++ again ∷ []) ++ nil ∷ [] ≡ c0 ++ x ∷ (bc ++ out ∷ again ∷ nil ∷ []) = simp append_assoc in
    f ∙ ap (λ l. slice_set l n1 i) (all ∙ flat)
    ∙ ap (λ n. slice_set (c0 ++ x ∷ (bc ++ out ∷ again ∷ nil ∷ [])) n i) m1
    ∙ set-append_seam c0 x (bc ++ out ∷ again ∷ nil ∷ []) i
    ∙ ap (λ l. l ++ i ∷ (bc ++ out ∷ again ∷ nil ∷ [])) e0
    ∙ append_assoc front c (i ∷ (bc ++ out ∷ again ∷ nil ∷ []))
    ∙ ap (λ n. front ++ (c ++ line (d + 1) (br n) ∷ (bc ++ out ∷ again ∷ nil ∷ []))) d1
    ∙ ap (λ n. front ++ (c ++ line (d + 1) (br (length bc + 2)) ∷ (bc ++ out ∷ line d (back n) ∷ nil ∷ []))) d2
