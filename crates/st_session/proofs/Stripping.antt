-- The carriage return that may end a line decides nothing of whether it is text, and nothing of its command.
use Rattle.std.proofs.Common.{◌≡◌, ℕ, zero, suc, ◌-◌, ◌<◌, ◌==◌, ◌&&◌, Bool, true, false, List, [], ◌∷◌, ◌++◌, length, get_or, take, drop, slice_index, nat_lt, refl, sym, ap, ◌∙◌, subst, arith, cond}
use Rattle.std.proofs.lemmas.List.{take-append-drop, drop_all}
use Rattle.std.proofs.Math.Seq.{drop-cons}
use Rattle.std.proofs.lemmas.Bool.Decides.{nat_tests}
use Rattle.std.specs.Str.{IsUtf8}
use Rattle.std.proofs.lemmas.Str.{IsUtf8-from_ascii, IsUtf8-append, IsUtf8-take, IsCharBoundary-before_ascii}
use Rattle.st_wire.specs.Commands.{command_of}
use Rattle.st_wire.proofs.Returns.{returns_mean_nothing}
use Rattle.tokio_util.specs.Codec.Lines.{without_carriage_return}

abbrev pub ends_with_return : List ℕ → Bool
ends_with_return xs = nat_lt 0 (length xs) && (slice_index xs (length xs - 1) == 13)

pub stripped : (xs : List ℕ) (b : Bool) → ends_with_return xs ≡ b → without_carriage_return xs ≡ cond b (take (length xs - 1) xs) xs
unfolding without_carriage_return
stripped xs b e = rw e refl

-- what ends with a carriage return is what stands before it, and it
last_is : (xs : List ℕ) → ends_with_return xs ≡ true → (0 < length xs) × (get_or xs (length xs - 1) 0 ≡ 13)
last_is xs e = (grind (arith, nat_tests), grind (arith, nat_tests))

put_back : (xs : List ℕ) → ends_with_return xs ≡ true → xs ≡ take (length xs - 1) xs ++ 13 ∷ []
put_back xs e =
    let h = last_is xs e in
    let n = length xs - 1 in
    let end : drop n xs ≡ 13 ∷ [] = drop-cons xs n 0 (omega (arith, h.0)) ∙ rw (h.1, drop_all (suc n) xs (omega (arith, h.0))) refl in
    sym (take-append-drop n xs) ∙ ap (λ ys. take n xs ++ ys) end

return_is_ascii : (i : ℕ) → slice_index (13 ∷ []) i < 128
return_is_ascii zero = omega arith
return_is_ascii (suc i) = omega arith

return_is_text : IsUtf8 (13 ∷ [])
return_is_text = IsUtf8-from_ascii (13 ∷ []) return_is_ascii

cut_out : (xs : List ℕ) (b : Bool) → ends_with_return xs ≡ b → IsUtf8 xs → IsUtf8 (cond b (take (length xs - 1) xs) xs)
cut_out xs true e u = let h = last_is xs e in IsUtf8-take xs (length xs - 1) u (IsCharBoundary-before_ascii xs (length xs - 1) (omega (arith, h.0)) (omega (arith, h.1)))
cut_out xs false e u = u

cut_in : (xs : List ℕ) (b : Bool) → ends_with_return xs ≡ b → IsUtf8 (cond b (take (length xs - 1) xs) xs) → IsUtf8 xs
cut_in xs true e u = subst IsUtf8 (sym (put_back xs e)) (IsUtf8-append (take (length xs - 1) xs) (13 ∷ []) u return_is_text)
cut_in xs false e u = u

pub utf8_out : (xs : List ℕ) → IsUtf8 xs → IsUtf8 (without_carriage_return xs)
utf8_out xs u = subst IsUtf8 (sym (stripped xs (ends_with_return xs) refl)) (cut_out xs (ends_with_return xs) refl u)

pub utf8_in : (xs : List ℕ) → IsUtf8 (without_carriage_return xs) → IsUtf8 xs
utf8_in xs u = cut_in xs (ends_with_return xs) refl (subst IsUtf8 (stripped xs (ends_with_return xs) refl) u)

command_out : (xs : List ℕ) (b : Bool) → ends_with_return xs ≡ b → command_of (cond b (take (length xs - 1) xs) xs) ≡ command_of xs
command_out xs true e = sym (ap command_of (put_back xs e) ∙ returns_mean_nothing (take (length xs - 1) xs))
command_out xs false e = refl

pub command_same : (xs : List ℕ) → command_of (without_carriage_return xs) ≡ command_of xs
command_same xs = ap command_of (stripped xs (ends_with_return xs) refl) ∙ command_out xs (ends_with_return xs) refl
