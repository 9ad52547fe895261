-- How far an input has been read.
use Rattle.std.proofs.Common.{◌≡◌, ◌⊎◌, ℕ, zero, suc, ◌+◌, ◌^◌, ◌≤◌, ◌<◌, List, ◌++◌, length, sym, ap, ◌∙◌, subst, inl, inr, arith, add-one, length-append}
use Rattle.std.specs.Io.KnownBytes.{Consumes, IsAtEnd}
use Rattle.std.proofs.KnownBytes.{Consumes-trans}
use Rattle.st_classes.specs.declared.refusals.Refusal.{Refusal}
use Rattle.st_classes.specs.declared.refusals.Refusal.TheVariants.{NoMemory, ReadFault}
use Rattle.st_wire.specs.Streams.{InputView, one_more, so_many_more}
use Rattle.st_file.specs.Inputs.{Gives, GivesAll, StopsShort}

-- so many reads gave this text
pub record Reached (before now : InputView) (text : List ℕ) (reads : ℕ) : Type 0 where
  pub consumed : Consumes before.remaining now.remaining text
  pub some : reads ≤ length text
  pub unfailed : now.failures ≡ before.failures
  pub counted : now.reads ≡ so_many_more reads before.reads

one_next : (n count : ℕ) → one_more (so_many_more (suc n) count) ≡ so_many_more (suc (suc n)) count
one_next n count = omega arith

one_then : (n now before after : ℕ) → now ≡ so_many_more n before → after ≡ one_more now → after ≡ so_many_more (n + 1) before
one_then zero now before after e f = f ∙ ap one_more e
one_then (suc n) now before after e f = f ∙ ap one_more e ∙ one_next n before ∙ ap (λ (k : ℕ). so_many_more k before) (sym (add-one (suc n)))

-- the bytes of one read more
gives_more : (before now after : InputView) (text piece : List ℕ) (reads : ℕ) → Reached before now text reads → Consumes now.remaining after.remaining piece
    → reads < 2 ^ 32 → after.reads ≡ one_more now.reads → Gives before after (text ++ piece)
gives_more before now after text piece reads r consumed bound counted = record {
  consumed = Consumes-trans _ _ _ _ _ r.consumed consumed;
  reads = (reads + 1, omega (arith, bound), omega (arith, r.some, length-append text piece), one_then reads now.reads before.reads after.reads r.counted counted);
}

-- the read that gave nothing
pub reached_end : (before now after : InputView) (text piece more : List ℕ) (reads : ℕ) → Reached before now text reads → Consumes now.remaining after.remaining piece
    → length piece ≡ 0 → more ≡ text ++ piece → reads < 2 ^ 32 → after.failures ≡ now.failures → after.reads ≡ one_more now.reads → IsAtEnd after.remaining → GivesAll before after more
reached_end before now after text piece more reads r consumed none same bound unfailed counted end = record {
  gives = subst (λ (xs : List ℕ). Gives before after xs) (sym same) (gives_more before now after text piece reads r consumed bound counted);
  whole = end;
  unfailed = unfailed ∙ r.unfailed;
}

-- a read failed, or there was no memory for what it gave
pub stopped : (before now after : InputView) (text piece : List ℕ) (reads : ℕ) (e : Refusal) → Reached before now text reads → Consumes now.remaining after.remaining piece
    → reads < 2 ^ 32 → after.reads ≡ one_more now.reads
    → ((e ≡ ReadFault) × (after.failures ≡ one_more now.failures)) ⊎ ((e ≡ NoMemory) × (after.failures ≡ now.failures))
    → StopsShort before after e
stopped before now after text piece reads e r consumed bound counted (inl (is, failed)) =
    (text ++ piece, gives_more before now after text piece reads r consumed bound counted, inl (is, failed ∙ ap one_more r.unfailed))
stopped before now after text piece reads e r consumed bound counted (inr (is, unfailed)) =
    (text ++ piece, gives_more before now after text piece reads r consumed bound counted, inr (inr (is, unfailed ∙ r.unfailed)))
