-- What was found at the keys of an object, one more key at a time.
use Rattle.std.proofs.Common.{◌≡◌, ℕ, suc, ◌+◌, List, Bool, true, false, Option, Some, None, Ordering, Less, Equal, Greater, bytes_eq, true≢false, refl, sym, ap, subst, ◌∙◌, arith}
use Rattle.std.proofs.lemmas.Slice.Eq.{bytes_eq-Decides}
use Rattle.std.specs.Borrow.{Bor}
use Rattle.std.specs.Cmp.Lexicographic.{slice_cmp}
use Rattle.std.specs.Ordering.{nat_cmp, match_ordering}
use Rattle.serde_json.specs.Data.{Data, number, string, array, unsigned, Items, Members, no_members, member, put}
use Rattle.serde_json.specs.Events.{members_len}
use Rattle.serde_json.specs.Find.{get_member}
use Rattle.serde_json.proofs.Views.{get_member-put, get_member-put_other}
use Rattle.st_wire.specs.declared.commands.Argument.{Argument}
use Rattle.st_wire.specs.declared.line_fields.LineFields.{LineFields}
use Rattle.st_wire.specs.Fields.{argument, each_of}
use Rattle.st_wire.specs.LineFields.{nothing, IsPartOf, IsFoundIn, part_at, whole_part, text_part, arguments_part}

-- ---- a key that was not there makes one member more

no_equal : (o : Ordering) (e : Data) (below above : Option Data) → match_ordering o below (Some e) above ≡ None → o ≡ Equal → ⊥
no_equal Less e below above none is = absurd cc
no_equal Equal e below above none is = absurd cc
no_equal Greater e below above none is = absurd cc

one_more_at : (o : Ordering) (k l : List ℕ) (d e : Data) (ms : Members) → match_ordering o (get_member k ms) (Some e) (get_member k ms) ≡ None → (get_member k ms ≡ None → members_len (put k d ms) ≡ suc (members_len ms))
    → members_len (match_ordering o (member k d (member l e ms)) (member l d ms) (member l e (put k d ms))) ≡ suc (suc (members_len ms))
one_more_at Less k l d e ms none more = refl
one_more_at Equal k l d e ms none more = absurd cc
one_more_at Greater k l d e ms none more = ap suc (more none)

pub one_member_more : (k : List ℕ) (d : Data) (ms : Members) → get_member k ms ≡ None → members_len (put k d ms) ≡ suc (members_len ms)
one_member_more k d no_members none = refl
one_member_more k d (member l e ms) none = one_more_at (slice_cmp nat_cmp k l) k l d e ms none (one_member_more k d ms)

-- ---- a key is kept

differs : (q k : List ℕ) → bytes_eq q k ≡ false → q ≡ k → ⊥
differs q k e same = true≢false (sym ((bytes_eq-Decides q k).1 same) ∙ e)

module _ (f g : LineFields) (k : List ℕ) (d : Data) (ms : Members) where
  part_kept : IsPartOf (part_at k g) (Some d) → ((q : List ℕ) → bytes_eq q k ≡ false → part_at q g ≡ part_at q f) → ((q : List ℕ) → IsPartOf (part_at q f) (get_member q ms))
      → (q : List ℕ) (same : Bool) → bytes_eq q k ≡ same → IsPartOf (part_at q g) (get_member q (put k d ms))
  part_kept here others before q true e =
      let is : q ≡ k = (bytes_eq-Decides q k).0 e in
      subst (λ key. IsPartOf (part_at key g) (get_member key (put k d ms))) (sym is) (subst (IsPartOf (part_at k g)) (sym (get_member-put k d ms)) here)
  part_kept here others before q false e =
      subst (λ part. IsPartOf part (get_member q (put k d ms))) (sym (others q e)) (subst (IsPartOf (part_at q f)) (sym (get_member-put_other q k d ms (differs q k e))) (before q))

  -- g is f with a part at a key that f had nothing at
  pub kept : part_at k f ≡ nothing → IsPartOf (part_at k g) (Some d) → ((q : List ℕ) → bytes_eq q k ≡ false → part_at q g ≡ part_at q f) → g.count ≡ suc f.count → IsFoundIn f ms → IsFoundIn g (put k d ms)
  kept none here others more found =
      let absent : get_member k ms ≡ None = subst (λ part. IsPartOf part (get_member k ms)) none (found.0 k) in
      ((λ q. part_kept here others found.0 q (bytes_eq q k) refl), one_member_more k d ms absent ∙ ap suc found.1 ∙ sym more)

-- ---- what is kept at a key, by its kind

module _ (f g : LineFields) (key name : List ℕ) (ms : Members) (is : key ≡ name) (more : g.count ≡ f.count + 1) (others : (q : List ℕ) → bytes_eq q name ≡ false → part_at q g ≡ part_at q f) where
  kept_at : (d : Data) → part_at name f ≡ nothing → IsPartOf (part_at name g) (Some d) → IsFoundIn f ms → IsFoundIn g (put key d ms)
  kept_at d none here found =
      let count : g.count ≡ suc f.count = omega (arith, more) in
      subst (λ k. IsFoundIn g (put k d ms)) (sym is) (kept f g name d ms none here others count found)

  pub whole_kept : (old new : Option ℕ) (n : ℕ) → part_at name f ≡ whole_part old → part_at name g ≡ whole_part new → (old ≡ None) × (new ≡ Some n)
      → IsFoundIn f ms → IsFoundIn g (put key (number (unsigned n)) ms)
  whole_kept old new n was now kept = kept_at _ (was ∙ ap whole_part kept.0) (subst (λ part. IsPartOf part (Some (number (unsigned n)))) (sym (now ∙ ap whole_part kept.1)) refl)

  pub text_kept : (old new : Option (Bor (List ℕ))) (s : Bor (List ℕ)) → part_at name f ≡ text_part old → part_at name g ≡ text_part new → (old ≡ None) × (new ≡ Some s)
      → IsFoundIn f ms → IsFoundIn g (put key (string s.now) ms)
  text_kept old new s was now kept = kept_at _ (was ∙ ap text_part kept.0) (subst (λ part. IsPartOf part (Some (string s.now))) (sym (now ∙ ap text_part kept.1)) refl)

  pub arguments_kept : (old new : Option (List Argument)) (args : List Argument) (ds : Items) → part_at name f ≡ arguments_part old → part_at name g ≡ arguments_part new → (old ≡ None) × (new ≡ Some args)
      → each_of argument ds ≡ Some args → IsFoundIn f ms → IsFoundIn g (put key (array ds) ms)
  arguments_kept old new args ds was now kept means =
      kept_at _ (was ∙ ap arguments_part kept.0) (subst (λ part. IsPartOf part (Some (array ds))) (sym (now ∙ ap arguments_part kept.1)) means)
