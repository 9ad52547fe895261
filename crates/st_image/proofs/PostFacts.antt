-- What no refusal of a post leaves.
use Rattle.std.proofs.Common.{arith, ◌≡◌, ◌<◌, ℕ, [], ◌∷◌, Option, Some, None, refl, subst, length, Bool, true, false}
use Rattle.std.specs.Prelude.{not, nat_le, is_none}
use Rattle.std.proofs.lemmas.Bool.Decides.{nat_tests}
use Rattle.st_classes.specs.declared.refusals.Refusal.TheVariants.{BadArguments, Closed as IsClosed, Full}
use Rattle.st_classes.specs.Refusals.{Rule, first_of}
use Rattle.st_mailbox.specs.declared.messages.Message.{Message}
use Rattle.st_image.specs.Worlds.{Constants, World, WorldActor, pending}
use Rattle.st_image.specs.PostRules.{message_suits, number_rule, post_rules}
use Rattle.st_mailbox.specs.Mailboxes.{box_rules}
use Rattle.st_image.proofs.Lists.{off}

pub none_from : {X : Type 0} (o : Option X) → is_none o ≡ true → o ≡ None
none_from None e = refl
none_from (Some x) e = cc

-- a number that is not too great
pub above : (m n : ℕ) → nat_le m n ≡ false → n < m
above m n e = grind (arith, nat_tests)

is_true : (b : Bool) → not b ≡ false → b ≡ true
is_true true e = refl
is_true false e = cc

-- what no refusal of a post leaves
pub record MayPost (c : Constants) (w : World) (m : Message) (b : WorldActor) : Type 0 where
  pub suits : message_suits c.names w m ≡ true
  pub number : (number_rule w m.sender m.seq).0 ≡ false
  pub is_open : b.is_open ≡ true
  pub room : length (pending b) < b.capacity

pub may_post : (c : Constants) (w : World) (m : Message) (b : WorldActor) → first_of (post_rules c.names w (Some b) m) ≡ None → MayPost c w m b
may_post c w m b e =
    let r : Rule = number_rule w m.sender m.seq in
    let o1 = off (not (message_suits c.names w m)) BadArguments (r ∷ box_rules b.is_open b.capacity (length (pending b))) e in
    let o2 = off r.0 r.1 (box_rules b.is_open b.capacity (length (pending b))) o1.1 in
    let o3 = off (not b.is_open) IsClosed ((nat_le b.capacity (length (pending b)), Full) ∷ []) o2.1 in
    let o4 = off (nat_le b.capacity (length (pending b))) Full [] o3.1 in
    record { suits = is_true _ o1.0; number = o2.0; is_open = is_true _ o3.0; room = above b.capacity (length (pending b)) o4.0 }

pub rules_of : (c : Constants) (w : World) (m : Message) (o : Option WorldActor) (b : WorldActor) → o ≡ Some b → is_none (first_of (post_rules c.names w o m)) ≡ true → first_of (post_rules c.names w (Some b) m) ≡ None
rules_of c w m o b e h = none_from _ (subst (λ (x : Option WorldActor). is_none (first_of (post_rules c.names w x m)) ≡ true) e h)
