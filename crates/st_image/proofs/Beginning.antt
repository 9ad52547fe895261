-- New images.
use Rattle.std.proofs.Common.{arith, ◌≡◌, ℕ, ◌≤◌, [], Bool, true, false, None, refl, nat_le, append-nil, sym, List, subst}
use Rattle.std.specs.Prelude.{not, ◌&&◌, ◌||◌}
use Rattle.std.proofs.lemmas.Bool.{and_parts}
use Rattle.std.proofs.lemmas.Bool.Decides.{nat_tests}
use Rattle.std.proofs.lemmas.List.Elements.{All-nil}
use Rattle.st_classes.specs.declared.refusals.Refusal.TheVariants.{BadArguments}
use Rattle.st_classes.specs.Refusals.{first_of}
use Rattle.st_classes.specs.Kernel.{kernel_selectors}
use Rattle.st_classes.specs.declared.edits.Edit.{Edit}
use Rattle.st_image.specs.declared.history.Item.{Item}
use Rattle.st_image.specs.declared.settings.Settings.{Settings}
use Rattle.st_image.specs.Images.{world_of, settings_rules}
use Rattle.st_image.specs.Worlds.{World, start}
use Rattle.st_image.specs.ActorViews.{ActorView}
use Rattle.st_image.specs.WorldInvariant.{AreConstants, AreSettings, IsSoundItem, IsWorld}
use Rattle.st_image.specs.ActResults.{constants_of}
use Rattle.st_image.specs.ImageInvariant.{IsImage}
use Rattle.st_image.proofs.SendingOrder.{start_in_order}
use Rattle.st_image.proofs.Lasting.{start_has_turns, start_is_world}
use Rattle.st_image.proofs.Lists.{off}

or_off : (a b : Bool) → (not a || not b) ≡ false → (a ≡ true) × (b ≡ true)
or_off true true e = (refl, refl)
or_off true false e = cc
or_off false b e = cc

at_most : (m n : ℕ) → nat_le m n ≡ true → m ≤ n
at_most m n e = grind (arith, nat_tests)

pub settings_are : (s : Settings) → first_of (settings_rules s) ≡ None → AreSettings s
settings_are s e =
    let o = off (not (nat_le 1 s.capacity && nat_le s.capacity 1024) || not (nat_le 1 s.history && nat_le s.history 1000000)) BadArguments [] e in
    let b = or_off (nat_le 1 s.capacity && nat_le s.capacity 1024) (nat_le 1 s.history && nat_le s.history 1000000) o.0 in
    let c = and_parts (nat_le 1 s.capacity) (nat_le s.capacity 1024) b.0 in
    let h = and_parts (nat_le 1 s.history) (nat_le s.history 1000000) b.1 in
    record { some_capacity = at_most 1 s.capacity c.0; few_messages = at_most s.capacity 1024 c.1; some_history = at_most 1 s.history h.0; few_items = at_most s.history 1000000 h.1 }

new_constants : (s : Settings) → AreSettings s → AreConstants (constants_of kernel_selectors s.capacity)
new_constants s f = record { kernel = ([], sym (append-nil kernel_selectors)); some_capacity = f.some_capacity; few_messages = f.few_messages }

-- an image with no history yet, with numbers that are set for it
pub new_is : (s : Settings) → AreSettings s → IsImage start kernel_selectors [] [] [] 0 s
unfolding world_of
new_is s f = record {
  base_is = start_is_world (constants_of kernel_selectors s.capacity) (new_constants s f);
  senders = start_in_order;
  sound = All-nil IsSoundItem;
  lawful = refl;
  shows = record { edits_are = refl; actors_are = refl };
  world = start_is_world (constants_of kernel_selectors s.capacity) (new_constants s f);
  turns = start_has_turns;
  counted = refl;
  numbers = f;
  few_items = omega arith;
  few_accepted = All-nil (λ (k : ActorView). k.accepted ≤ 1024);
}

-- a world for other constants of the same names
world_by : (names : List (List ℕ)) (s t : Settings) (w : World) → AreSettings t → IsWorld (constants_of names s.capacity) w → IsWorld (constants_of names t.capacity) w
world_by names s t w f k = record {
  constants = record { kernel = k.constants.kernel; some_capacity = f.some_capacity; few_messages = f.few_messages };
  lawful = k.lawful;
  suited = k.suited;
  sound = k.sound;
  actors = k.actors;
  clients = k.clients;
}

no_items : (base : World) (names : List (List ℕ)) (edits : List Edit) (actors : List ActorView) (made : ℕ) (s t : Settings) → IsImage base names edits actors [] made s → AreSettings t → IsImage base names edits actors [] made t
unfolding world_of
no_items base names edits actors made s t k f =
    record {
      base_is = world_by names s t base f k.base_is;
      senders = k.senders;
      sound = k.sound;
      lawful = refl;
      shows = k.shows;
      world = world_by names s t base f k.base_is;
      turns = k.turns;
      counted = k.counted;
      numbers = f;
      few_items = omega arith;
      few_accepted = k.few_accepted;
    }

-- an image with no history yet, with other numbers
pub set_is : (base : World) (names : List (List ℕ)) (edits : List Edit) (actors : List ActorView) (h : List Item) (made : ℕ) (s t : Settings) → IsImage base names edits actors h made s → h ≡ [] → AreSettings t → IsImage base names edits actors h made t
set_is base names edits actors h made s t k none f =
    subst (λ (x : List Item). IsImage base names edits actors x made t) (sym none) (no_items base names edits actors made s t (subst (λ (x : List Item). IsImage base names edits actors x made s) none k) f)
