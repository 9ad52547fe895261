-- More names leave an image the replay of its history.
use Rattle.std.proofs.Common.{◌≡◌, ℕ, ◌++◌, [], ◌∷◌, List, Bool, true, false, cond, refl, sym, subst, Result, Ok, Err, OnOk, OnErr}
use Rattle.st_classes.specs.declared.edits.Edit.{Edit}
use Rattle.st_classes.specs.Names.{is_name, interned}
use Rattle.st_image.specs.declared.settings.Settings.{Settings}
use Rattle.st_image.specs.declared.history.Item.{Item}
use Rattle.st_turn.specs.declared.tally.Tally.{Tally}
use Rattle.st_image.specs.Tallies.{CountsSends}
use Rattle.st_image.specs.Failures.{failures_through}
use Rattle.st_image.specs.Worlds.{Constants, World}
use Rattle.st_image.specs.Images.{world_of}
use Rattle.st_image.specs.ActorViews.{ActorView, Shows}
use Rattle.st_image.specs.WorldInvariant.{HaveTurns, IsWorld}
use Rattle.st_image.specs.ActResults.{constants_of}
use Rattle.st_image.specs.ImageInvariant.{IsImage}
use Rattle.st_image.proofs.GrowingNames.{world_more}
use Rattle.st_image.proofs.Lasting.{names_keep}
use Rattle.st_image.proofs.Sends.{sends_more}
use Rattle.st_image.proofs.Failing.{failures_more}

-- an image with other names, at the same world
pub record IsRenamed (base : World) (names : List (List ℕ)) (names' : List (List ℕ)) (edits : List Edit) (actors : List ActorView) (h : List Item) (made : ℕ) (s : Settings) : Type 0 where
  pub image : IsImage base names' edits actors h made s
  pub world : world_of (constants_of names' s.capacity) base h ≡ world_of (constants_of names s.capacity) base h
  pub sends : (rows : List (List Tally)) → CountsSends (constants_of names s.capacity) base h rows → CountsSends (constants_of names' s.capacity) base h rows
  pub failures : (taken : ℕ) → failures_through (constants_of names' s.capacity) base taken base h ≡ failures_through (constants_of names s.capacity) base taken base h

pub more_kept : (base : World) (names more : List (List ℕ)) (edits : List Edit) (actors : List ActorView) (h : List Item) (made : ℕ) (s : Settings) → IsImage base names edits actors h made s → IsRenamed base names (names ++ more) edits actors h made s
more_kept base names more edits actors h made s k =
    let c : Constants = constants_of names s.capacity in
    let m = world_more c more base h k.base_is k.sound k.lawful in
    record {
      image = record {
        base_is = names_keep c more base k.base_is;
        senders = k.senders;
        sound = k.sound;
        lawful = m.0;
        shows = subst (Shows edits actors) (sym m.1) k.shows;
        world = subst (IsWorld (constants_of (names ++ more) s.capacity)) (sym m.1) (names_keep c more (world_of c base h) k.world);
        turns = subst (HaveTurns base) (sym m.1) k.turns;
        counted = k.counted;
        numbers = k.numbers;
        few_items = k.few_items;
        few_accepted = k.few_accepted;
      };
      world = m.1;
      sends = λ rows n. sends_more base names more edits actors h made s rows k n;
      failures = λ taken. failures_more base names more edits actors h made s taken k;
    }

pub same_kept : (base : World) (names : List (List ℕ)) (edits : List Edit) (actors : List ActorView) (h : List Item) (made : ℕ) (s : Settings) → IsImage base names edits actors h made s → IsRenamed base names names edits actors h made s
same_kept base names edits actors h made s k = record { image = k; world = refl; sends = λ rows n. n; failures = λ taken. refl }

by_test : (b : Bool) (base : World) (names : List (List ℕ)) (text : List ℕ) (edits : List Edit) (actors : List ActorView) (h : List Item) (made : ℕ) (s : Settings) → IsImage base names edits actors h made s → IsRenamed base names (cond b names (names ++ text ∷ [])) edits actors h made s
by_test true base names text edits actors h made s k = same_kept base names edits actors h made s k
by_test false base names text edits actors h made s k = more_kept base names (text ∷ []) edits actors h made s k

pub renamed : (base : World) (names names' other : List (List ℕ)) (edits : List Edit) (actors : List ActorView) (h : List Item) (made : ℕ) (s : Settings) → names' ≡ other → IsRenamed base names other edits actors h made s → IsRenamed base names names' edits actors h made s
renamed base names names' other edits actors h made s e r = subst (λ (ns : List (List ℕ)). IsRenamed base names ns edits actors h made s) (sym e) r

-- after an intern, refused or not
pub interned_kept : {T E : Type 0} (r : Result T E) (base : World) (names names' : List (List ℕ)) (text : List ℕ) (edits : List Edit) (actors : List ActorView) (h : List Item) (made : ℕ) (s : Settings) → IsImage base names edits actors h made s → OnOk r (names' ≡ interned names text) → OnErr r (names' ≡ names) → IsRenamed base names names' edits actors h made s
interned_kept (Ok x) base names names' text edits actors h made s k a b = renamed base names names' (interned names text) edits actors h made s a (by_test (is_name names text) base names text edits actors h made s k)
interned_kept (Err x) base names names' text edits actors h made s k a b = renamed base names names' names edits actors h made s b (same_kept base names edits actors h made s k)
