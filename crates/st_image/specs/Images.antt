-- What callers see of an image, and the refusals of its calls.
use Rattle.std.specs.Prelude.{true, ℕ, ◌+◌, ◌&&◌, ◌||◌, List, [], ◌∷◌, ◌++◌, length, not, Option, Some, None, nat_le, nat_lt, slice_get, unwrap_or}
use Rattle.st_classes.specs.declared.values.ClassId.{ClassId}
use Rattle.st_classes.specs.declared.values.ActorId.{ActorId}
use Rattle.st_classes.specs.declared.values.Selector.{Selector}
use Rattle.st_classes.specs.declared.refusals.Refusal.TheVariants.{UnknownClass, KernelClass, UnknownActor, Closed as IsClosed, BadArguments, HistoryFull, TooMany}
use Rattle.st_classes.specs.declared.refusals.Limited.TheVariants.{Edits, Actors}
use Rattle.st_classes.specs.Refusals.{Rule}
use Rattle.st_classes.specs.Kernel.{kernel_selectors}
use Rattle.st_classes.specs.Classes.{is_class}
use Rattle.st_classes.specs.EditRules.{is_value_class, define_rules, remove_rules, reparent_rules}
use Rattle.st_mailbox.specs.declared.messages.Message.{Message}
use Rattle.st_image.specs.declared.history.Item.{Item}
use Rattle.st_image.specs.declared.settings.Settings.{Settings}
use Rattle.st_turn.specs.declared.tally.Tally.{Tally}
use Rattle.st_image.specs.Worlds.{Constants, World, WorldActor, start, is_capacity}
use Rattle.st_image.specs.PostRules.{post_rules}
use Rattle.st_image.specs.Replay.{replay}
use Rattle.st_image.specs.EarlierCounts.{EarlierCounts, nothing_earlier}
use Rattle.st_image.specs.Counts.{edits_of, most_counted, posts_of, ran_of, weigh}
use Rattle.st_image.specs.declared.counts.Counts.{Counts}

-- what an image keeps beside its world: the number from which the next ready actor is looked for; how many claims of each actor are out,
-- up to the last actor that has one; the tallies of the call sites; and what was counted before its base
pub record Standing : Type 0 where
  pub next_from : ℕ
  pub claims_out : List ℕ
  pub tallies : List (List Tally)
  pub earlier : EarlierCounts

-- an image: the world that it began with, its names, its history, the capacity of new actors' mailboxes, the most items of the history,
-- and what it keeps beside its world
pub record ImageView : Type 0 where
  pub base : World
  pub names : List (List ℕ)
  pub history : List Item
  pub capacity : ℕ
  pub most_items : ℕ
  pub standing : Standing

-- the constants of an image
abbrev pub constants : ImageView → Constants
constants i = record { names = i.names; capacity = i.capacity }

-- the world that a history leads to from a base
unfoldable pub world_of : Constants → World → List Item → World
world_of c base history = unwrap_or (replay c base history) base

-- the world of an image
abbrev pub world : ImageView → World
world i = world_of (constants i) i.base i.history

-- how many of the items are edits
abbrev pub edits_in : List Item → ℕ
edits_in = weigh edits_of

-- how many messages of clients were accepted, and how many steps were taken, since the image was new, also before it was loaded
abbrev pub counts_of : ImageView → Counts
counts_of i = record {
  posts = i.standing.earlier.posts + weigh posts_of i.history;
  steps = i.standing.earlier.steps + weigh ran_of i.history;
}

-- a new image: the kernel's names and no history
abbrev pub new_image : Settings → ImageView
new_image s = record {
  base = start;
  names = kernel_selectors;
  history = [];
  capacity = s.capacity;
  most_items = s.history;
  standing = record { next_from = 0; claims_out = []; tallies = []; earlier = nothing_earlier };
}

-- the image with items appended to its history
abbrev pub appended : ImageView → List Item → ImageView
appended i items = record i { history = i.history ++ items }

-- ---- refusals, in their order

-- the capacity is from 1 to 1,024, and the history from 1 to 1,000,000
abbrev pub settings_rules : Settings → List Rule
settings_rules s =
    (not (is_capacity s.capacity) || not (nat_le 1 s.history && nat_le s.history 1000000), BadArguments)
    ∷ []

-- no room for n more items
abbrev pub no_room : ImageView → ℕ → Rule
no_room i n = (nat_lt i.most_items (length i.history + n), HistoryFull)

-- one more post would be more than an image counts
abbrev pub too_many_posts : ImageView → Rule
too_many_posts i = (nat_lt most_counted ((counts_of i).posts + 1), HistoryFull)

-- n more steps would be more than an image counts
abbrev pub too_many_steps : ImageView → ℕ → Rule
too_many_steps i n = (nat_lt most_counted ((counts_of i).steps + n), HistoryFull)

-- how many edits the run has accepted
abbrev pub edits_made : ImageView → ℕ
edits_made i = i.standing.earlier.edits + edits_in i.history

-- one run accepts 2,048 edits
abbrev pub run_rules : ImageView → List Rule
run_rules i = (nat_le 2048 (edits_made i), TooMany Edits) ∷ no_room i 1 ∷ []

-- the refusals of a definition in an image, in their order
abbrev pub image_define_rules : ImageView → List ℕ → ClassId → List (List ℕ) → List Rule
image_define_rules i name parent added = define_rules (world i).edits name parent added ++ run_rules i

-- the refusals of a removal in an image, in their order
abbrev pub image_remove_rules : ImageView → ClassId → Selector → List Rule
image_remove_rules i c s = remove_rules (world i).edits c s ++ run_rules i

-- the refusals of another superclass for a class in an image, in their order
abbrev pub image_reparent_rules : ImageView → ClassId → ClassId → List Rule
image_reparent_rules i c parent = reparent_rules (world i).edits c parent ++ run_rules i

-- the refusals of a new actor, in their order
abbrev pub create_rules : ImageView → ClassId → List Rule
create_rules i c =
    (not (is_class (world i).edits c), UnknownClass)
    ∷ (is_value_class c, KernelClass)
    ∷ (nat_le 65536 (length (world i).actors), TooMany Actors)
    ∷ no_room i 1
    ∷ []

-- the refusals of a post in an image, in their order
abbrev pub image_post_rules : ImageView → ActorId → Message → List Rule
image_post_rules i a m =
    post_rules i.names (world i) (slice_get (world i).actors a.0) m ++ no_room i 1 ∷ too_many_posts i ∷ []

-- the refusals of a close, in their order
abbrev pub close_rules : ImageView → Option WorldActor → List Rule
close_rules i None = (true, UnknownActor) ∷ []
close_rules i (Some b) = (not b.is_open, IsClosed) ∷ no_room i 1 ∷ []

-- how many messages an actor accepted
abbrev pub accepted_by : Option WorldActor → ℕ
accepted_by None = 0
accepted_by (Some b) = length b.accepted
