-- Texts that are read actor by actor are those of documents.
use Rattle.std.proofs.Common.{◌≡◌, ℕ, ◌-◌, ◌+◌, ◌<◌, List, [], ◌∷◌, length, codes, Option, Some, None, Ok, option_map, option_and_then, refl, sym, ap, ap₂, ◌∙◌, subst, arith}
use Rattle.std.proofs.lemmas.Option.{same_Some}
use Rattle.json.specs.Token.{Token}
use Rattle.json.specs.Lex.{tokens}
use Rattle.json.specs.Json as json
use Rattle.json.specs.Json.{read_key}
use Rattle.json.proofs.Grammar.{members_end, read_key-shorter, skip_value-shorter}
use Rattle.serde_json.specs.Data.{Data, array, object, Items, no_items, item, Members, member, no_members, put}
use Rattle.serde_json.specs.Read.{converted, of_json, of_members, read}
use Rattle.st_image.specs.declared.counts.Counts.{Counts}
use Rattle.st_image.specs.Counts.{CanBeCounted, most_counted}
use Rattle.st_image.specs.Images.{ImageView, counts_of}
use Rattle.st_image.specs.Loaded.{image_at}
use Rattle.st_image.specs.Loading.{LoaderView}
use Rattle.st_image.specs.Parts.{world_of_parts}
use Rattle.st_image.specs.Worlds.{World}
use Rattle.st_wire.specs.Fields.{cons_of, each_of, text}
use Rattle.st_wire.specs.Tokens.{BeginsWith}
use Rattle.st_wire.proofs.Fronts.{member_more, object_read, unconverted}
use Rattle.st_file.specs.declared.texts.ActorText.{ActorText}
use Rattle.st_file.specs.declared.texts.ImageText.{ImageText}
use Rattle.st_file.specs.Describes.{Describes, LoadsImage}
use Rattle.st_file.specs.ImageJson.{document_members}
use Rattle.st_file.specs.Layers.{LoadsTable}
use Rattle.st_file.specs.Meanings.{actor_meant, all_of}
use Rattle.st_file.specs.Shapes.{actor_in, client_in, edit_in, image_in}
use Rattle.st_file.specs.Streaming.{BeginsActors, EndsWith, LoadsBehind, TellsBesides}
use Rattle.st_file.proofs.ItemForms.{ItemsReadAs}
use Rattle.st_file.proofs.ValueForms.{within_bounds}

-- ---- the members of an object, one after the other

pub ends_more : (found : Members) (k : List ℕ) (ts s r : List Token) (d : Data) (ms : Members) → read_key ts ≡ Some (Some k, s) → BeginsWith 126 s d r → length r < length s
    → EndsWith (put k d found) r ms → EndsWith found ts ms
ends_more found k ts s r d ms key first less on n enough =
    let some = read_key-shorter ts (Some k) s key in
    member_more (json.value 126) n k ts s r d (omega (arith, some, enough)) key first found ms [] (on (n - 1) (omega (arith, some, less, enough)))

pub ends_here : (found : Members) (ts : List Token) → read_key ts ≡ Some (None, []) → EndsWith found ts found
ends_here found ts closed n enough = ap (converted (λ js. of_members js found)) (members_end (json.value 126) n ts [] enough closed)

-- ---- what a document says

pub document_says : (actors edits names senders : Items) (found : List ActorText) (t : ImageText) → CanBeCounted t.counts
    → each_of actor_in actors ≡ Some found → each_of edit_in edits ≡ Some t.edits → each_of text names ≡ Some t.names → each_of client_in senders ≡ Some t.senders
    → image_in (object (document_members actors edits names senders t.counts)) ≡ Some (record t { actors = found })
document_says actors edits names senders found t counted rs es ns ss =
    let posts = within_bounds 0 most_counted t.counts.posts (omega arith) counted.posts in
    let steps = within_bounds 0 most_counted t.counts.steps (omega arith) counted.steps in
    rw (rs, es, posts, steps, ns, ss) refl

-- ---- texts that mean parts

parted : {T : Type 0} (one : Option T) (rest : Option (List T)) (all : List T) → cons_of one rest ≡ Some all → (x : T) × (xs : List T) × (one ≡ Some x) × (rest ≡ Some xs) × (x ∷ xs ≡ all)
parted (Some x) (Some xs) all is = (x, xs, refl, refl, same_Some (x ∷ xs) all is)
parted None rest all is = absurd cc
parted (Some x) None all is = absurd cc

meant_of : {T P : Type 0} (meaning : T → Option P) (o : Option T) (p : P) → option_and_then meaning o ≡ Some p → (t : T) × (o ≡ Some t) × (meaning t ≡ Some p)
meant_of meaning None p is = absurd cc
meant_of meaning (Some t) p is = (t, refl, is)

pub read_then_meant : {T P : Type 0} (form : Data → Option T) (meaning : T → Option P) (ds : Items) (parts : List P) → each_of (λ d. option_and_then meaning (form d)) ds ≡ Some parts
    → ItemsReadAs form meaning parts ds
read_then_meant form meaning no_items parts is = record { texts = []; read = refl; meant = is }
read_then_meant form meaning (item d ds) parts is =
    let both = parted (option_and_then meaning (form d)) (each_of (λ e. option_and_then meaning (form e)) ds) parts is in
    let one = meant_of meaning (form d) both.0 both.2 in
    let rest = read_then_meant form meaning ds both.1 both.3 in
    record {
      texts = one.0 ∷ rest.texts;
      read = ap₂ cons_of one.1 rest.read;
      meant = ap₂ cons_of one.2 rest.meant ∙ ap Some both.4;
    }

-- ---- the two ways over a text

abbrev behind_two : List Token → List Token
behind_two [] = []
behind_two (a ∷ []) = []
behind_two (a ∷ b ∷ ts) = ts

same_start : (all ts us : List Token) → BeginsActors all ts → BeginsActors all us → ts ≡ us
same_start all ts us p q = ap behind_two (sym p ∙ q)

-- what is passed is what is read
passed : (ts r s : List Token) (d : Data) → json.skip_value 126 ts ≡ Some r → BeginsWith 126 ts d s → (r ≡ s) × (length r < length ts)
passed ts r s d skips reads =
    let j = unconverted of_json (json.value 126 ts) d s reads in
    let skipped : json.skip_value 126 ts ≡ Some s = ap (option_map (λ p. p.1)) j.1 in
    (same_Some r s (sym skips ∙ skipped), skip_value-shorter 126 ts r skips)

document_read : (all : List ℕ) (actors behind : List Token) (items : Items) (ms : Members) → BeginsActors (tokens all) actors → BeginsWith 126 actors (array items) behind → length behind < length actors
    → EndsWith (member (codes "actors") (array items) no_members) behind ms → read all ≡ Some (object ms)
document_read all actors behind items ms begins reads less ends =
    let inner = Token.key (codes "actors") ∷ actors in
    object_read all inner ms begins
    (member_more (json.value 126) (length inner) (codes "actors") inner actors behind (array items) (omega arith) refl reads no_members ms [] (ends (length inner - 1) (omega (arith, less))))

-- ---- the image of a document

counts_again : (names : List (List ℕ)) (base : World) (counts : Counts) → counts_of (image_at names base counts) ≡ counts
counts_again names base counts =
    let posts : (counts_of (image_at names base counts)).posts ≡ counts.posts = omega arith in
    let steps : (counts_of (image_at names base counts)).steps ≡ counts.steps = omega arith in
    ap₂ (λ p s. record { posts = p; steps = s }) posts steps

-- the image that is made of what a text tells is that of the text's document
pub streamed : (all : List ℕ) (t : ImageText) (loaded : LoaderView) (i : ImageView) → CanBeCounted t.counts → TellsBesides (tokens all) t → LoadsTable t (Ok loaded) → LoadsBehind (tokens all) t loaded i
    → (v : Data) × (read all ≡ Some v) × LoadsImage v (Ok i)
streamed all t loaded i counted besides table behind =
    let told = behind.told in
    let rest = besides.rest in
    let start = same_start (tokens all) told.actors besides.actors told.begins besides.begins in
    let here = subst (λ ts. BeginsWith 126 ts (array told.items) told.behind) start told.reads in
    let end = passed besides.actors besides.behind told.behind (array told.items) besides.skips here in
    let reads = subst (λ ts. BeginsWith 126 besides.actors (array told.items) ts) (sym end.0) here in
    let meant = read_then_meant actor_in (actor_meant loaded.names loaded.edits) told.items behind.parts told.meant in
    let says = document_says told.items rest.edits rest.names rest.senders meant.texts t counted meant.read rest.edits_read rest.names_read rest.senders_read in
    let base = world_of_parts loaded.edits behind.parts t.senders in
    let counts = counts_again loaded.names base t.counts in
    let v = object (document_members told.items rest.edits rest.names rest.senders t.counts) in
    let described : Describes v loaded.names base (counts_of (image_at loaded.names base t.counts)) = record {
      text = record t { actors = meant.texts };
      named = table.0;
      loaded = loaded;
      parts = behind.parts;
      shape = says;
      names_load = table.1;
      edits_load = table.2;
      actors = record { meant = meant.meant; fit = behind.fit };
      senders = behind.senders;
      names_are = refl;
      world_is = refl;
      counts_are = counts;
    } in (
      v,
      document_read all besides.actors besides.behind told.items _ besides.begins reads end.1 (rest.ends told.items),
      subst (λ (j : ImageView). LoadsImage v (Ok j)) (sym behind.image) (described, ap (image_at loaded.names base) (sym counts)),
    )
