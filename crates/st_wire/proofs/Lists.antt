-- Lists that are read item by item.
use Rattle.std.proofs.Common.{◌≡◌, ℕ, ◌+◌, ◌<◌, List, [], ◌∷◌, ◌++◌, length, get_or, drop, Option, Some, None, option_map, refl, sym, ap, drop-cons, add-one, append_assoc}
use Rattle.serde_json.specs.Data.{Data, item}
use Rattle.serde_json.specs.View.{view, items_view}
use Rattle.serde_json.specs.declared.value.Value.{Value}
use Rattle.st_wire.specs.Fields.{each_of, cons_of}

-- the items before those that are still to be read
abbrev pub after : {T : Type 0} → List T → Option (List T) → Option (List T)
after found rest = option_map (λ more. found ++ more) rest

pub items_at : (vs : List Value) (i : ℕ) (d : Value) → i < length vs → items_view (drop i vs) ≡ item (view (get_or vs i d)) (items_view (drop (i + 1) vs))
items_at vs i d h = rw (add-one, drop-cons vs i d)

pub after_one : {T : Type 0} (found : List T) (x : T) (rest : Option (List T)) → after found (cons_of (Some x) rest) ≡ after (found ++ x ∷ []) rest
after_one found x None = refl
after_one found x (Some more) = ap Some (sym (append_assoc found (x ∷ []) more))

-- one item more
pub each-more : {T : Type 0} (f : Data → Option T) (vs : List Value) (i : ℕ) (d : Value) (x : T) (found : List T) → i < length vs → f (view (get_or vs i d)) ≡ Some x
    → after found (each_of f (items_view (drop i vs))) ≡ after (found ++ x ∷ []) (each_of f (items_view (drop (i + 1) vs)))
each-more f vs i d x found h e = rw (items_at vs i d h, e) (after_one found x _)

-- an item that is none
pub each-none : {T : Type 0} (f : Data → Option T) (vs : List Value) (i : ℕ) (d : Value) (found : List T) → i < length vs → f (view (get_or vs i d)) ≡ None
    → after found (each_of f (items_view (drop i vs))) ≡ None
each-none f vs i d found h e = rw (items_at vs i d h, e)
