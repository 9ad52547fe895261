-- An entry is refused as the call that does it again.
use Rattle.std.proofs.Common.{◌≡◌, ℕ, List, sym, subst}
use Rattle.std.specs.Prelude.{Result, Ok, Err, IfErr}
use Rattle.st_classes.specs.declared.values.ClassId.{ClassId}
use Rattle.st_image.specs.Images.{ImageView, image_define_rules}
use Rattle.st_journal.specs.declared.entries.Entry.{Entry}
use Rattle.st_journal.specs.declared.entries.Entry.TheVariants as entry
use Rattle.st_journal.specs.declared.redo_error.RedoError.{RedoError}
use Rattle.st_journal.specs.Refused.{OfRules, Refuses}

pub define_refused : (i : ImageView) (e : Entry) (name text : List ℕ) (parent : ClassId) (slots texts : List (List ℕ)) (r : Result (Unit {0}) RedoError) → e ≡ entry.Define name parent slots → text ≡ name → texts ≡ slots → IfErr r (λ x. OfRules (image_define_rules i text parent texts) x) → IfErr r (λ x. Refuses i e x)
define_refused i e name text parent slots texts (Ok u) is a b h = tt
define_refused i e name text parent slots texts (Err x) is a b h =
    subst (λ (f : Entry). Refuses i f x) (sym is)
    (subst (λ (t : List ℕ). OfRules (image_define_rules i t parent slots) x) a
    (subst (λ (ts : List (List ℕ)). OfRules (image_define_rules i text parent ts) x) b h))
