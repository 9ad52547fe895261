-- Entries that are done one after the other.
use Rattle.std.proofs.Common.{◌≡◌, ℕ, ◌+◌, ◌<◌, List, [], ◌∷◌, ◌++◌, length, get_or, take, refl, sym, ◌∙◌, ap, subst}
use Rattle.std.proofs.lemmas.Grind.{take_at_read}
use Rattle.st_image.specs.Images.{ImageView}
use Rattle.st_image.specs.WorldInvariant.{IsLawful}
use Rattle.st_journal.specs.Entries.{Leads, LeadsAll}
use Rattle.st_journal.specs.declared.entries.Entry.{Entry}

leads_push : (i j k : ImageView) (es : List Entry) (e : Entry) → LeadsAll i es j → Leads j e k → IsLawful k → LeadsAll i (es ++ e ∷ []) k
leads_push i j k [] e so_far leads lawful = (k, subst (λ (x : ImageView). Leads x e k) so_far leads, lawful, refl)
leads_push i j k (x ∷ es) e so_far leads lawful = (so_far.0, so_far.1, so_far.2, leads_push so_far.0 j k es e so_far.3 leads lawful)

-- one entry more
pub leads_more : (i j k : ImageView) (es : List Entry) (n : ℕ) (e : Entry) → n < length es → e ≡ get_or es n e → LeadsAll i (take n es) j → Leads j e k → IsLawful k → LeadsAll i (take (n + 1) es) k
leads_more i j k es n e within is so_far leads lawful =
    let taken : take (n + 1) es ≡ take n es ++ e ∷ [] = (take_at_read es n e within).1 ∙ ap (λ (x : Entry). take n es ++ x ∷ []) (sym is) in
    subst (λ (xs : List Entry). LeadsAll i xs k) (sym taken) (leads_push i j k (take n es) e so_far leads lawful)
